-- The plain sum of a line's octets, as a loop over the body adds them up.
use Prim.Native.Nat.{ℕ, ◌+◌, ◌-◌, ◌*◌, ◌%◌, ◌≤◌, ◌<◌}
use mathlib.Core.Path.{◌≡◌, ◌∙◌, ap}
use mathlib.Core.List.{List, [], ◌∷◌, ◌++◌}
use native.Mathlib.Omega.{arith}
use native.Mathlib.Numerals.{add-one}
use lib.ListN.{length, take}
use lib.Seq.{take-suc, take_all}
use Rattle.common.specs.Lists.{at}
use Rattle.octets.specs.Line.{total, check, framed}
use Rattle.octets.proofs.WritingLaws.{total_append}

-- the length, the kind and so many octets of the body have been added
pub record Summed (kind : ℕ) (body : List ℕ) (sum i : ℕ) : Type 0 where
  pub added : sum ≡ length body + kind + total (take i body)
  pub small : sum ≤ length body + kind + 255 * i
  pub within : i ≤ length body

pub summed_more : {kind sum i o : ℕ} {body : List ℕ} → Summed kind body sum i → i < length body → o ≡ at body i → o ≤ 255
    → Summed kind body (sum + o) (i + 1)
summed_more {kind} {sum} {i} {o} {body} s l e h =
    let t : total (take (i + 1) body) ≡ total (take i body) + (at body i + 0) =
    ap (λ (n : ℕ). total (take n body)) (add-one i) ∙ ap total (take-suc body i 0 l) ∙ total_append (take i body) (at body i ∷ []) in
    record { added = omega (arith, s.added, t, e); small = omega (arith, s.small); within = omega arith }

pub summed_all : {kind sum i : ℕ} {body : List ℕ} → Summed kind body sum i → length body ≤ i
    → sum + (256 - sum % 256) % 256 ≡ total (framed kind body)
unfolding framed
summed_all {kind} {sum} {i} {body} s l =
    let whole : take i body ≡ body = take_all i body l in
    let t : total (take i body) ≡ total body = ap total whole in
    let n : sum ≡ length body + (kind + total body) = omega (arith, s.added) in
    let c = check (length body + (kind + total body)) in
    let u : total (body ++ (c ∷ [])) ≡ total body + (c + 0) = total_append body _ in
    let m : (256 - sum % 256) % 256 ≡ c = ap check n in
    omega (arith, u, m, n)
