-- A number of several octets, as a loop reads it.
use Rattle.std.specs.Prelude.{ℕ, ◌+◌, ◌*◌, ◌^◌, ◌≤◌, ◌<◌, ◌≡◌, refl, List, length, take, drop}
use Rattle.std.proofs.Common.{sym, ◌∙◌, ap, subst, arith, add-one, pow-suc, length-take}
use native.Mathlib.Nat.{pow-le-pow_right}
use lib.Seq.{get_or-take, get_or-drop}
use Rattle.common.specs.Lists.{at, table}
use Rattle.octets.proofs.NumberLaws.{number_last}
use Rattle.lines.specs.NextLine.{number_at}

pub record Value (os : List ℕ) (k value i : ℕ) : Type 0 where
  pub same : value ≡ number_at os k i
  pub below : value < 256 ^ i

pub value_none : {os : List ℕ} {k : ℕ} → Value os k 0 0
unfolding number_at
value_none = record { same = refl; below = omega arith }

module _ {os : List ℕ} {k value i : ℕ} (v : Value os k value i) where
  value_next : {o : ℕ} → o ≡ at os (k + i) → o < 256 → Value os k (value * 256 + o) (i + 1)
  unfolding number_at
  value_next {o} e l =
      record {
        same =
            (λ j. v.same j * 256 + e j)
            ∙ sym (number_last 0 (table i (λ x. at os (k + x))) (at os (k + i)))
            ∙ ap (number_at os k) (sym (add-one i));
        below =
            subst (λ (m : ℕ). value * 256 + o < m) (sym (pow-suc 256 i) ∙ ap (λ (n : ℕ). 256 ^ n) (sym (add-one i)))
            (let b = v.below in omega arith);
      }

  -- the next octet, of a part of m octets from the k-th on
  pub value_more : (m : ℕ) {o : ℕ} → i < length (take m (drop k os)) → o ≡ at (take m (drop k os)) i → o < 256
      → Value os k (value * 256 + o) (i + 1)
  value_more m {o} l e f =
      value_next (e ∙ get_or-take m (drop k os) i 0 (omega (arith, length-take m (drop k os))) ∙ get_or-drop k os i 0) f

  -- which has 8 at most, so that there is room for one more
  pub value_fits : (m : ℕ) → i < length (take m (drop k os)) → m ≤ 8 → value < 256 ^ 7
  value_fits m l h =
      let z : 0 < 256 = omega arith in
      let s : i ≤ 7 = omega (arith, length-take m (drop k os)) in
      let p : 256 ^ i ≤ 256 ^ 7 = pow-le-pow_right z s in let b = v.below in omega arith
