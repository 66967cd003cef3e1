-- What `octet_at` is, by the pairs of a text.
use Rattle.std.proofs.Common.{◌≡◌, ℕ, zero, suc, ◌+◌, ◌*◌, ◌/◌, ◌<◌, ◌≤◌, Bool, true, false, cond, ◌&&◌, ltb, List, [], length, take, drop, get_or, Some, None, refl, ap, ◌∙◌, arith, le-ltb}
use lib.ListN.{get_or-eq_default}
use lib.Seq.{drop-drop}
use Rattle.std.specs.Option.{unwrap_or}
use Rattle.std.specs.Simd.{first_chunks}
use Rattle.common.specs.Lists.{at}
use Rattle.common.specs.ListLaws.{drop_two}
use Rattle.common.specs.BoolLaws.{and_false}
use Rattle.octets.specs.Line.{digit_value, is_digit, octet}
use Rattle.octets.proofs.LineLaws.{value_below}
use Rattle.octets.specs.Answers.{octet_of, octet_at, pair_octet}

-- past the last pair there is no octet
pub past : (t : List ℕ) (k : ℕ) → length t / 2 ≤ k → octet_at t k ≡ 0
unfolding octet_at octet_of
past t k h =
    ap (λ (b : ℕ). octet_of (at t (2 * k)) b) (get_or-eq_default t 0 (let l : length t ≤ 2 * k + 1 = omega arith in l))
    ∙ rw (le-ltb (digit_value 0) 16 (omega (arith, value_below 0 (let l : 0 < 48 = omega arith in l))), and_false (ltb (digit_value (at t (2 * k))) 16))

-- the k-th pair of a text
chunk_at : (n k : ℕ) (t d : List ℕ) → k < n → get_or (first_chunks 2 n t) k d ≡ take 2 (drop (2 * k) t)
chunk_at zero k t d l = absurd (omega arith)
chunk_at (suc n) zero t d l = refl
chunk_at (suc n) (suc k) t d l =
    chunk_at n k (drop 2 t) d (omega arith)
    ∙ ap (take 2) (drop-drop (2 * k) 2 t ∙ ap (λ (m : ℕ). drop m t) (let e : 2 + 2 * k ≡ 2 * suc k = omega arith in e))

-- its octet, or 0
pub octet_here : (t : List ℕ) (k : ℕ) → k < length t / 2
    → unwrap_or (pair_octet (get_or (first_chunks 2 (length t / 2) t) k [])) 0 ≡ octet_at t k
unfolding octet_at octet_of
octet_here t k l =
    ap (λ (p : List ℕ). unwrap_or (pair_octet p) 0)
    (chunk_at (length t / 2) k t [] l ∙ ap (take 2) (drop_two t (2 * k) (omega arith)))
    ∙ go (is_digit (at t (2 * k)) && is_digit (at t (2 * k + 1)))
  where
    go : (x : Bool) → unwrap_or (cond x (Some (octet (at t (2 * k)) (at t (2 * k + 1)))) None) 0
        ≡ cond x (octet (at t (2 * k)) (at t (2 * k + 1))) 0
    go true = refl
    go false = refl
