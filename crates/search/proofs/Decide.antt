-- What a test says: that two sets meet, and that all of the numbers below n pass.
use Rattle.std.proofs.Common.{◌≡◌, ℕ, ◌<◌, Bool, true, subst, get_or, length, arith}
use Rattle.std.proofs.lemmas.List.FromFn.{length-range_with_len, get_or-range_with_len}
use Rattle.std.specs.Bool.{MatchBool}
use Rattle.std.specs.Int.Bits.{bit_and}
use Rattle.std.specs.List.{AllWithin, range_with_len}
use Rattle.common.specs.Sets.{In}
use Rattle.common.specs.SetLaws.{some_in, and_in_l, and_in_r, and_within, within_and, and_apart}

-- sets whose intersection is not empty have a member in common
pub common_member : (a b : ℕ) → (bit_and a b ≡ 0 → ⊥) → (k : ℕ) × In k a × In k b
common_member a b f = let (k, i) = some_in (bit_and a b) f in (k, and_in_l a b i, and_in_r a b i)

-- what the test of a guard says
pub ruleset guard_tests = (and_within, within_and, and_apart, common_member)

-- where `all` answers true over the numbers below n, each of them passes
pub all_below : (P : ℕ → Type 0) (Q : Type 0) {r : Bool} (n : ℕ)
    → MatchBool r (AllWithin P (range_with_len 0 n) 0 (length (range_with_len 0 n))) Q → r ≡ true → (p : ℕ) → p < n → P p
all_below P Q {r} n m t p l =
    let every : AllWithin P (range_with_len 0 n) 0 (length (range_with_len 0 n)) = rw t at m in
    let e : get_or (range_with_len 0 n) p 0 ≡ p = omega (arith, get_or-range_with_len 0 n p 0 l) in
    subst P e (every p 0 (omega arith) (omega (arith, length-range_with_len 0 n)))
