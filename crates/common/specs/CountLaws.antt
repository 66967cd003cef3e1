-- Laws of the number of a set's members, `ones` of the set's number.
use Rattle.std.specs.Prelude.{ℕ, suc, ◌+◌, ◌*◌, ◌/◌, ◌%◌, ◌^◌, ◌<◌, ◌≡◌, refl}
use Rattle.std.proofs.Common.{sym, ◌∙◌, ap, ⊎_elim, arith, pow-suc, one-mul, mul_comm, mod-lt, pow_pos}
use Rattle.std.proofs.Math.Arith.{bin_ind}
use Rattle.std.specs.Int.Count.{ones, ones_in, ones_step}
use Rattle.std.proofs.lemmas.Nat.{ones_cat, mod-pow-add}
use Rattle.common.specs.SetLaws.{bit, digit}

pub ones_zero : ones 0 ≡ 0
unfolding ones ones_in
ones_zero = refl

ones_one : ones 1 ≡ 1
unfolding ones ones_in
ones_one = refl

-- only the empty set has no member
pub no_ones : (y : ℕ) → ones y ≡ 0 → y ≡ 0
no_ones = bin_ind (λ (n : ℕ). ones n ≡ 0 → n ≡ 0) (λ e. refl) (λ n ih e.
    let s = ones_step n in
    let h : n / 2 ≡ 0 = ih (omega arith) in
    omega arith)

-- a member above all others is one more
pub ones_top : (m x : ℕ) → x < 2 ^ m → ones (2 ^ m + x) ≡ 1 + ones x
ones_top m x l = ap (λ (z : ℕ). ones (z + x)) (sym (one-mul (2 ^ m))) ∙ ones_cat m 1 x l ∙ ap (λ (z : ℕ). z + ones x) ones_one

-- the members below n, and n
pub ones_more : (s n : ℕ) → ones (s % 2 ^ suc n) ≡ ones (s % 2 ^ n) + bit n s
ones_more s n =
    let e : 1 + n ≡ suc n = omega arith in
    let one : ones (bit n s) ≡ bit n s = ⊎_elim (λ d. rw d ones_one) (λ d. rw d ones_zero) (digit (s / 2 ^ n)) in
    let c = ones_cat n (bit n s) (s % 2 ^ n) (mod-lt s (pow_pos n)) in
    ap (λ (k : ℕ). ones (s % 2 ^ k)) (sym e) ∙ ap ones (mod-pow-add s 1 n) ∙ omega (arith, c, one)

pub power_double : (m : ℕ) → 2 ^ suc m ≡ 2 * 2 ^ m
power_double m = pow-suc 2 m ∙ mul_comm (2 ^ m) 2
