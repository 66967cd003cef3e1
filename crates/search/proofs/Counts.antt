-- How many members a set has, and how many of them are role principals, where R is the set of these.
use Rattle.std.proofs.Common.{◌≡◌, ℕ, ◌+◌, ◌*◌, ◌/◌, ◌%◌, ◌^◌, ◌<◌, ◌≤◌, sym, refl, ap, ◌∙◌, subst, lt_of_le_of_lt, mod-lt, mod-eq_of_lt, one-mul, arith, pow_pos}
use Rattle.std.proofs.Math.Arith.{bin_ind}
use Rattle.std.proofs.Math.Pow.{split}
use Rattle.std.proofs.lemmas.Nat.{and_block, and_mod, and_comm, and_le_l, ones_cat}
use Rattle.std.specs.Int.Bits.{bit_and, and_step}
use Rattle.std.specs.Int.Count.{ones, ones_step}
use Rattle.common.specs.CountLaws.{ones_zero}
use Rattle.common.specs.Sets.{Within}
use Rattle.common.specs.SetLaws.{in_and, and_in_l, and_in_r, within_and}

-- a part has no more members than the whole
pub ones_and : (a b : ℕ) → ones (bit_and a b) ≤ ones a
ones_and = bin_ind (λ (n : ℕ). (b : ℕ) → ones (bit_and n b) ≤ ones n) (λ b. omega arith) (λ n ih b.
    let h = ih (b / 2) in
    let e : bit_and n b / 2 ≡ bit_and (n / 2) (b / 2) = omega (arith, and_step n b) in
    omega (arith, ones_step (bit_and n b), ones_step n, ap ones e, and_step n b))

pub within_ones : (a b : ℕ) → Within a b → ones a ≤ ones b
within_ones a b f = subst (λ (z : ℕ). ones z ≤ ones b) (and_comm b a ∙ within_and a b f) (ones_and b a)

-- nor more role principals
pub within_role_count : (R a b : ℕ) → Within a b → ones (bit_and a R) ≤ ones (bit_and b R)
within_role_count R a b f =
    within_ones (bit_and a R) (bit_and b R) (λ q i. in_and (f q (and_in_l a R i)) (and_in_r a R i))

-- a part with as many members as the whole is the whole
whole_part : (a b : ℕ) → ones a ≤ ones (bit_and a b) → bit_and a b ≡ a
whole_part = bin_ind (λ (n : ℕ). (b : ℕ) → ones n ≤ ones (bit_and n b) → bit_and n b ≡ n) (λ b l. refl) (λ n ih b l.
    let e : bit_and n b / 2 ≡ bit_and (n / 2) (b / 2) = omega (arith, and_step n b) in
    let h : bit_and (n / 2) (b / 2) ≡ n / 2 =
    ih (b / 2) (omega (arith, ones_step (bit_and n b), ones_step n, ap ones e, and_step n b)) in
    omega (arith, and_step n b, ones_step (bit_and n b), ones_step n, ap ones e, ap ones h))

pub same_members : (a b : ℕ) → Within a b → ones b ≤ ones a → a ≡ b
same_members a b f l =
    let e : bit_and b a ≡ a = and_comm b a ∙ within_and a b f in
    sym e ∙ whole_part b a (omega (arith, ap ones e))

-- two parts and what both have in common
both_parts : (a b c : ℕ) → ones (bit_and a b) + ones (bit_and a c) ≤ ones a + ones (bit_and (bit_and a b) c)
both_parts = bin_ind (λ (n : ℕ). (b c : ℕ) → ones (bit_and n b) + ones (bit_and n c) ≤ ones n + ones (bit_and (bit_and n b) c)) (λ b c. omega arith)
    (λ n ih b c.
    let h = ih (b / 2) (c / 2) in
    let e : bit_and n b / 2 ≡ bit_and (n / 2) (b / 2) = omega (arith, and_step n b) in
    let f : bit_and n c / 2 ≡ bit_and (n / 2) (c / 2) = omega (arith, and_step n c) in
    let s = and_step (bit_and n b) c in
    let g : bit_and (bit_and n b) c / 2 ≡ bit_and (bit_and n b / 2) (c / 2) = omega arith in
    let o = ones_step (bit_and (bit_and n b) c) in
    let i = ap ones (g ∙ ap (λ (z : ℕ). bit_and z (c / 2)) e) in
    omega (arith, ones_step (bit_and n b), ones_step (bit_and n c), ones_step n, ap ones e, ap ones f, and_step n b, and_step n c))

-- those of a whole that are no role principals are no fewer than those of its part
pub within_others : (R a b : ℕ) → Within a b → ones a + ones (bit_and b R) ≤ ones b + ones (bit_and a R)
within_others R a b f =
    subst (λ (z : ℕ). ones z + ones (bit_and b R) ≤ ones b + ones (bit_and z R)) (and_comm b a ∙ within_and a b f) (both_parts b a R)

-- the empty set has no role principal
pub role_count_zero : (R : ℕ) → ones (bit_and 0 R) ≡ 0
role_count_zero R = omega (arith, ones_and 0 R, ones_zero)

module _ (R n y : ℕ) (l : y < 2 ^ n) where
  and_low : bit_and y (R % 2 ^ n) ≡ bit_and y R
  and_low =
      ap (λ (z : ℕ). bit_and z (R % 2 ^ n)) (sym (mod-eq_of_lt l)) ∙ sym (and_mod y R n)
      ∙ mod-eq_of_lt (lt_of_le_of_lt (and_le_l y R) l)

  -- of a set in two parts, those of each
  pub role_count_cat : (h : ℕ) → ones (bit_and (h * 2 ^ n + y) R) ≡ ones (bit_and h (R / 2 ^ n)) + ones (bit_and y R)
  role_count_cat h =
      ap ones
      (ap (bit_and (h * 2 ^ n + y)) (sym (split R n))
      ∙ and_block n h (R / 2 ^ n) y (R % 2 ^ n) l (mod-lt R (pow_pos n))
      ∙ ap (λ (z : ℕ). bit_and h (R / 2 ^ n) * 2 ^ n + z) and_low)
      ∙ ones_cat n (bit_and h (R / 2 ^ n)) (bit_and y R) (lt_of_le_of_lt (and_le_l y R) l)

-- of one member above all others, and the rest
pub role_count_top : (R m x : ℕ) → x < 2 ^ m → ones (bit_and (2 ^ m + x) R) ≡ ones (bit_and (2 ^ m) R) + ones (bit_and x R)
role_count_top R m x l =
    let one : (y : ℕ) → 1 * 2 ^ m + y ≡ 2 ^ m + y = λ y. omega (arith, one-mul (2 ^ m)) in
    let e : 2 ^ m + 0 ≡ 2 ^ m = omega arith in
    omega (
      arith,
      ap (λ (z : ℕ). ones (bit_and z R)) (sym (one x)) ∙ role_count_cat R m x l 1,
      ap (λ (z : ℕ). ones (bit_and z R)) (sym (one 0 ∙ e)) ∙ role_count_cat R m 0 (pow_pos m) 1,
      role_count_zero R,
    )
