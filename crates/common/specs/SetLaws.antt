-- The members of a set that is a number: of an and, an or and a sum of two.
use Rattle.std.specs.Prelude.{◌≡◌, refl, ◌⊎◌, true, ℕ, ◌+◌, ◌*◌, ◌/◌, ◌%◌, ◌^◌, ◌≤◌, ◌<◌, min, max}
use Rattle.std.proofs.Common.{sym, ap, subst, ◌∙◌, inl, inr, ⊎_elim, mod-lt, eq-or-lt_of_le, lt_of_lt_of_le, le-div_iff_mul-le, arith, eqb-true, eq-eqb, pow_pos, pow_mono, shr-shr}
use Rattle.std.proofs.Math.Nat.{div-eq_of_lt, div_self}
use Rattle.std.proofs.Math.Decide.{dec_le}
use Rattle.std.proofs.Math.Arith.{bin_ind}
use Rattle.std.proofs.Math.Pow.{pow-lt}
use Rattle.std.specs.Int.Bits.{bit_and, bit_or, and_step, or_step, and_shifted}
use Rattle.std.proofs.lemmas.Nat.{and_shr, or_shr, or_shifted}
use Rattle.common.specs.Sets.{member, In, Apart, Within}

pub le_or_lt : (a b : ℕ) → (a ≤ b) ⊎ (b < a)
le_or_lt a b = elim (dec_le a b) [ yes h ↦ inl h | no f ↦ inr (omega arith) ]

-- membership as a test and as a statement
pub member_in : {p s : ℕ} → member p s ≡ true → In p s
member_in {p} {s} e = record { bit = eqb-true (s / 2 ^ p % 2) 1 e }

pub in_member : {p s : ℕ} → In p s → member p s ≡ true
in_member {p} {s} i = eq-eqb (s / 2 ^ p % 2) 1 i.bit

abbrev pub bit : ℕ → ℕ → ℕ
bit p m = m / 2 ^ p % 2

pub bit_and_lem : (p a b : ℕ) → bit p (bit_and a b) ≡ min (bit p a) (bit p b)
bit_and_lem p a b = ap (λ (x : ℕ). x % 2) (and_shr a b p) ∙ omega (arith, and_step (a / 2 ^ p) (b / 2 ^ p))

pub bit_or_lem : (p a b : ℕ) → bit p (bit_or a b) ≡ max (bit p a) (bit p b)
bit_or_lem p a b = ap (λ (x : ℕ). x % 2) (or_shr a b p) ∙ omega (arith, or_step (a / 2 ^ p) (b / 2 ^ p))

bit_half : (p m : ℕ) → bit p (m / 2) ≡ bit (1 + p) m
bit_half p m = ap (λ (x : ℕ). x % 2) (shr-shr m 1 p)

zero_bit : (p : ℕ) → bit p 0 ≡ 0
zero_bit p = ap (λ (x : ℕ). x % 2) (div-eq_of_lt (pow_pos p))

pub bit_two : (p m : ℕ) → bit p m < 2
bit_two p m = mod-lt (m / 2 ^ p) (pow_pos 1)

-- a set with no member is 0
pub empty : (m : ℕ) → ((p : ℕ) → bit p m ≡ 0) → m ≡ 0
empty =
    bin_ind (λ (n : ℕ). ((p : ℕ) → bit p n ≡ 0) → n ≡ 0) (λ f. refl)
    (λ n ih f. let h = ih (λ p. bit_half p n ∙ f (1 + p)) in let l = f 0 in omega arith)

-- two sets with the same members are one
pub ext : (a b : ℕ) → ((p : ℕ) → bit p a ≡ bit p b) → a ≡ b
ext =
    bin_ind (λ (n : ℕ). (b : ℕ) → ((p : ℕ) → bit p n ≡ bit p b) → n ≡ b)
    (λ b f. sym (empty b (λ p. sym (f p) ∙ zero_bit p)))
    (λ n ih b f. let h = ih (b / 2) (λ p. bit_half p n ∙ f (1 + p) ∙ sym (bit_half p b)) in let l = f 0 in omega arith)

-- a digit is 1 or 0
pub digit : (x : ℕ) → (x % 2 ≡ 1) ⊎ (x % 2 ≡ 0)
digit x = ⊎_elim (λ e. inl e) (λ l. inr (omega arith)) (eq-or-lt_of_le {n = x % 2} {m = 1} (omega arith))

-- a set that is not 0 has a member
pub some_in : (m : ℕ) → (m ≡ 0 → ⊥) → (p : ℕ) × In p m
some_in =
    bin_ind (λ (n : ℕ). (n ≡ 0 → ⊥) → (p : ℕ) × In p n) (λ f. absurd (f refl))
    (λ n ih f. ⊎_elim
    (λ e. (0, record { bit = omega arith }))
    (λ e. let r = ih (λ z. f (omega arith)) in (1 + r.0, record { bit = sym (bit_half r.0 n) ∙ r.1.bit }))
    (digit n))

pub none_in_zero : (p : ℕ) → In p 0 → ⊥
none_in_zero p i = omega (arith, zero_bit p, i.bit)

-- p is a member, or not
pub in_or_out : (p m : ℕ) → In p m ⊎ (bit p m ≡ 0)
in_or_out p m = ⊎_elim (λ e. inl (record { bit = e })) (λ e. inr e) (digit (m / 2 ^ p))

-- ---- and

pub in_and : {p a b : ℕ} → In p a → In p b → In p (bit_and a b)
in_and {p} {a} {b} i j = record { bit = omega (arith, bit_and_lem p a b, i.bit, j.bit) }

pub and_in_l : {p : ℕ} (a b : ℕ) → In p (bit_and a b) → In p a
and_in_l {p} a b i = record { bit = omega (arith, bit_and_lem p a b, i.bit, bit_two p a) }

pub and_in_r : {p : ℕ} (a b : ℕ) → In p (bit_and a b) → In p b
and_in_r {p} a b i = record { bit = omega (arith, bit_and_lem p a b, i.bit, bit_two p b) }

pub apart_and : (a b : ℕ) → Apart a b → bit_and a b ≡ 0
apart_and a b f = empty (bit_and a b) (λ p. ⊎_elim (λ i. absurd (f p (and_in_l a b i) (and_in_r a b i))) (λ e. e) (in_or_out p (bit_and a b)))

pub and_apart : (a b : ℕ) → bit_and a b ≡ 0 → Apart a b
and_apart a b e q i j = none_in_zero q (subst (λ (x : ℕ). In q x) e (in_and i j))

pub within_and : (a b : ℕ) → Within a b → bit_and a b ≡ a
within_and a b f = ext (bit_and a b) a (λ p. ⊎_elim
    (λ i. (in_and i (f p i)).bit ∙ sym i.bit)
    (λ e. omega (arith, bit_and_lem p a b))
    (in_or_out p a))

pub and_within : (a b : ℕ) → bit_and a b ≡ a → Within a b
and_within a b e q i = and_in_r a b (subst (λ (x : ℕ). In q x) (sym e) i)

-- ---- or

pub in_or_l : {p : ℕ} {a : ℕ} (b : ℕ) → In p a → In p (bit_or a b)
in_or_l {p} {a} b i = record { bit = omega (arith, bit_or_lem p a b, i.bit, bit_two p b) }

pub in_or_r : {p : ℕ} (a : ℕ) {b : ℕ} → In p b → In p (bit_or a b)
in_or_r {p} a {b} i = record { bit = omega (arith, bit_or_lem p a b, i.bit, bit_two p a) }

pub or_in : {p : ℕ} (a b : ℕ) → In p (bit_or a b) → In p a ⊎ In p b
or_in {p} a b i = ⊎_elim (λ j. inl j) (λ e. inr (record { bit = omega (arith, bit_or_lem p a b, i.bit) })) (in_or_out p a)

-- ---- where the members of a number lie

pub in_lt : {p s : ℕ} (n : ℕ) → In p s → s < 2 ^ n → p < n
in_lt {p} {s} n i h = ⊎_elim
    (λ l. absurd (let z : s / 2 ^ p ≡ 0 = div-eq_of_lt (lt_of_lt_of_le h (pow_mono l)) in let o = i.bit in omega arith))
    (λ l. l)
    (le_or_lt n p)

-- a number from 2^n on has a member from n on
pub high_in : (n : ℕ) {c : ℕ} → 2 ^ n ≤ c → (p : ℕ) × In p c × (n ≤ p)
high_in n {c} l =
    let (p, i) = some_in (c / 2 ^ n) (λ z. let k : 1 ≤ c / 2 ^ n = (le-div_iff_mul-le (pow_pos n)).1 (omega arith) in omega arith) in
    (n + p, record { bit = ap (λ (x : ℕ). x % 2) (sym (shr-shr c n p)) ∙ i.bit }, omega arith)

-- a number whose members are all below n is below 2^n
pub all_lt : (n c : ℕ) → ((p : ℕ) → In p c → p < n) → c < 2 ^ n
all_lt n c h = ⊎_elim
    (λ l. absurd (let (p, i, k) = high_in n {c = c} l in let b = h p i in omega arith))
    (λ l. l)
    (le_or_lt (2 ^ n) c)

pub in_pow : (p : ℕ) → In p (2 ^ p)
in_pow p = record { bit = ap (λ (x : ℕ). x % 2) (div_self (pow_pos p)) }

pub in_ge : {p c : ℕ} (h n : ℕ) → c ≡ h * 2 ^ n → In p c → n ≤ p
in_ge {p} {c} h n e i = ⊎_elim
    (λ l. l)
    (λ l. absurd (and_apart (h * 2 ^ n) (2 ^ p) (and_shifted h n (2 ^ p) (pow-lt l)) p (subst (λ (x : ℕ). In p x) e i) (in_pow p)))
    (le_or_lt n p)

pub pow_in : {q : ℕ} (p : ℕ) → In q (2 ^ p) → q ≡ p
pow_in {q} p i = omega (arith, in_lt (1 + p) i (pow-lt (omega arith)), in_ge 1 p (omega arith) i)

-- ---- a sum of a set of principals from n on and one below n

module _ (h n : ℕ) {c x : ℕ} (e : c ≡ h * 2 ^ n) (l : x < 2 ^ n) where
  sum_or : c + x ≡ bit_or c x
  sum_or = rw e (sym (or_shifted h n x l))

  pub in_sum_l : {q : ℕ} → In q c → In q (c + x)
  in_sum_l {q} i = subst (λ (z : ℕ). In q z) (sym sum_or) (in_or_l x i)

  pub in_sum_r : {q : ℕ} → In q x → In q (c + x)
  in_sum_r {q} i = subst (λ (z : ℕ). In q z) (sym sum_or) (in_or_r c i)

  pub sum_in : {q : ℕ} → In q (c + x) → In q c ⊎ In q x
  sum_in {q} i = or_in c x (subst (λ (z : ℕ). In q z) sum_or i)
