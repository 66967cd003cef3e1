-- Laws of ops by ranges of their numbers: what a formula's parts and height are.
use Rattle.std.specs.Prelude.{ℕ, zero, suc, max, ◌+◌, ◌≤◌, ◌<◌, ◌≡◌, refl, ◌⊎◌, false, ◌&&◌, ltb, leb, eqb}
use Rattle.std.proofs.Common.{sym, inl, inr, ⊎_elim, eq-or-lt_of_le, arith, ne_eqb}
use Rattle.common.specs.Limits.{highest_label, highest_role, highest_slot}
use Rattle.rows.specs.Op.{unknown, op_of, parts_in_range, height_of}

-- an op above 11 is unknown
pub op_above : (op : ℕ) → 11 < op → op_of op ≡ unknown
op_above op l =
    rw (
      ne_eqb op 0 (λ e. omega arith),
      ne_eqb op 1 (λ e. omega arith),
      ne_eqb op 2 (λ e. omega arith),
      ne_eqb op 3 (λ e. omega arith),
      ne_eqb op 4 (λ e. omega arith),
      ne_eqb op 5 (λ e. omega arith),
      ne_eqb op 6 (λ e. omega arith),
      ne_eqb op 7 (λ e. omega arith),
      ne_eqb op 8 (λ e. omega arith),
      ne_eqb op 9 (λ e. omega arith),
      ne_eqb op 10 (λ e. omega arith),
      ne_eqb op 11 (λ e. omega arith),
    )

-- a range of two numbers
either : (n m : ℕ) → n ≤ m → m ≤ n + 1 → (m ≡ n) ⊎ (m ≡ n + 1)
either n m l h = ⊎_elim (λ e. inl (sym e)) (λ k. inr (omega arith)) (eq-or-lt_of_le l)

module _ (i a b : ℕ) where
  pub parts_plain : (op : ℕ) → op ≤ 2 → (eqb a 0 && eqb b 0) ≡ parts_in_range (op_of op) i a b
  parts_plain zero l = refl
  parts_plain (suc zero) l = refl
  parts_plain (suc (suc zero)) l = refl
  parts_plain (suc (suc (suc n))) l = absurd (omega arith)

  pub parts_role : (op : ℕ) → op ≡ 3 → (leb a highest_role && eqb b 0) ≡ parts_in_range (op_of op) i a b
  parts_role op e = rw e

  pub parts_not : (op : ℕ) → op ≡ 4 → (ltb a i && eqb b 0) ≡ parts_in_range (op_of op) i a b
  parts_not op e = rw e

  pub parts_two : (op : ℕ) → 5 ≤ op → op ≤ 6 → (ltb a i && ltb b i) ≡ parts_in_range (op_of op) i a b
  parts_two op l h = ⊎_elim (λ e. rw e) (λ e. rw e) (either 5 op l h)

  pub parts_step : (op : ℕ) → 7 ≤ op → op ≤ 8 → (leb a highest_label && ltb b i) ≡ parts_in_range (op_of op) i a b
  parts_step op l h = ⊎_elim (λ e. rw e) (λ e. rw e) (either 7 op l h)

  pub parts_keeping : (op : ℕ) → op ≡ 9 → (leb a highest_slot && ltb b i) ≡ parts_in_range (op_of op) i a b
  parts_keeping op e = rw e

  pub parts_in_slot : (op : ℕ) → op ≡ 10 → (leb a highest_slot && eqb b 0) ≡ parts_in_range (op_of op) i a b
  parts_in_slot op e = rw e

  pub parts_at_slot : (op : ℕ) → op ≡ 11 → (leb a highest_slot && ltb b i) ≡ parts_in_range (op_of op) i a b
  parts_at_slot op e = rw e

  pub parts_unknown : (op : ℕ) → 11 < op → false ≡ parts_in_range (op_of op) i a b
  parts_unknown op l = rw (op_above op l)

module _ (a b : ℕ) (part : ℕ → ℕ) where
  pub height_plain : (op : ℕ) → op ≤ 3 → 0 ≡ height_of (op_of op) a b part
  height_plain zero l = refl
  height_plain (suc zero) l = refl
  height_plain (suc (suc zero)) l = refl
  height_plain (suc (suc (suc zero))) l = refl
  height_plain (suc (suc (suc (suc n)))) l = absurd (omega arith)

  pub height_not : (op : ℕ) → op ≡ 4 → suc (part a) ≡ height_of (op_of op) a b part
  height_not op e = rw e

  pub height_two : (op : ℕ) → 5 ≤ op → op ≤ 6 → suc (max (part a) (part b)) ≡ height_of (op_of op) a b part
  height_two op l h = ⊎_elim (λ e. rw e) (λ e. rw e) (either 5 op l h)

  -- ops 7 to 9, and 11
  pub height_step : (op : ℕ) → 7 ≤ op → op ≤ 9 → suc (part b) ≡ height_of (op_of op) a b part
  height_step op l h =
      ⊎_elim (λ e. rw (← e) refl) (λ k. ⊎_elim (λ e. rw e) (λ e. rw e) (either 8 op k h)) (eq-or-lt_of_le l)

  pub height_at_slot : (op : ℕ) → op ≡ 11 → suc (part b) ≡ height_of (op_of op) a b part
  height_at_slot op e = rw e

  -- op 10, and an op above 11
  pub height_none : (op : ℕ) → 9 < op → (op ≡ 11 → ⊥) → 0 ≡ height_of (op_of op) a b part
  height_none op l n =
      ⊎_elim (λ e. rw (← e) refl) (λ k. ⊎_elim (λ e. absurd (n (sym e))) (λ m. rw (op_above op m)) (eq-or-lt_of_le k)) (eq-or-lt_of_le l)
