-- Request 2026-05: "The highest formula in service has height 5. Make that the limit in place of 8. Height 6 is out of range, in a bundle
-- and in a record handed in." The limit is `greatest_height`; no law here knows which number it is.
use Rattle.std.specs.Prelude.{ℕ, zero, suc, ◌≤◌, ◌<◌, ◌≡◌, Bool, false, not, List, [], ◌∷◌}
use Rattle.std.proofs.Math.Path.{refl}
use Rattle.std.proofs.Common.{sym, ◌∙◌, ap, arith}
use Rattle.std.proofs.Math.Bool.{true}
use Rattle.std.proofs.Math.Decide.{ℕ_discrete}
use Rattle.std.proofs.Math.Dec.{leb}
use borrow.Author.Tests.{eq-eqb, ne_eqb, le-leb, lt-leb, leb-true}
use Rattle.common.specs.Limits.{most_formulas, greatest_height}
use Rattle.common.specs.Lists.{at}
use Rattle.common.specs.BoolLaws.{and_cases, and_true, and_false}
use Rattle.common.specs.Causes.{first}
use Rattle.common.specs.Refusals.{out_of_range}
use Rattle.rows.specs.Op.{op_of, parts_in_range, height_of}
use Rattle.rows.specs.Checks.{causes}
use Rattle.policy.specs.declared.Record.{Record}
use Rattle.policy.specs.Table.{formula}
use Rattle.policy.specs.Height.{height_in, height}
use Rattle.policy.specs.Rows.{in_range, row_causes, row_refusal}
use Rattle.policy.specs.Loadable.{loadable}
use Rattle.policy.specs.LoadableLaws.{loadable_table}
use Rattle.policy.specs.NamedLaws.{line_in_range}
use Rattle.reading.specs.Loading.{Reading, misplaced, end_wrong, line_refusal, load}
use Rattle.reading.specs.LoadingLaws.{as_loaded}
use Rattle.reading.specs.Body.{numbers}

-- the height of a formula (op, a, b) that stands behind the record's first i formulas
abbrev pub height_behind : Record → ℕ → ℕ → ℕ → ℕ → ℕ
height_behind r i op a b = height_of (op_of op) a b (height r i)

-- ---- "in a bundle"

module _ (r : Record) (i op a b : ℕ) where
  -- where there is room for one more, a formula that is too high is out of range, whatever its parts
  pub too_high_line : i < most_formulas → greatest_height < height_behind r i op a b → row_refusal formula i r (op ∷ a ∷ b ∷ []) ≡ out_of_range
  unfolding row_refusal row_causes in_range
  too_high_line l h =
      rw (lt-leb most_formulas i l, lt-leb (height_behind r i op a b) greatest_height h, and_false (parts_in_range (op_of op) i a b)) refl

  -- one that is not is refused as if there were no limit
  pub low_line : height_behind r i op a b ≤ greatest_height
      → row_refusal formula i r (op ∷ a ∷ b ∷ []) ≡ first (causes (leb most_formulas i) (not (parts_in_range (op_of op) i a b)) false)
  unfolding row_refusal row_causes in_range
  low_line h = rw (le-leb (height_behind r i op a b) greatest_height h, and_true (parts_in_range (op_of op) i a b)) refl

-- the same of a line at its place in a text, behind lines that passed
pub too_high_refused : (t : Reading) (os : List ℕ) (op a b : ℕ) → misplaced t formula os ≡ false → numbers formula os ≡ op ∷ a ∷ b ∷ []
    → t.rules.formula_count < most_formulas → greatest_height < height_behind t.rules t.rules.formula_count op a b
    → line_refusal t formula os ≡ out_of_range
unfolding line_refusal end_wrong row_refusal row_causes
too_high_refused t os op a b placed says l h =
    rw placed (ap (row_refusal formula t.rules.formula_count t.rules) says)
    ∙ too_high_line t.rules t.rules.formula_count op a b l h

-- ---- "and in a record handed in"

-- the height of the record's formula f, from those before it alone
abbrev height_at : Record → ℕ → ℕ
height_at r f = height_behind r f (at r.formula_ops f) (at r.formula_lefts f) (at r.formula_rights f)

-- it stays the same however many follow
height_stays : (r : Record) (n f : ℕ) → f < n → height r n f ≡ height_at r f
unfolding height_in
height_stays r zero f l = absurd (omega arith)
height_stays r (suc n) f l = go (ℕ_discrete f n) (height_stays r n f)
  where
    go : Dec (f ≡ n) → (f < n → height r n f ≡ height_at r f) → height r (suc n) f ≡ height_at r f
    go (yes e) before =
        rw (eq-eqb f n e)
        (ap (λ (k : ℕ). height_behind r k (at r.formula_ops f) (at r.formula_lefts f) (at r.formula_rights f)) (sym e))
    go (no q) before = rw (ne_eqb f n q) (before (omega arith))

module _ (r : Record) (f : ℕ) (there : f < r.formula_count) where
  -- no formula of a record that passes 19 is too high
  pub none_too_high : loadable r ≡ true → height r r.formula_count f ≤ greatest_height
  unfolding in_range
  none_too_high loads =
      let fits = line_in_range r formula (loadable_table r loads formula) f there in
      let low : leb (height_at r f) greatest_height ≡ true =
      (and_cases (parts_in_range (op_of (at r.formula_ops f)) f (at r.formula_lefts f) (at r.formula_rights f)) _ fits).1 in
      omega (arith, leb-true (height_at r f) greatest_height low, height_stays r r.formula_count f there)

  -- a record with one that is does not pass: 19, by every call
  pub too_high_19 : greatest_height < height r r.formula_count f → loadable r ≡ false
  too_high_19 h = go (loadable r) none_too_high
    where
      go : (x : Bool) → (x ≡ true → height r r.formula_count f ≤ greatest_height) → x ≡ false
      go true low = absurd (omega (arith, low refl))
      go false low = refl

-- so that no text loads to one
pub loaded_none_too_high : (text : List ℕ) → (load text).number ≡ 0 → (f : ℕ) → f < (load text).rules.formula_count
    → height (load text).rules (load text).rules.formula_count f ≤ greatest_height
loaded_none_too_high text e f there = none_too_high (load text).rules f there (as_loaded text e).loads
