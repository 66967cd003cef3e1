-- What the lines of a record whose tables load name is there.
use Rattle.std.specs.Prelude.{ℕ, ◌<◌, ◌≡◌, refl, Bool, true, false, not, ◌&&◌, ltb, leb, eqb}
use Rattle.std.proofs.Common.{sym, ◌∙◌, ap}
use Rattle.std.proofs.lemmas.Bool.{false≢true}
use native.Mathlib.Omega.{arith}
use borrow.Author.Tests.{ltb-true}
use Rattle.common.specs.Limits.{most_principals}
use Rattle.common.specs.Lists.{at, below}
use Rattle.common.specs.ListLaws.{every_at, length_table, table_at}
use Rattle.common.specs.BoolLaws.{and_cases}
use Rattle.common.specs.Causes.{first}
use Rattle.rows.specs.Checks.{causes}
use Rattle.policy.specs.declared.Record.{Record}
use Rattle.policy.specs.Table.{Kind, principal, exclusion, count, room, row}
use Rattle.policy.specs.Rows.{limited, in_range, rising, key, minimum_key, row_causes, row_refusal}
use Rattle.policy.specs.Loadable.{table_loads}
use Rattle.policy.specs.LoadableLaws.{table_rows, table_few}

in_range_lem : (l x y : Bool) → eqb (first (causes l (not x) y)) 0 ≡ true → x ≡ true
in_range_lem true x y e = absurd (false≢true e)
in_range_lem false true y e = refl
in_range_lem false false y e = absurd (false≢true e)

-- each line of a table that loads is in range
pub line_in_range : (r : Record) (k : Kind) → table_loads r k ≡ true → (i : ℕ) → i < count k r → in_range k i r (row k i r) ≡ true
unfolding row_refusal row_causes
line_in_range r k e i l =
    let h = every_at (λ j. eqb (row_refusal k j r (row k j r)) 0) (below (count k r)) i 0 (table_rows r k e)
    (omega (arith, length_table (count k r) (λ (j : ℕ). j))) in
    in_range_lem (limited k && leb (room k) i) (in_range k i r (row k i r)) (rising k && ltb (key k (row k i r)) (minimum_key k i r))
    (ap (λ (j : ℕ). eqb (row_refusal k j r (row k j r)) 0) (sym (table_at (count k r) (λ (j : ℕ). j) i 0 l)) ∙ h)

module _ (r : Record) (loads : (j : Kind) → table_loads r j ≡ true) (i : ℕ) where
  pub principal_named : i < r.principal_count
      → (at r.principal_formulas i < r.formula_count) × (at r.principal_demarcations i < r.demarcation_count)
  unfolding in_range
  principal_named l =
      let (f, d) = and_cases (ltb (at r.principal_formulas i) r.formula_count) _ (line_in_range r principal (loads principal) i l)
      in
      (ltb-true _ _ f, ltb-true _ _ d)

  pub exclusion_named : i < r.exclusion_count
      → (at r.exclusion_lows i < most_principals) × (at r.exclusion_highs i < most_principals)
  unfolding in_range
  exclusion_named l =
      let (a, b) = and_cases (ltb (at r.exclusion_lows i) (at r.exclusion_highs i)) _
      (line_in_range r exclusion (loads exclusion) i l) in
      let x = ltb-true (at r.exclusion_lows i) (at r.exclusion_highs i) a in
      let y = ltb-true (at r.exclusion_highs i) r.principal_count b in
      let few = table_few r principal (loads principal) in
      (omega arith, omega arith)
