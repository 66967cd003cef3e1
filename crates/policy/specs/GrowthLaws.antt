-- A record gets one line more: if the line passes its check, every table of the new record loads.
use Rattle.std.specs.Prelude.{ℕ, ◌<◌, ◌≡◌, refl, true, not, ◌&&◌, List, eqb}
use Rattle.std.proofs.Common.{◌∙◌, subst, arith}
use Rattle.std.proofs.Math.Bool.{false}
use Rattle.std.proofs.Math.Decide.{dec_lt}
use Rattle.std.proofs.Math.Dec.{leb}
use borrow.Author.Tests.{ne_eqb, not-false, leb-true}
use Rattle.common.specs.Limits.{most_objects}
use Rattle.common.specs.Lists.{at}
use Rattle.common.specs.BoolLaws.{and_cases}
use Rattle.policy.specs.declared.Record.{Record}
use Rattle.policy.specs.Table.{Kind, head, user, edge, formula, demarcation, hierarchy, principal, exclusion, prerequisite, method}
use Rattle.policy.specs.Table.{end, code, is_kind, count, blank, appended}
use Rattle.policy.specs.Rows.{in_range, row_causes, row_refusal}
use Rattle.policy.specs.RowLaws.{passed}
use Rattle.policy.specs.Loadable.{table_loads}
use Rattle.policy.specs.LoadableLaws.{head_some}
use Rattle.policy.specs.RoomLaws.{room_left}
use Rattle.policy.specs.TableLaws.{same_kind, ColumnLengths, count_other, columns_other, table_kept, table_more, blank_loads}

-- a table without lines, of another kind than k, is the same after a line of kind k
table_empty : (k j : Kind) (r : Record) (v : List ℕ) → is_kind k j ≡ false → count j r ≡ 0 → table_loads (appended k r v) j ≡ table_loads r j
unfolding table_loads
table_empty k j r v e z = rw (count_other k j r v e, columns_other k j r v e, z)

module _ (k : Kind) (r : Record) (v : List ℕ) (low : 1 < code k) (high : code k < 0xFF) (s : ColumnLengths r)
    (loads : (j : Kind) → table_loads r j ≡ true)
    (empty : (j : Kind) → code k < code j → count j r ≡ 0) (passes : row_refusal k (count k r) r v ≡ 0) where
  -- THE LAW for a line of a kind other than head and end, when there are no lines of later kinds yet
  pub tables_more : (j : Kind) → table_loads (appended k r v) j ≡ true
  tables_more j = go (dec_lt (code j) (code k)) (dec_lt (code k) (code j))
    where
      go : Dec (code j < code k) → Dec (code k < code j) → table_loads (appended k r v) j ≡ true
      go (yes l) d = table_kept k j r v l ∙ loads j
      go (no h) (yes l) = table_empty k j r v (ne_eqb (code k) (code j) (λ z. omega arith)) (empty j l) ∙ loads j
      go (no h) (no h') =
          subst (λ (i : Kind). table_loads (appended k r v) i ≡ true) (same_kind k j (omega arith))
          (table_more k r v low high s (room_left k r v low high loads passes) (loads k) passes)

-- ---- the head, on the blank record

pub blank_empty : (j : Kind) → 1 < code j → count j blank ≡ 0
unfolding blank
blank_empty head l = absurd (omega arith)
blank_empty user l = refl
blank_empty edge l = refl
blank_empty formula l = refl
blank_empty demarcation l = refl
blank_empty hierarchy l = refl
blank_empty principal l = refl
blank_empty exclusion l = refl
blank_empty prerequisite l = refl
blank_empty method l = refl
blank_empty end l = refl

code_one : (k : Kind) → (1 < code k → ⊥) → code head ≡ code k
code_one head q = refl
code_one user q = absurd (q (omega arith))
code_one edge q = absurd (q (omega arith))
code_one formula q = absurd (q (omega arith))
code_one demarcation q = absurd (q (omega arith))
code_one hierarchy q = absurd (q (omega arith))
code_one principal q = absurd (q (omega arith))
code_one exclusion q = absurd (q (omega arith))
code_one prerequisite q = absurd (q (omega arith))
code_one method q = absurd (q (omega arith))
code_one end q = absurd (q (omega arith))

module _ (v : List ℕ) (passes : row_refusal head 1 blank v ≡ 0) where
  head_loads : table_loads (appended head blank v) head ≡ true
  unfolding row_refusal row_causes in_range appended
  head_loads =
      let range = not-false (eqb (at v 0) 1 && (leb 1 (at v 1) && leb (at v 1) most_objects))
      (passed false (not (eqb (at v 0) 1 && (leb 1 (at v 1) && leb (at v 1) most_objects))) false passes).1 in
      let p = and_cases (leb 1 (at v 1)) _ (and_cases (eqb (at v 0) 1) _ range).1 in
      head_some (appended head blank v) (leb-true 1 (at v 1) p.0) (leb-true (at v 1) most_objects p.1)

  pub tables_first : (j : Kind) → table_loads (appended head blank v) j ≡ true
  tables_first j = go (dec_lt 1 (code j))
    where
      go : Dec (1 < code j) → table_loads (appended head blank v) j ≡ true
      go (yes l) = table_empty head j blank v (ne_eqb 1 (code j) (λ q. omega arith)) (blank_empty j l) ∙ blank_loads j
      go (no h) = subst (λ (i : Kind). table_loads (appended head blank v) i ≡ true) (same_kind head j (code_one j h)) head_loads
