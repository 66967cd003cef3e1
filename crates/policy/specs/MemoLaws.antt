-- Each table of a record is taken as before with another index or memo. So whether some bundle loads to it does not depend on its memo,
-- and a record whose tables load and which has no circles is loadable with its index built anew.
use Prim.Native.Nat.{ℕ, zero, suc}
use Rattle.std.specs.Prelude.{◌≡◌, true, ◌&&◌}
use Rattle.std.proofs.Math.Path.{refl}
use Rattle.std.proofs.Common.{◌∙◌}
use Rattle.std.proofs.Math.Dec.{leb, eqb}
use Rattle.common.specs.Lists.{every, below}
use Rattle.edge_index.specs.declared.EdgeIndex.{EdgeIndex}
use Rattle.policy.specs.declared.Record.{Record}
use Rattle.policy.specs.declared.Memo.{Memo}
use Rattle.policy.specs.Table.{Kind, head, user, edge, formula, demarcation, hierarchy, principal, exclusion, prerequisite, method}
use Rattle.policy.specs.Table.{end}
use Rattle.policy.specs.Table.{kinds, count, columns, room, row, rows, index_of, with_edges, with_memo, with_index, indexed}
use Rattle.policy.specs.Rows.{in_range, row_causes, row_refusal}
use Rattle.policy.specs.Loadable.{zero_from, table_loads, no_circles, index_agrees, loadable}
use Rattle.policy.specs.LoadableLaws.{loadable_from, index_agrees_lem}

module _ (r : Record) (x : EdgeIndex) (m : Memo) where
  abbrev s : Record
  s = with_edges r r.edge_count r.edge_labels r.edge_sources r.edge_targets x m

  kept : (k : Kind) → count k s ≡ count k r → columns k s ≡ columns k r → row_refusal k 0 s (row k 0 s) ≡ row_refusal k 0 r (row k 0 r)
      → ((i : ℕ) → row_refusal k (suc i) s (row k (suc i) s) ≡ row_refusal k (suc i) r (row k (suc i) r)) → table_loads s k ≡ table_loads r k
  unfolding table_loads
  kept k e f g h = λ j. leb (e j) (room k) && (every (λ i. eqb (line i j) 0) (below (e j)) && every (zero_from (e j)) (f j))
    where
      line : (i : ℕ) → row_refusal k i s (row k i s) ≡ row_refusal k i r (row k i r)
      line zero = g
      line (suc i) = h i

  table_aside : (k : Kind) → table_loads s k ≡ table_loads r k
  unfolding row_refusal row_causes in_range
  table_aside head = kept head refl refl refl (λ i. refl)
  table_aside user = kept user refl refl refl (λ i. refl)
  table_aside edge = kept edge refl refl refl (λ i. refl)
  table_aside formula = kept formula refl refl refl (λ i. refl)
  table_aside demarcation = kept demarcation refl refl refl (λ i. refl)
  table_aside hierarchy = kept hierarchy refl refl refl (λ i. refl)
  table_aside principal = kept principal refl refl refl (λ i. refl)
  table_aside exclusion = kept exclusion refl refl refl (λ i. refl)
  table_aside prerequisite = kept prerequisite refl refl refl (λ i. refl)
  table_aside method = kept method refl refl refl (λ i. refl)
  table_aside end = kept end refl refl refl (λ i. refl)

pub memo_aside : (r : Record) (m : Memo) → loadable (with_memo r m) ≡ loadable r
unfolding loadable index_agrees with_memo
memo_aside r m = λ j. every (λ k. table_aside r r.index m k j) kinds && (no_circles r && index_agrees r)

-- ---- the index built anew

pub rows_indexed : (r : Record) (k : Kind) → rows k (indexed r) ≡ rows k r
unfolding with_index
rows_indexed r head = refl
rows_indexed r user = refl
rows_indexed r edge = refl
rows_indexed r formula = refl
rows_indexed r demarcation = refl
rows_indexed r hierarchy = refl
rows_indexed r principal = refl
rows_indexed r exclusion = refl
rows_indexed r prerequisite = refl
rows_indexed r method = refl
rows_indexed r end = refl

pub indexed_loadable : (r : Record) → ((k : Kind) → table_loads r k ≡ true) → no_circles r ≡ true → loadable (indexed r) ≡ true
unfolding with_index
indexed_loadable r loads none =
    loadable_from (indexed r) (λ k. table_aside r (index_of (rows edge r)) r.memo k ∙ loads k) none ((index_agrees_lem (indexed r)).1 refl)
