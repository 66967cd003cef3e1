-- Laws of `changed`: the record with other edges has these edges, and is loadable where they rise and there is room.
use Prim.Native.Nat.{ℕ, zero, suc, ◌-◌, ◌≤◌}
use Rattle.std.specs.Prelude.{◌≡◌, true, ◌&&◌, List, [], ◌∷◌, ◌++◌, map, length, replicate}
use Rattle.std.proofs.Math.Path.{refl, sym, subst⁻¹}
use Rattle.std.proofs.Common.{◌∙◌, ap, drop_at, le-leb}
use Rattle.std.proofs.lemmas.List.{length-map}
use Rattle.std.proofs.Math.Dec.{leb, eqb}
use Rattle.common.specs.Limits.{most_edges}
use Rattle.common.specs.Lists.{at, every, below, table}
use Rattle.common.specs.ListLaws.{every_all, table_cons}
use Rattle.common.specs.BoolLaws.{and_cases, and_both}
use Rattle.policy.specs.declared.Record.{Record}
use Rattle.policy.specs.declared.Memo.{Memo}
use Rattle.policy.specs.Table.{Kind, head, user, edge, formula, demarcation, hierarchy, principal, exclusion, prerequisite, method}
use Rattle.policy.specs.Table.{end, kinds, count, columns, room, row, rows, column, index_of, changed}
use Rattle.policy.specs.Rows.{in_range, row_causes, row_refusal}
use Rattle.policy.specs.Loadable.{zero_from, table_loads, no_circles, index_agrees, loadable}
use Rattle.policy.specs.LoadableLaws.{loadable_table, same_index_lem}
use Rattle.policy.specs.EdgeLaws.{Rising, none, more, rising_edges}

-- edges go into columns and come back
columns_rows : {n least : ℕ} {es : List (List ℕ)} → Rising n least es → (a b c : List ℕ)
    → table (length es) (λ i. at (map (λ e. at e 0) es ++ a) i ∷ at (map (λ e. at e 1) es ++ b) i ∷ at (map (λ e. at e 2) es ++ c) i ∷ [])
    ≡ es
columns_rows none a b c = refl
columns_rows (more {l = l} {x = x} {y = y} {es = es} k s t) a b c =
    table_cons (length es) _ ∙ ap (λ (fs : List (List ℕ)). (l ∷ x ∷ y ∷ []) ∷ fs) (columns_rows t a b c)

-- the unused places are zero
zero_all : (n : ℕ) → every (λ x. eqb x 0) (replicate n 0) ≡ true
zero_all zero = refl
zero_all (suc n) = zero_all n

column_zero : (j : ℕ) (es : List (List ℕ)) → zero_from (length es) (column j es) ≡ true
column_zero j es =
    ap (λ (d : List ℕ). every (λ x. eqb x 0) d)
    (drop_at (map (λ e. at e j) es) (replicate (most_edges - length es) 0) (length es) (length-map es (λ e. at e j)))
    ∙ zero_all (most_edges - length es)

module _ (r : Record) (es : List (List ℕ)) (m : Memo) where
  pub rows_changed : {n least : ℕ} → Rising n least es → rows edge (changed r es m) ≡ es
  unfolding changed
  rows_changed t = columns_rows t _ _ _

  module _ (loads : loadable r ≡ true) (rising : Rising r.objects 0 es) (few : length es ≤ most_edges) where
    edge_changed : table_loads (changed r es m) edge ≡ true
    unfolding table_loads changed
    edge_changed =
        and_both _ _ (le-leb (length es) most_edges few)
        (and_both _ _ (rising_edges (changed r es m) (length es) few (subst⁻¹ (Rising r.objects 0) (rows_changed rising) rising))
        (and_both _ _ (column_zero 0 es) (and_both _ _ (column_zero 1 es) (and_both _ _ (column_zero 2 es) refl))))

    -- a table with the same lines, the first and the later ones taken alike
    kept : (k : Kind) → count k r ≡ count k (changed r es m) → columns k r ≡ columns k (changed r es m)
        → row_refusal k 0 r (row k 0 r) ≡ row_refusal k 0 (changed r es m) (row k 0 (changed r es m))
        → ((i : ℕ) → row_refusal k (suc i) r (row k (suc i) r) ≡ row_refusal k (suc i) (changed r es m) (row k (suc i) (changed r es m)))
        → table_loads (changed r es m) k ≡ true
    unfolding table_loads
    kept k e f g h =
        sym (λ j. leb (e j) (room k) && (every (λ i. eqb (line i j) 0) (below (e j)) && every (zero_from (e j)) (f j)))
        ∙ loadable_table r loads k
      where
        line : (i : ℕ) → row_refusal k i r (row k i r) ≡ row_refusal k i (changed r es m) (row k i (changed r es m))
        line zero = g
        line (suc i) = h i

    table_changed : (k : Kind) → table_loads (changed r es m) k ≡ true
    unfolding row_refusal row_causes in_range changed
    table_changed head = kept head refl refl refl (λ i. refl)
    table_changed user = kept user refl refl refl (λ i. refl)
    table_changed edge = edge_changed
    table_changed formula = kept formula refl refl refl (λ i. refl)
    table_changed demarcation = kept demarcation refl refl refl (λ i. refl)
    table_changed hierarchy = kept hierarchy refl refl refl (λ i. refl)
    table_changed principal = kept principal refl refl refl (λ i. refl)
    table_changed exclusion = kept exclusion refl refl refl (λ i. refl)
    table_changed prerequisite = kept prerequisite refl refl refl (λ i. refl)
    table_changed method = kept method refl refl refl (λ i. refl)
    table_changed end = kept end refl refl refl (λ i. refl)

    -- the index is that of the new edges
    index_changed : index_agrees (changed r es m) ≡ true
    unfolding index_agrees changed
    index_changed = rw (rows_changed rising) (same_index_lem (index_of es))

    pub loadable_changed : loadable (changed r es m) ≡ true
    unfolding loadable changed
    loadable_changed =
        and_both _ _ (every_all (table_loads (changed r es m)) kinds table_changed)
        (and_both _ _ (and_cases (no_circles r) _ (and_cases (every (table_loads r) kinds) _ loads).1).0 index_changed)
