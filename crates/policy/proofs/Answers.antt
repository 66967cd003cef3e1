-- What the two edits answer: by the place found for the edge, what refuses them and the record of an accepted one.
use Prim.Native.Nat.{ℕ, suc, ◌+◌, ◌-◌, ◌≤◌, ◌<◌}
use mathlib.Core.Path.{◌≡◌, refl, sym, ◌∙◌, ap}
use mathlib.Core.Bool.{Bool, true, false, not}
use mathlib.Core.List.{List, [], ◌∷◌, ◌++◌}
use native.Mathlib.Omega.{arith}
use native.Mathlib.Numerals.{add-one}
use lib.ListN.{length, take, drop, length-append, length-take, length-drop}
use lib.Dec.{ltb, leb}
use borrow.Author.Tests.{ltb-true, ne_eqb, le-leb}
use Rattle.common.specs.Limits.{most_edges}
use Rattle.common.specs.Lists.{at}
use Rattle.common.specs.ListLaws.{length_table}
use Rattle.common.specs.BoolLaws.{and_cases}
use Rattle.common.specs.Causes.{Cause, cause, first}
use Rattle.common.specs.Refusals.{edge_out_of_range, edge_present, edge_absent, edges_full, not_loadable}
use Rattle.edge_index.specs.declared.EdgeIndex.{EdgeIndex}
use Rattle.edge_index.specs.Index.{index_in, EdgesRise}
use Rattle.edge_index.specs.Shifts.{less}
use Rattle.policy.specs.declared.Record.{Record}
use Rattle.policy.specs.declared.Memo.{Memo}
use Rattle.policy.specs.EditAnswers.{Edited}
use Rattle.policy.specs.Table.{edge, row, rows, emptied, column, index_of, with_edges, changed}
use Rattle.rows.specs.Checks.{edge_in_range, edge_key}
use Rattle.policy.specs.Loadable.{loadable}
use Rattle.policy.specs.LoadableLaws.{loadable_table, loadable_objects, own_index, table_few}
use Rattle.policy.specs.EdgeLaws.{loadable_rising, inserted_length, inserted_rising}
use Rattle.policy.specs.Edits.{edge_in, inserted, without, add_refusal, remove_refusal, added, removed}
use Rattle.policy.specs.EditLaws.{Adds, Removes, added_when, removed_when}
use Rattle.policy.specs.EdgeRows.{row_of, with_value, without_value}
use Rattle.policy.specs.Places.{AtRow, Refused}
use Rattle.policy.proofs.EdgeRows.{row_within, row_found, row_absent, row_present}
use Rattle.policy.specs.RecordIndexLaws.{at_column, index_less, less_put, rising_columns, loadable_indexed}
use Rattle.policy.specs.ColumnLaws.{labels_column, sources_column, targets_column}
use Rattle.policy.proofs.Columns.{column_more, column_less}

-- ---- what refuses, by the place found

module _ (r : Record) (l x y : ℕ) where
  -- what refuses any edit of the edge comes first
  refused_first : {n : ℕ} → Refused r l x y n → (more : List Cause) → n
      ≡ first (cause not_loadable (not (loadable r)) ∷ cause edge_out_of_range (not (edge_in_range r.objects l x y)) ∷ more)
  refused_first {n} p more = go (loadable r) (edge_in_range r.objects l x y) p.refuses
    where
      go : (b c : Bool) → n ≡ first (cause not_loadable (not b) ∷ cause edge_out_of_range (not c) ∷ [])
          → n ≡ first (cause not_loadable (not b) ∷ cause edge_out_of_range (not c) ∷ more)
      go false c e = e
      go true false e = e
      go true true e = absurd (p.some e)

  pub add_refused : {n : ℕ} → Refused r l x y n → ◌≡◌ {A = Edited} (record { number = n; rules = r }) (added r l x y)
  unfolding added
  add_refused p =
      let e = refused_first p
      (cause edge_present (edge_in (rows edge r) (l ∷ x ∷ y ∷ [])) ∷ cause edges_full (leb most_edges r.edge_count) ∷ []) in
      rw (ne_eqb (add_refusal r l x y) 0 (λ z. p.some (e ∙ z))) (λ j. record { number = e j; rules = r })

  pub add_present : {at_row : ℕ} → AtRow r l x y at_row true
      → ◌≡◌ {A = Edited} (record { number = edge_present; rules = r }) (added r l x y)
  unfolding added
  add_present a = rw (a.loads, a.fits, a.there)

  pub add_full : {at_row : ℕ} → AtRow r l x y at_row false → most_edges ≤ r.edge_count
      → ◌≡◌ {A = Edited} (record { number = edges_full; rules = r }) (added r l x y)
  unfolding added
  add_full a h = rw (a.loads, a.fits, a.there, le-leb most_edges r.edge_count h)

  pub remove_refused : {n : ℕ} → Refused r l x y n → ◌≡◌ {A = Edited} (record { number = n; rules = r }) (removed r l x y)
  unfolding removed
  remove_refused p =
      let e = refused_first p (cause edge_absent (not (edge_in (rows edge r) (l ∷ x ∷ y ∷ []))) ∷ []) in
      rw (ne_eqb (remove_refusal r l x y) 0 (λ z. p.some (e ∙ z))) (λ j. record { number = e j; rules = r })

  pub remove_absent : {at_row : ℕ} → AtRow r l x y at_row false
      → ◌≡◌ {A = Edited} (record { number = edge_absent; rules = r }) (removed r l x y)
  unfolding removed
  remove_absent a = rw (a.loads, a.fits, a.there)

row_few : (r : Record) (k : ℕ) {at_row : ℕ} → at_row ≡ row_of k (rows edge r) → at_row ≤ r.edge_count
row_few r k p = omega (arith, row_within k (rows edge r), length_table r.edge_count (λ i. row edge i r))

-- ---- the record of an accepted edit

-- the columns of n edges, and their index
record ColumnsOf (es : List (List ℕ)) (n : ℕ) (labels sources targets : List ℕ) : Type 0 where
  count : n ≡ length es
  label : labels ≡ column 0 es
  source : sources ≡ column 1 es
  target : targets ≡ column 2 es

index_of_lem : {es : List (List ℕ)} {n : ℕ} {labels sources targets : List ℕ} → ColumnsOf es n labels sources targets
    → index_in n labels sources targets ≡ index_of es
index_of_lem c = λ j. index_in (c.count j) (c.label j) (c.source j) (c.target j)

edges_changed : (r : Record) {es : List (List ℕ)} {n : ℕ} {labels sources targets : List ℕ} {x : EdgeIndex} {m : Memo}
    → ColumnsOf es n labels sources targets → x ≡ index_of es → m ≡ emptied 0 0
    → ◌≡◌ {A = Edited} (record { number = 0; rules = with_edges r n labels sources targets x m })
    (record { number = 0; rules = changed r es (emptied 0 0) })
unfolding changed
edges_changed r c x e =
    λ j. record { number = 0; rules = with_edges r (c.count j) (c.label j) (c.source j) (c.target j) (x j) (e j) }

-- the columns of a record's type
pub record EdgeColumnLengths (r : Record) : Type 0 where
  pub labels : length r.edge_labels ≡ most_edges
  pub sources : length r.edge_sources ≡ most_edges
  pub targets : length r.edge_targets ≡ most_edges

-- ---- adding: the columns with a value more at the row are those of the edges with the edge among them

module _ (r : Record) (l x y : ℕ) {at_row : ℕ} (p : AtRow r l x y at_row false) (room : r.edge_count < most_edges) where
  adds_there : Adds r l x y
  adds_there = record { loads = p.loads; fits = p.fits; absent = p.there; room = room }

  -- it goes in at its row, and there is room for it
  pub add_row : at_row ≤ r.edge_count
  add_row = row_few r (edge_key l x y) p.row_is

  module _ (lengths : EdgeColumnLengths r) {labels sources targets : List ℕ}
      (e : labels ≡ with_value r.edge_labels r.edge_count at_row l)
      (f : sources ≡ with_value r.edge_sources r.edge_count at_row x)
      (g : targets ≡ with_value r.edge_targets r.edge_count at_row y) where
    abbrev more : List (List ℕ)
    more = inserted (l ∷ x ∷ y ∷ []) (rows edge r)

    split_more : more ≡ take at_row (rows edge r) ++ ((l ∷ x ∷ y ∷ []) ∷ drop at_row (rows edge r))
    split_more =
        let a = adds_there in
        let es = rows edge r in
        row_absent l x y (loadable_objects r a.loads) a.fits (loadable_rising r a.loads) a.absent
        ∙ (λ j. take (sym p.row_is j) es ++ ((l ∷ x ∷ y ∷ []) ∷ drop (sym p.row_is j) es))

    more_columns : ColumnsOf more (r.edge_count + 1) labels sources targets
    more_columns =
        let a = adds_there in
        let e₀ : List ℕ = l ∷ x ∷ y ∷ [] in
        let es = rows edge r in
        let n = r.edge_count in
        let size : n ≡ length es = sym (length_table n (λ i. row edge i r)) in
        let within = row_few r (edge_key l x y) p.row_is in
        record {
          count = omega (arith, inserted_length e₀ es);
          label = e ∙ column_more 0 es n at_row (labels_column r a.loads lengths.labels) size e₀ refl within a.room split_more;
          source = f ∙ column_more 1 es n at_row (sources_column r a.loads lengths.sources) size e₀ refl within a.room split_more;
          target = g ∙ column_more 2 es n at_row (targets_column r a.loads lengths.targets) size e₀ refl within a.room split_more;
        }

    -- what the index is asked for: edges that rise, and the index that was
    pub add_indexes : EdgesRise (r.edge_count + 1) labels sources targets
        × (r.index ≡ index_in (r.edge_count + 1 - 1) (less at_row labels) (less at_row sources) (less at_row targets))
    add_indexes =
        let a = adds_there in
        let es = rows edge r in
        let n = r.edge_count in
        let size : length es ≡ n = length_table n (λ i. row edge i r) in
        let c = more_columns in
        let same : n ≡ n + 1 - 1 = omega arith in
        let rises = inserted_rising l x y (loadable_objects r a.loads) a.fits (loadable_rising r a.loads) (omega arith) a.absent in
        let back : less at_row more ≡ es = ap (less at_row) split_more
        ∙ less_put at_row (l ∷ x ∷ y ∷ []) es (omega (arith, row_few r (edge_key l x y) p.row_is)) in (
          rw c.count (rising_columns rises (loadable_objects r a.loads) (omega (arith, c.count, a.room))
              {ls = labels} {ss = sources} {ts = targets}
              (λ i h. ap (λ (v : List ℕ). at v i) c.label ∙ at_column 0 i more)
              (λ i h. ap (λ (v : List ℕ). at v i) c.source ∙ at_column 1 i more)
              (λ i h. ap (λ (v : List ℕ). at v i) c.target ∙ at_column 2 i more)),
          own_index r a.loads
              ∙ (λ j. index_in (size j) (column 0 (sym back j)) (column 1 (sym back j)) (column 2 (sym back j)))
              ∙ sym (index_less n at_row more)
              ∙ (λ j. index_in (same j) (less at_row (sym c.label j)) (less at_row (sym c.source j)) (less at_row (sym c.target j))),
        )

    pub add_accepted : {i : EdgeIndex} {m : Memo} → i ≡ index_in (r.edge_count + 1) labels sources targets → m ≡ emptied 0 0
        → ◌≡◌ {A = Edited} (record { number = 0; rules = with_edges r (r.edge_count + 1) labels sources targets i m }) (added r l x y)
    add_accepted q h = edges_changed r more_columns (q ∙ index_of_lem more_columns) h ∙ sym (added_when r l x y adds_there)

-- ---- removing: those without the value at the row are those of the edges without the edge

module _ (r : Record) (l x y : ℕ) {at_row : ℕ} (p : AtRow r l x y at_row true) where
  removes_there : Removes r l x y
  removes_there = record { loads = p.loads; fits = p.fits; present = p.there }

  -- it stands at its row
  pub remove_row : (at_row < r.edge_count) × (r.edge_count ≤ most_edges)
  remove_row =
      let a = removes_there in
      let es = rows edge r in
      let stands = row_found l x y (loadable_objects r a.loads) a.fits (loadable_rising r a.loads) ∙ a.present in
      let inside = ltb-true (row_of (edge_key l x y) es) (length es) (and_cases (ltb (row_of (edge_key l x y) es) (length es)) _ stands).0 in
      (omega (arith, p.row_is, length_table r.edge_count (λ i. row edge i r)), table_few r edge (loadable_table r a.loads edge))

  -- what the index is asked for
  pub remove_indexes : EdgesRise r.edge_count r.edge_labels r.edge_sources r.edge_targets
      × (r.index ≡ index_in r.edge_count r.edge_labels r.edge_sources r.edge_targets)
  remove_indexes = let i = loadable_indexed r p.loads in (i.rises, i.index)

  module _ (lengths : EdgeColumnLengths r) {labels sources targets : List ℕ}
      (e : labels ≡ without_value r.edge_labels r.edge_count at_row)
      (f : sources ≡ without_value r.edge_sources r.edge_count at_row)
      (g : targets ≡ without_value r.edge_targets r.edge_count at_row) where
    abbrev fewer : List (List ℕ)
    fewer = without (l ∷ x ∷ y ∷ []) (rows edge r)

    split_fewer : fewer ≡ take at_row (rows edge r) ++ drop (suc at_row) (rows edge r)
    split_fewer =
        let a = removes_there in
        let es = rows edge r in
        row_present l x y (loadable_objects r a.loads) a.fits (loadable_rising r a.loads) a.present
        ∙ (λ j. take (sym p.row_is j) es ++ drop (suc (sym p.row_is j)) es)

    fewer_columns : ColumnsOf fewer (r.edge_count - 1) labels sources targets
    fewer_columns =
        let loads = p.loads in
        let es = rows edge r in
        let n = r.edge_count in
        let size : n ≡ length es = sym (length_table n (λ i. row edge i r)) in
        let within = remove_row.0 in
        let few = remove_row.1 in
        record {
          count = omega (
            arith,
            ap length split_fewer,
            length-append (take at_row es) (drop (suc at_row) es),
            length-take at_row es,
            length-drop (suc at_row) es,
          );
          label = e ∙ column_less 0 es n at_row (labels_column r loads lengths.labels) size within few split_fewer;
          source = f ∙ column_less 1 es n at_row (sources_column r loads lengths.sources) size within few split_fewer;
          target = g ∙ column_less 2 es n at_row (targets_column r loads lengths.targets) size within few split_fewer;
        }

    -- the index of the columns without the row
    index_fewer : index_in (r.edge_count - 1) (less at_row r.edge_labels) (less at_row r.edge_sources)
        (less at_row r.edge_targets) ≡ index_of fewer
    index_fewer =
        let loads = p.loads in
        let es = rows edge r in
        let n = r.edge_count in
        let left : less at_row es ≡ fewer = ap (λ (i : ℕ). take at_row es ++ drop i es) (add-one at_row) ∙ sym split_fewer in
        (λ j. index_in (n - 1) (less at_row (labels_column r loads lengths.labels j))
        (less at_row (sources_column r loads lengths.sources j)) (less at_row (targets_column r loads lengths.targets j)))
        ∙ index_less (n - 1) at_row es
        ∙ (λ j. index_in (fewer_columns.count j) (column 0 (left j)) (column 1 (left j)) (column 2 (left j)))

    pub remove_accepted : {i : EdgeIndex} {m : Memo}
        → i ≡ index_in (r.edge_count - 1) (less at_row r.edge_labels) (less at_row r.edge_sources) (less at_row r.edge_targets)
        → m ≡ emptied 0 0
        → ◌≡◌ {A = Edited} (record { number = 0; rules = with_edges r (r.edge_count - 1) labels sources targets i m }) (removed r l x y)
    remove_accepted q h = edges_changed r fewer_columns (q ∙ index_fewer) h ∙ sym (removed_when r l x y removes_there)
