-- A record's index: what 19 says of it, and that the edges of a table that loads are such as `edge_index` makes an index of.
use Rattle.std.specs.Prelude.{ℕ, zero, suc, ◌+◌, ◌-◌, ◌≤◌, ◌<◌, ◌≡◌, refl, true, List, [], ◌∷◌, ◌++◌, map, length, get_or, take, drop, replicate}
use Rattle.std.proofs.Common.{sym, ◌∙◌, ap, arith, add-one, take-append-drop, take_at, length-take-le, get_or-drop}
use Rattle.std.proofs.Math.Decide.{dec_lt}
use Rattle.std.proofs.Math.ListN.{get_or-map, get_or-eq_default}
use Rattle.std.proofs.Math.Seq.{drop-append-add}
use Rattle.common.specs.Limits.{most_edges, most_objects, highest_label}
use Rattle.common.specs.Lists.{at, table}
use Rattle.common.specs.BoolLaws.{and_cases}
use Rattle.common.specs.ListLaws.{length_table, table_at, zero_at, zeros_at}
use Rattle.rows.specs.Checks.{edge_in_range, edge_key}
use Rattle.edge_index.specs.Index.{index_in, EdgesRise, Indexed}
use Rattle.edge_index.specs.Shifts.{less, past}
use Rattle.edge_index.specs.LessLaws.{get_d_less, at_less}
use Rattle.edge_index.specs.IndexLaws.{index_same}
use Rattle.policy.specs.declared.Record.{Record}
use Rattle.policy.specs.Table.{edge, row, rows, column, index_of, with_index, indexed}
use Rattle.policy.specs.Loadable.{zero_from, table_loads, loadable}
use Rattle.policy.specs.LoadableLaws.{loadable_table, loadable_objects, own_index, table_few, table_rows, table_zero}
use Rattle.policy.specs.ColumnLaws.{zeros}
use Rattle.policy.specs.EdgeLaws.{Rising, none, more, in_range_parts, edges_rising}

-- building the index of a loadable record anew gives the record itself
pub built_anew : (r : Record) → loadable r ≡ true → indexed r ≡ r
unfolding with_index
built_anew r loads = ap (with_index r) (sym (own_index r loads))

-- ---- columns, number by number

pub at_column : (j i : ℕ) (es : List (List ℕ)) → at (column j es) i ≡ at (get_or es i []) j
at_column j i es =
    zeros_at (map (λ e. at e j) es) (replicate (most_edges - length es) 0) (zero_at (most_edges - length es)) i
    ∙ get_or-map (λ e. at e j) es i []

zero_past : (n : ℕ) (c : List ℕ) → zero_from n c ≡ true → (i : ℕ) → n ≤ i → at c i ≡ 0
zero_past n c z i h =
    let e : i ≡ n + (i - n) = omega arith in
    ap (at c) e ∙ sym (get_or-drop n c (i - n) 0) ∙ ap (λ (d : List ℕ). at d (i - n)) (zeros (drop n c) z) ∙ zero_at (length (drop n c)) (i - n)

-- a column that is zero from n on holds what the column of its first n rows holds
own_at : (n j : ℕ) (f : ℕ → List ℕ) (c : List ℕ) → ((i : ℕ) → at (f i) j ≡ at c i) → zero_from n c ≡ true
    → (i : ℕ) → at (column j (table n f)) i ≡ at c i
own_at n j f c own z i = at_column j i (table n f) ∙ go (dec_lt i n)
  where
    go : Dec (i < n) → at (get_or (table n f) i []) j ≡ at c i
    go (yes l) = ap (λ (e : List ℕ). at e j) (table_at n f i [] l) ∙ own i
    go (no h) =
        ap (λ (e : List ℕ). at e j) (get_or-eq_default (table n f) [] (omega (arith, length_table n f)))
        ∙ sym (zero_past n c z i (omega arith))

-- the columns without a place are those of the edges without it
column_less : (p : ℕ) (es : List (List ℕ)) (j i : ℕ) → at (less p (column j es)) i ≡ at (column j (less p es)) i
column_less p es j i =
    at_less p i (column j es) ∙ at_column j (past p i) es
    ∙ ap (λ (e : List ℕ). at e j) (sym (get_d_less [] p i es)) ∙ sym (at_column j i (less p es))

pub index_less : (n p : ℕ) (es : List (List ℕ)) → index_in n (less p (column 0 es)) (less p (column 1 es)) (less p (column 2 es))
    ≡ index_in n (column 0 (less p es)) (column 1 (less p es)) (column 2 (less p es))
index_less n p es = index_same n _ _ _ _ _ _ (column_less p es 0) (column_less p es 1) (column_less p es 2)

-- an edge put in at p, and left out again
pub less_put : (p : ℕ) (e : List ℕ) (es : List (List ℕ)) → p ≤ length es → less p (take p es ++ (e ∷ drop p es)) ≡ es
less_put p e es h =
    let size = length-take-le p es h in
    let next : p + 1 ≡ length (take p es) + 1 = omega arith in
    let above : drop (p + 1) (take p es ++ (e ∷ drop p es)) ≡ drop p es =
    ap (λ (k : ℕ). drop k (take p es ++ (e ∷ drop p es))) next ∙ drop-append-add (take p es) (e ∷ drop p es) 1 in
    (λ j. take_at (take p es) (e ∷ drop p es) p size j ++ above j) ∙ take-append-drop p es

-- ---- rising edges

abbrev pub key_of : List ℕ → ℕ
key_of e = edge_key (at e 0) (at e 1) (at e 2)

rising_range : {m least : ℕ} {es : List (List ℕ)} → Rising m least es → (i : ℕ) → i < length es
    → let e = get_or es i [] in edge_in_range m (at e 0) (at e 1) (at e 2) ≡ true
rising_range none i h = absurd (omega arith)
rising_range (more k s t) zero h = s
rising_range (more k s t) (suc i) h = rising_range t i (omega arith)

rising_first : {m least : ℕ} {es : List (List ℕ)} → Rising m least es → 0 < length es → least ≤ key_of (get_or es 0 [])
rising_first none h = absurd (omega arith)
rising_first (more k s t) h = k

pub rising_next : {m least : ℕ} {es : List (List ℕ)} → Rising m least es → (i : ℕ) → suc i < length es
    → key_of (get_or es i []) < key_of (get_or es (suc i) [])
rising_next none i h = absurd (omega arith)
rising_next (more k s t) zero h = omega (arith, rising_first t (omega arith))
rising_next (more k s t) (suc i) h = rising_next t i (omega arith)

-- the numbers j of the edges es stand in this column
abbrev Holds : List (List ℕ) → ℕ → List ℕ → Type 0
Holds es j c = (i : ℕ) → i < length es → at c i ≡ at (get_or es i []) j

-- edges that rise, in range of at most 255 objects, are such as an index is made of, in any columns that hold them
pub rising_columns : {m least : ℕ} {es : List (List ℕ)} → Rising m least es → m ≤ most_objects → length es ≤ most_edges
    → {ls ss ts : List ℕ} → Holds es 0 ls → Holds es 1 ss → Holds es 2 ts → EdgesRise (length es) ls ss ts
rising_columns {m} {least} {es} t few room {ls} {ss} {ts} a b c =
    record {
      few = room;
      label = λ i h. omega (arith, a i h, (parts i h).0);
      source = λ i h. omega (arith, b i h, (parts i h).1);
      target = λ i h. omega (arith, c i h, (parts i h).2);
      rise = λ i h.
          let l : i < length es = omega arith in
          omega (arith, a i l, b i l, c i l, a (i + 1) h, b (i + 1) h, c (i + 1) h, next i h);
    }
  where
    parts : (i : ℕ) → i < length es → (at (get_or es i []) 0 ≤ highest_label) × (at (get_or es i []) 1 < m) × (at (get_or es i []) 2 < m)
    parts i h = in_range_parts m (at (get_or es i []) 0) (at (get_or es i []) 1) (at (get_or es i []) 2) (rising_range t i h)

    next : (i : ℕ) → i + 1 < length es → key_of (get_or es i []) < key_of (get_or es (i + 1) [])
    next i h = rw (add-one i) (rising_next t i (omega arith))

-- ---- a record's own columns

module _ (r : Record) (loads : table_loads r edge ≡ true) where
  abbrev n : ℕ
  n = r.edge_count

  zero_parts : (zero_from n r.edge_labels ≡ true) × (zero_from n r.edge_sources ≡ true) × (zero_from n r.edge_targets ≡ true)
  zero_parts =
      let p = and_cases (zero_from n r.edge_labels) _ (table_zero r edge loads) in
      let q = and_cases (zero_from n r.edge_sources) _ p.1 in
      (p.0, q.0, (and_cases (zero_from n r.edge_targets) _ q.1).0)

  pub index_columns : index_of (rows edge r) ≡ index_in n r.edge_labels r.edge_sources r.edge_targets
  index_columns =
      let f : ℕ → List ℕ = λ i. row edge i r in
      ap (λ (k : ℕ). index_in k (column 0 (rows edge r)) (column 1 (rows edge r)) (column 2 (rows edge r))) (length_table n f)
      ∙ index_same n _ _ _ _ _ _
      (own_at n 0 f r.edge_labels (λ i. refl) zero_parts.0)
      (own_at n 1 f r.edge_sources (λ i. refl) zero_parts.1)
      (own_at n 2 f r.edge_targets (λ i. refl) zero_parts.2)

  pub edges_rise : r.objects ≤ most_objects → EdgesRise n r.edge_labels r.edge_sources r.edge_targets
  edges_rise few =
      let f : ℕ → List ℕ = λ i. row edge i r in
      let size = length_table n f in
      rw size at (rising_columns (edges_rising r n (table_rows r edge loads)) few (omega (arith, table_few r edge loads))
      {ls = r.edge_labels} {ss = r.edge_sources} {ts = r.edge_targets}
      (λ i h. ap (λ (e : List ℕ). at e 0) (sym (table_at n f i [] (omega (arith, size)))))
      (λ i h. ap (λ (e : List ℕ). at e 1) (sym (table_at n f i [] (omega (arith, size)))))
      (λ i h. ap (λ (e : List ℕ). at e 2) (sym (table_at n f i [] (omega (arith, size))))))

-- THE LAW: what a step along the edges of a loadable record relies upon
pub loadable_indexed : (r : Record) → loadable r ≡ true
    → Indexed r.edge_count r.edge_labels r.edge_sources r.edge_targets r.index.firsts r.index.counts r.index.places
loadable_indexed r loads =
    let t = loadable_table r loads edge in
    record { rises = edges_rise r t (loadable_objects r loads); index = own_index r loads ∙ index_columns r t }
