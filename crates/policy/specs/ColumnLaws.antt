-- The edges' columns of a loadable record are those of its edges: given its own edges again, it is the same record. So the memo may be any.
use Rattle.std.specs.Prelude.{ℕ, ◌-◌, ◌≤◌, ◌≡◌, refl, true, List, [], ◌∷◌, ◌++◌, map, length, take, drop, replicate, eqb}
use Rattle.std.proofs.Common.{sym, ◌∙◌, ap, arith, take-append-drop, length-drop, eqb-true}
use Rattle.common.specs.Limits.{most_edges}
use Rattle.common.specs.Lists.{at, every, table}
use Rattle.common.specs.ListLaws.{map_table, table_take, length_table}
use Rattle.common.specs.BoolLaws.{and_cases}
use Rattle.policy.specs.declared.Record.{Record}
use Rattle.policy.specs.declared.Memo.{Memo}
use Rattle.policy.specs.Table.{edge, row, rows, column, with_edges, changed, with_memo}
use Rattle.policy.specs.Loadable.{zero_from, loadable}
use Rattle.policy.specs.LoadableLaws.{loadable_table, own_index, table_few, table_zero}
use Rattle.policy.specs.TableLaws.{ColumnLengths}

-- zeros alone
pub zeros : (c : List ℕ) → every (λ x. eqb x 0) c ≡ true → c ≡ replicate (length c) 0
zeros [] e = refl
zeros (x ∷ c) e = let p = and_cases (eqb x 0) _ e in λ j. eqb-true x 0 p.0 j ∷ zeros c p.1 j

-- a column of mostEdges places, zero from n on, is its first n numbers and zeros
column_of : (n j : ℕ) (f : ℕ → List ℕ) (c : List ℕ) → ((i : ℕ) → at (f i) j ≡ at c i) → length c ≡ most_edges → n ≤ most_edges
    → zero_from n c ≡ true → c ≡ column j (table n f)
column_of n j f c same size few z =
    let rest : length (drop n c) ≡ most_edges - length (table n f) = simp (length-drop, length_table) (omega arith) in
    let used : take n c ≡ map (λ e. at e j) (table n f) = sym
    (map_table (λ e. at e j) n f ∙ (λ k. table n (λ i. same i k)) ∙ table_take n c (omega arith)) in
    sym (take-append-drop n c) ∙ (λ k. used k ++ (zeros (drop n c) z ∙ ap (λ (m : ℕ). replicate m 0) rest) k)

module _ (r : Record) (loads : loadable r ≡ true) where
  few : r.edge_count ≤ most_edges
  few = table_few r edge (loadable_table r loads edge)

  zero_parts :
      (zero_from r.edge_count r.edge_labels ≡ true) × (zero_from r.edge_count r.edge_sources ≡ true)
      × (zero_from r.edge_count r.edge_targets ≡ true)
  zero_parts =
      let p = and_cases (zero_from r.edge_count r.edge_labels) _ (table_zero r edge (loadable_table r loads edge)) in
      let q = and_cases (zero_from r.edge_count r.edge_sources) _ p.1 in
      (p.0, q.0, (and_cases (zero_from r.edge_count r.edge_targets) _ q.1).0)

  pub labels_column : length r.edge_labels ≡ most_edges → r.edge_labels ≡ column 0 (rows edge r)
  labels_column size = column_of r.edge_count 0 _ r.edge_labels (λ i. refl) size few zero_parts.0

  pub sources_column : length r.edge_sources ≡ most_edges → r.edge_sources ≡ column 1 (rows edge r)
  sources_column size = column_of r.edge_count 1 _ r.edge_sources (λ i. refl) size few zero_parts.1

  pub targets_column : length r.edge_targets ≡ most_edges → r.edge_targets ≡ column 2 (rows edge r)
  targets_column size = column_of r.edge_count 2 _ r.edge_targets (λ i. refl) size few zero_parts.2

-- a loadable record with its own edges again: only the memo is another (its index is that of its edges)
pub own_edges : (r : Record) (m : Memo) → ColumnLengths r → loadable r ≡ true → changed r (rows edge r) m ≡ with_memo r m
unfolding changed with_memo
own_edges r m s loads =
    let n = length_table r.edge_count (λ i. row edge i r) in
    let a = labels_column r loads (s.long edge).0 in
    let b = sources_column r loads (s.long edge).1.0 in
    let c = targets_column r loads (s.long edge).1.1.0 in
    sym (λ j. with_edges r (sym n j) (a j) (b j) (c j) (own_index r loads j) m)
