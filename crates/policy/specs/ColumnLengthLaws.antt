-- The columns keep their lengths under an edit, with another memo and with another index.
use Rattle.std.specs.Prelude.{ℕ, ◌-◌, ◌≤◌, ◌≡◌, List, map, length, replicate}
use Rattle.std.proofs.Common.{arith, length-append}
use Rattle.std.proofs.lemmas.List.{length-map, length-replicate}
use Rattle.common.specs.Limits.{most_edges}
use Rattle.common.specs.Lists.{at}
use Rattle.edge_index.specs.declared.EdgeIndex.{EdgeIndex}
use Rattle.policy.specs.declared.Record.{Record}
use Rattle.policy.specs.declared.Memo.{Memo}
use Rattle.policy.specs.Table.{user, edge, formula, demarcation, hierarchy, principal, exclusion, prerequisite, method, column}
use Rattle.policy.specs.Table.{changed, with_memo, with_index}
use Rattle.policy.specs.TableLaws.{ColumnLengths, sized}

column_long : (j : ℕ) (es : List (List ℕ)) → length es ≤ most_edges → length (column j es) ≡ most_edges
column_long j es few =
    let a = length-append (map (λ e. at e j) es) (replicate (most_edges - length es) 0) in
    let b = length-map es (λ e. at e j) in
    let c = length-replicate {A = ℕ} (most_edges - length es) 0 in
    omega arith

pub sized_changed : (r : Record) (es : List (List ℕ)) (m : Memo) → length es ≤ most_edges → ColumnLengths r → ColumnLengths (changed r es m)
unfolding changed
sized_changed r es m few s =
    sized _ (s.long user) (column_long 0 es few, (column_long 1 es few, (column_long 2 es few, tt))) (s.long formula)
    (s.long demarcation) (s.long hierarchy) (s.long principal)
    (s.long exclusion) (s.long prerequisite) (s.long method)

pub sized_memo : (r : Record) (m : Memo) → ColumnLengths r → ColumnLengths (with_memo r m)
unfolding with_memo
sized_memo r m s =
    sized _ (s.long user) (s.long edge) (s.long formula) (s.long demarcation) (s.long hierarchy) (s.long principal)
    (s.long exclusion) (s.long prerequisite) (s.long method)

pub sized_index : (r : Record) (x : EdgeIndex) → ColumnLengths r → ColumnLengths (with_index r x)
unfolding with_index
sized_index r x s =
    sized _ (s.long user) (s.long edge) (s.long formula) (s.long demarcation) (s.long hierarchy) (s.long principal)
    (s.long exclusion) (s.long prerequisite) (s.long method)
