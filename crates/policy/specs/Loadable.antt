-- Whether some bundle loads to a record, memo aside (refusal 19).
use Rattle.std.specs.Prelude.{ℕ, Bool, not, ◌&&◌, leb, eqb}
use Rattle.common.specs.Lists.{every, below, same}
use Rattle.closure.specs.Closure.{circular}
pub use Rattle.tables.specs.Loads.{zero_from}
use Rattle.edge_index.specs.declared.EdgeIndex.{EdgeIndex}
use Rattle.policy.specs.declared.Record.{Record}
use Rattle.policy.specs.Table.{Kind, edge, hierarchy, prerequisite, kinds, count, columns, room, row, rows, index_of}
use Rattle.policy.specs.Rows.{row_refusal}

-- each line of a kind's table is one that loading takes at its place
abbrev pub rows_load : Record → Kind → ℕ → Bool
rows_load r k n = every (λ i. eqb (row_refusal k i r (row k i r)) 0) (below n)

-- a kind's table: no more lines than there is room for, each one that loading takes, and the unused places zero (`zero_from n c`: the
-- places of the column c from n on)
unfoldable pub table_loads : Record → Kind → Bool
table_loads r k = leb (count k r) (room k) && (rows_load r k (count k r) && every (zero_from (count k r)) (columns k r))

-- request 2026-04, "refusal 19 now also covers an index that disagrees with the edges": this one is that of the record's own edges
abbrev pub same_index : EdgeIndex → EdgeIndex → Bool
same_index x y = same x.firsts y.firsts && (same x.counts y.counts && same x.places y.places)

unfoldable pub index_agrees : Record → Bool
index_agrees r = same_index r.index (index_of (rows edge r))

-- neither the hierarchy nor the prerequisites hold a circle
abbrev pub no_circles : Record → Bool
no_circles r = not (circular (rows hierarchy r)) && not (circular (rows prerequisite r))

-- every table loads, there are no circles, and the index is that of the edges
unfoldable pub loadable : Record → Bool
loadable r = every (table_loads r) kinds && (no_circles r && index_agrees r)
