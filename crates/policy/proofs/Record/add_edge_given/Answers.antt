-- `add_edge_given` meets its contract.
use Rattle.std.proofs.Common.{◌<◌, arith, rules}
use Rattle.std.proofs.lemmas.Result.{err_from_is_err_and}
use Rattle.common.specs.Limits.{most_edges}
use Rattle.policy.proofs.Answers.{EdgeColumnLengths, add_refused, add_present, add_full, add_row, add_indexes, add_accepted}
use Rattle.policy.proofs.Record.add_edge_given.Goals as goal

pub returns-in_err-row : goal.returns-in_err-row
returns-in_err-row c =
    let a = c.args in
    let e = err_from_is_err_and c.from_residual.result c.from_residual.ensures.1 in
    rw (e.1, e.2) (add_refused a.self.now a.label a.source a.target c.in_err-row.ensures)

pub returns-in_default : goal.returns-in_default
returns-in_default c =
    let a = c.args in add_present a.self.now a.label a.source a.target (rw c.in_default.is at c.in_ok-row.ensures)

pub returns-then-count-ge-MOST_EDGES : goal.returns-then-count-ge-MOST_EDGES
returns-then-count-ge-MOST_EDGES c =
    let a = c.args in
    add_full a.self.now a.label a.source a.target (rw c.in-Absent.is at c.in_ok-row.ensures) c.if-count-ge-MOST_EDGES.true

pub insert-requires : goal.insert-requires
insert-requires c =
    let a = c.args in
    let room : a.self.now.edge_count < most_edges = omega (arith, c.if-count-ge-MOST_EDGES.false) in
    (add_row a.self.now a.label a.source a.target (rw c.in-Absent.is at c.in_ok-row.ensures) room, room, search rules)

pub invariant_of-edges : goal.invariant_of-edges
invariant_of-edges c =
    let a = c.args in
    let lengths : EdgeColumnLengths a.self.now = record { labels = search rules; sources = search rules; targets = search rules } in
    (add_indexes a.self.now a.label a.source a.target (rw c.in-Absent.is at c.in_ok-row.ensures)
    (omega (arith, c.if-count-ge-MOST_EDGES.false)) lengths c.insert.ensures c.insert-2.ensures c.insert-3.ensures).0

pub with_edge-requires : goal.with_edge-requires
with_edge-requires c =
    let a = c.args in
    let p = rw c.in-Absent.is at c.in_ok-row.ensures in
    let room : a.self.now.edge_count < most_edges = omega (arith, c.if-count-ge-MOST_EDGES.false) in
    let lengths : EdgeColumnLengths a.self.now = record { labels = search rules; sources = search rules; targets = search rules } in (
      omega (arith, add_row a.self.now a.label a.source a.target p room),
      (add_indexes a.self.now a.label a.source a.target p room lengths c.insert.ensures c.insert-2.ensures c.insert-3.ensures).1,
    )

pub returns : goal.returns
returns c =
    let a = c.args in
    let lengths : EdgeColumnLengths a.self.now = record { labels = search rules; sources = search rules; targets = search rules } in
    add_accepted a.self.now a.label a.source a.target (rw c.in-Absent.is at c.in_ok-row.ensures)
    (omega (arith, c.if-count-ge-MOST_EDGES.false)) lengths c.insert.ensures c.insert-2.ensures c.insert-3.ensures c.with_edge.ensures c.emptied-self.ensures
