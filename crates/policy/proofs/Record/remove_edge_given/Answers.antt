-- `remove_edge_given` meets its contract.
use Rattle.std.proofs.Common.{rules}
use Rattle.std.proofs.lemmas.Result.{err_from_is_err_and}
use Rattle.policy.proofs.Answers.{EdgeColumnLengths, remove_refused, remove_absent, remove_row, remove_indexes, remove_accepted}
use Rattle.policy.proofs.Record.remove_edge_given.Goals as goal

pub returns-in_err-row : goal.returns-in_err-row
returns-in_err-row c =
    let a = c.args in
    let e = err_from_is_err_and c.from_residual.result c.from_residual.ensures.1 in
    rw (e.1, e.2) (remove_refused a.self.now a.label a.source a.target c.in_err-row.ensures)

pub returns-in_default : goal.returns-in_default
returns-in_default c =
    let a = c.args in remove_absent a.self.now a.label a.source a.target (rw c.in_default.is at c.in_ok-row.ensures)

pub invariant_of-edges : goal.invariant_of-edges
invariant_of-edges c =
    let a = c.args in (remove_indexes a.self.now a.label a.source a.target (rw c.in-Present.is at c.in_ok-row.ensures)).0

pub without_edge-requires : goal.without_edge-requires
without_edge-requires c =
    let a = c.args in
    let p = rw c.in-Present.is at c.in_ok-row.ensures in
    ((remove_row a.self.now a.label a.source a.target p).0, (remove_indexes a.self.now a.label a.source a.target p).1)

pub remove-requires : goal.remove-requires
remove-requires c =
    let a = c.args in
    let h = remove_row a.self.now a.label a.source a.target (rw c.in-Present.is at c.in_ok-row.ensures) in
    (h.0, h.1, search rules)

pub remove-requires-2 : goal.remove-requires-2
remove-requires-2 c =
    let a = c.args in
    let h = remove_row a.self.now a.label a.source a.target (rw c.in-Present.is at c.in_ok-row.ensures) in
    (h.0, h.1, search rules)

pub remove-requires-3 : goal.remove-requires-3
remove-requires-3 c =
    let a = c.args in
    let h = remove_row a.self.now a.label a.source a.target (rw c.in-Present.is at c.in_ok-row.ensures) in
    (h.0, h.1, search rules)

pub returns : goal.returns
returns c =
    let a = c.args in
    let lengths : EdgeColumnLengths a.self.now = record { labels = search rules; sources = search rules; targets = search rules } in
    remove_accepted a.self.now a.label a.source a.target (rw c.in-Present.is at c.in_ok-row.ensures) lengths
    c.remove.ensures c.remove-2.ensures c.remove-3.ensures c.without_edge.ensures c.emptied-self.ensures
