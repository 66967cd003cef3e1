-- `edges_with` meets its contract: the index is that of the edges.
use Rattle.std.proofs.Common.{true, false}
use Rattle.evaluation.proofs.indexed.IndexedRecord.edges_with.Goals.{in-Forward, in-Backward}
use Rattle.evaluation.proofs.indexed.IndexedRecord.edges_with.Goals as goal

pub invariant_of-result : goal.invariant_of-result
invariant_of-result c =
    let r = c.self.inside.columns.now in
    let span = c.positions_of-span.ensures r.edge_count r.edge_labels r.edge_sources r.edge_targets r.index.places in
    let indexed = c.self.invariant in
    elim c.match-direction.branch [
      | in-Forward w ↦ rw (w.sides-is, w.in-Forward.is) (span false indexed).passable
      | in-Backward w ↦ rw (w.sides-is, w.in-Backward.is) (span true indexed).passable
    ]

pub returns-clause-positions : goal.returns-clause-positions
returns-clause-positions c =
    let r = c.self.inside.columns.now in
    let span = c.positions_of-span.ensures r.edge_count r.edge_labels r.edge_sources r.edge_targets r.index.places in
    let indexed = c.self.invariant in
    elim c.match-direction.branch [
      | in-Forward w ↦ rw w.in-Forward.is (span false indexed).listed
      | in-Backward w ↦ rw w.in-Backward.is (span true indexed).listed
    ]
