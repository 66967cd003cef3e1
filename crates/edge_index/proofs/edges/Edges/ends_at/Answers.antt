-- `ends_at` meets its contract: of labels that rise, those before and at the end tell.
use Rattle.std.proofs.Common.{◌≤◌, ◌<◌, ◌-◌, refl, arith, eq-eqb}
use Rattle.common.specs.Lists.{at}
use Rattle.edge_index.specs.RangeLaws.{labels_rise}
use Rattle.edge_index.proofs.Agreeing.{end_past, end_high, end_whole, end_here}
use Rattle.edge_index.proofs.edges.Edges.ends_at.Goals as goal
use Rattle.edge_index.proofs.edges.Edges.ends_at.Goals.{else-end-gt0-via-then-end-gt0+else-label-self, else-end-gt0-via-else-end-gt0}

pub returns-then-self-end : goal.returns-then-self-end
returns-then-self-end c =
    rw (← c.self.view_is) (end_past (labels_rise c.self.invariant) c.args.label c.args.end c.if-self-end.true)

pub returns-then-label-self : goal.returns-then-label-self
returns-then-label-self c =
    rw (← c.self.view_is)
    (end_high (labels_rise c.self.invariant) c.args.label c.args.end c.if-end-gt0.true c.if-self-end.false refl c.if-label-self.true)

pub returns-then-self-end-2 : goal.returns-then-self-end-2
returns-then-self-end-2 c =
    let low : 0 < c.args.end → at c.self.inside.labels.now (c.args.end - 1) ≤ c.args.label = elim c.else-end-gt0.branch [
      | else-end-gt0-via-then-end-gt0+else-label-self w ↦ λ z. w.if-label-self.false
      | else-end-gt0-via-else-end-gt0 w ↦ λ z. absurd (omega arith)
    ] in
    rw (← c.self.view_is, eq-eqb c.self.inside.count c.args.end c.if-self-end-2.true)
    (end_whole (labels_rise c.self.invariant) c.args.label c.args.end low (omega arith))

pub returns-else-self-end-2 : goal.returns-else-self-end-2
returns-else-self-end-2 c =
    let low : 0 < c.args.end → at c.self.inside.labels.now (c.args.end - 1) ≤ c.args.label = elim c.else-end-gt0.branch [
      | else-end-gt0-via-then-end-gt0+else-label-self w ↦ λ z. w.if-label-self.false
      | else-end-gt0-via-else-end-gt0 w ↦ λ z. absurd (omega arith)
    ] in
    rw (← c.self.view_is) (end_here (labels_rise c.self.invariant) c.args.label c.args.end low (omega arith) refl)
