-- `first_from` meets its contract: the middle position parts those below it, or those above.
use Rattle.std.proofs.Common.{ap, arith}
use Rattle.common.specs.Lists.{at}
use Rattle.common.specs.Halving.{parted_below, parted_above, parted_all}
use Rattle.vertices.proofs.pass.Pass.first_from.Goals as goal

pub loop-low-preserved-then-self-k : goal.loop-low-preserved-then-self-k
loop-low-preserved-then-self-k c =
    let start = ap (at c.self.inside.starts.now) c.edge_at-k.ensures.place in
    (parted_below c.self.invariant.rising c.loop-low.invariant.0 _ (omega arith) (omega arith) (omega (arith, start)), omega arith)

pub loop-low-preserved : goal.loop-low-preserved
loop-low-preserved c =
    let start = ap (at c.self.inside.starts.now) c.edge_at-k.ensures.place in
    (parted_above c.self.invariant.rising c.loop-low.invariant.0 _ (omega arith) (omega arith) (omega (arith, start)), omega arith)

pub returns : goal.returns
returns c = rw (← c.self.view_is) (record { passable = c.self.invariant; parted = parted_all (omega arith) c.loop-low.invariant.0 })
