-- `excludes_of` meets its contract: the sets grow by the pair at hand, each for the other.
use Rattle.std.proofs.Common.{arith}
use Rattle.justification.proofs.Excluding.{excludes_more}
use Rattle.justification.proofs.excludes_of.Goals as goal

pub loop-i-preserved : goal.loop-i-preserved
loop-i-preserved c =
    let there = c.requires.there c.loop-i.i c.loop-i-test.true in
    excludes_more _ _ c.loop-i.invariant c.from-low.ensures c.from-high.ensures (omega (arith, there)) (omega (arith, there))
    c.add.ensures c.add-in-loop-i.ensures
