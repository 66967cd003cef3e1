-- `line_total` meets its contract: a turn adds one octet, and the check octet goes on top.
use Rattle.std.proofs.Common.{arith}
use Rattle.writing.proofs.Sums.{summed_more, summed_all}
use Rattle.writing.proofs.line_total.Goals as goal

pub loop-octet-preserved : goal.loop-octet-preserved
loop-octet-preserved c = summed_more c.loop-octet.invariant c.loop-octet-test.true c.from-sum.ensures (omega arith)

pub returns : goal.returns
returns c = (summed_all c.loop-octet.invariant c.loop-octet-test.false, omega (arith, c.loop-octet.invariant.small, c.loop-octet.invariant.within))
