-- `filled_from` meets its contract: one place more, and the end of the column.
use Rattle.std.proofs.Common.{arith}
use Rattle.tables.proofs.Zero.{joined_none, joined_more, joined_end}
use Rattle.tables.proofs.filled_from.Goals as goal

pub returns : goal.returns
returns g c = joined_end c.loop-i.invariant (omega arith)

pub loop-i-init : goal.loop-i-init
loop-i-init g c = joined_none

pub loop-i-preserved : goal.loop-i-preserved
loop-i-preserved g c = joined_more c.loop-i.invariant (omega arith) c.index-column-i.is c.eq-filled.ensures
