-- What the loop of `read_kind` keeps, for any kind: so many of the kind's lines have been taken, and the heights kept are small.
use Rattle.std.proofs.Common.{◌-◌, length}
use Rattle.lines.specs.Judging.{table_of}
use Rattle.reading.proofs.TakenLines.{TakenLines, Small}
use Rattle.reading.proofs.read_kind.Given as goal

abbrev pub invariant-loop-taken : goal.invariant-loop-taken
invariant-loop-taken l = TakenLines l.reader (table_of l.kind) l.fn.from l.cursor l.rules l.row l.least_key l.heights × Small l.heights

abbrev pub decreases-loop-taken : goal.decreases-loop-taken
decreases-loop-taken l = length l.reader - l.cursor.offset
