-- The loop of `put_lines` keeps `Writing`: the lines of so many rows have been written.
use Rattle.std.proofs.Common.{◌+◌, ◌*◌}
use Rattle.writing.specs.DraftLaws.{Writing}
use Rattle.writing.proofs.put_lines.Given as goal

abbrev pub invariant-loop-i : goal.invariant-loop-i
invariant-loop-i g l = Writing g.B.Body.octets_of (goal.F-post g l.body l.table) (2 * g.B.Body.size + 7) l.kind l.fn.buffer l.fn.from l.buffer l.draft l.i
