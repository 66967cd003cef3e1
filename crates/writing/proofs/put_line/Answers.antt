-- `put_line` meets its contract: the line stands in the rest of the buffer, which is put back.
use Rattle.std.proofs.Common.{arith}
use Rattle.writing.proofs.Placed.{length_one, put_one}
use Rattle.writing.proofs.put_line.Goals as goal

pub returns : goal.returns
returns c =
    put_one _ _ _ _ c.requires.0 c.requires.1 c.write_line-length.ensures.length c.write_line-length.ensures.buffer c.line_total-total.ensures

pub overflow_add-result : goal.overflow_add-result
overflow_add-result c =
    omega (arith, c.requires.1.room, length_one _ _ _ _ c.requires.0 c.requires.1 c.write_line-length.ensures.length)
