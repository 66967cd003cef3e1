-- The loop of `write_line` keeps `BodyWritten`: so many octets of the body have been written.
use Rattle.octets.proofs.Written.{BodyWritten}
use Rattle.octets.proofs.write_line.Given as goal

abbrev pub invariant-loop-k : goal.invariant-loop-k
invariant-loop-k l = BodyWritten l.kind l.body l.fn.buffer l.buffer l.sum l.k
