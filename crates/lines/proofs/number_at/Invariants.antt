-- The octets read so far make `value`.
use Rattle.lines.proofs.Numbers.{Value}
use Rattle.lines.proofs.number_at.Given as goal

abbrev pub invariant-loop-octet : goal.invariant-loop-octet
invariant-loop-octet l = Value l.octets l.k l.value l.octet-index
