-- The loop of `line_total` keeps `Summed`: the length, the kind and so many octets of the body have been added.
use Rattle.writing.proofs.Sums.{Summed}
use Rattle.writing.proofs.line_total.Given as goal

abbrev pub invariant-loop-octet : goal.invariant-loop-octet
invariant-loop-octet l = Summed l.kind l.body l.sum l.octet-index
