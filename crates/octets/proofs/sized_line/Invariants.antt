-- The loop of `sized_line` keeps `Sized`: the octets gone through so far, and whether each was a pair of digits.
use Rattle.std.proofs.Common.{drop}
use Rattle.octets.proofs.Sized.{Sized, pairs_left}
use Rattle.octets.proofs.sized_line.Given as goal

abbrev pub invariant-loop-n : goal.invariant-loop-n
invariant-loop-n l =
    Sized (drop l.offset l.text) (pairs_left l.size l.n (drop l.offset l.text)) l.size l.n l.marks l.sum l.total l.initial.octets l.octets
