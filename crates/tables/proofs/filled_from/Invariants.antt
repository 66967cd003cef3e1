-- `filled_from` meets its contract: the places before i are found to hold the value or not (`Joined`).
use Rattle.tables.proofs.Zero.{Joined}
use Rattle.tables.proofs.filled_from.Given as goal

abbrev pub invariant-loop-i : goal.invariant-loop-i
invariant-loop-i g l = Joined (λ x. g.T.PartialEq.eq x l.value) l.column l.count l.filled l.i
