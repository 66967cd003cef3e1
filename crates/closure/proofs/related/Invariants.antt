-- `closure::related` meets its contract. The invariant: after e pairs the relation is what these pairs make.
use Rattle.closure.proofs.Relating.{Relating}
use Rattle.closure.proofs.related.Given as goal

abbrev pub invariant-loop-e : goal.invariant-loop-e
invariant-loop-e l = Relating l.firsts l.seconds l.e l.m
