-- The loop's invariant: g is what the members below p list.
use Rattle.search.specs.Steps.{Gathers}
use Rattle.search.proofs.candidates.gathered.Given as goal

abbrev pub invariant-loop-p : goal.invariant-loop-p
invariant-loop-p l = Gathers l.p l.s l.lists l.g
