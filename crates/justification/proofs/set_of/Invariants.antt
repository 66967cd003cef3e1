-- `set_of`'s loop: the set so far has those of the numbers passed that pass.
use Rattle.justification.specs.MarkedSets.{SetOf}
use Rattle.justification.proofs.set_of.Given as goal

abbrev pub invariant-loop-p : goal.invariant-loop-p
invariant-loop-p g l = SetOf (goal.F-post g l.passes) l.p l.s
