-- `excludes_of`'s loop: the sets so far have the exclusions of the pairs passed.
use Rattle.justification.proofs.Excluding.{Excludes}
use Rattle.justification.proofs.excludes_of.Given as goal

abbrev pub invariant-loop-i : goal.invariant-loop-i
invariant-loop-i l = Excludes l.rules.exclusion_lows l.rules.exclusion_highs l.i l.sets
