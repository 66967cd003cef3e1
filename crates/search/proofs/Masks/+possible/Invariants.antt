-- `possible` calls itself, the depth falling. Its loop: what is left to show is that no candidate has a giver from the one at hand on, those
-- before it barred.
use Rattle.search.specs.Steps.{NoneFrom}
use Rattle.search.proofs.Masks.+possible.Given as goal

abbrev pub invariant-loop-giver : goal.invariant-loop-giver
invariant-loop-giver l =
    NoneFrom l.self l.limit l.chosen l.barred l.x l.giver → NoneFrom l.self l.limit l.chosen l.fn.barred l.x 0

abbrev pub decreases-possible : goal.decreases-possible
decreases-possible l = l.depth
