-- `leading_to`'s loop: the set of each thing passed is in its place.
use Rattle.std.proofs.Common.{◌≡◌, false, [], ℕ, ◌<◌, get_or, length}
use Rattle.common.specs.Limits.{most_related}
use Rattle.common.specs.Lists.{at}
use Rattle.justification.specs.MarkedSets.{Marks}
use Rattle.justification.proofs.leading_to.Given as goal

abbrev pub invariant-loop-j : goal.invariant-loop-j
invariant-loop-j l =
    ((k : ℕ) → k < l.j-counter → Marks l.things (λ i. get_or (get_or l.closed i []) k false) (at l.sets k)) × (length l.sets ≡ most_related)
