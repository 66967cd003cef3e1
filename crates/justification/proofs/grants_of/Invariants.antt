-- `grants_of`'s loop: the privileges of each principal passed are in its place.
use Rattle.std.proofs.Common.{◌≡◌, true, ◌↔◌, ℕ, ◌<◌, length}
use Rattle.common.specs.Limits.{most_principals}
use Rattle.common.specs.Lists.{at}
use Rattle.common.specs.Sets.{In}
use Rattle.justification.specs.Justification.{demarcation_has}
use Rattle.justification.proofs.grants_of.Given as goal

abbrev pub invariant-loop-p : goal.invariant-loop-p
invariant-loop-p l =
    ((k : ℕ) → k < l.p → (j : ℕ) → (In j (at l.grants k) ↔ (demarcation_has l.rules (at l.rules.principal_demarcations k) j ≡ true)))
    × (length l.grants ≡ most_principals)
