-- `are_enabled`'s loop: each member passed is enabled.
use Rattle.std.proofs.Common.{◌≡◌, true, ℕ, ◌<◌}
use Rattle.common.specs.Sets.{In}
use Rattle.tickets.specs.Tickets.{enabled_for}
use Rattle.tickets.proofs.are_enabled.Given as goal

abbrev pub invariant-loop-p : goal.invariant-loop-p
invariant-loop-p l = (k : ℕ) → k < l.p → In k l.set → enabled_for l.request k ≡ true
