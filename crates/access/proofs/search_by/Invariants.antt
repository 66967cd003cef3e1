-- Round by round: what is left to do comes to what the whole comes to.
use Rattle.std.specs.Prelude.{ℕ}
use Rattle.justification.specs.Masked.{Masked}
use Rattle.memo.specs.Memo.{truth_in}
use Rattle.access.proofs.Rounds.{Round}
use Rattle.access.proofs.search_by.Given as goal

abbrev pub invariant-loop-round : goal.invariant-loop-round
invariant-loop-round l = (k : ℕ) → Masked l.principals k 0 l.masks → Round (truth_in l.context) l.principals k l.before l._round l.after
