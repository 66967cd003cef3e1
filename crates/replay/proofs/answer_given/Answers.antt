-- `answer_given` meets its contract. Where no bundle loads to the record, what a call asks of rules comes to 19 by its definition.
use Rattle.std.proofs.Common.{rules}
use Rattle.justification.specs.Predicates.{question_refusal, liberal, strict}
use Rattle.access.specs.Access.{eager, lazy}
use Rattle.tickets.specs.Tickets.{ticket_refusal}
use Rattle.replay.specs.Replay.{answer_to}
use Rattle.replay.proofs.answer_given.Goals as goal

pub returns-in_default : goal.returns-in_default
unfolding answer_to eager lazy liberal strict question_refusal ticket_refusal
returns-in_default c = search rules
