-- What the calls and replies of the functions are, in the words of `Replay`.
use Rattle.std.specs.Prelude.{ℕ, ◌≡◌, List}
use Rattle.common.specs.Lists.{at}
use Rattle.policy.specs.declared.Record.{Record}
use Rattle.access.specs.Answers.{Answer, set_granted}
use Rattle.common.specs.RefusalNumbers.{outcome_number}
use Rattle.history.specs.Book.{add, remove, ask_eagerly, ask_lazily, check_ticket}
use Rattle.replay.specs.declared.Call.{Call}
use Rattle.replay.specs.declared.Call.TheVariants.{Add, Remove, AskEagerly, AskLazily, AskLiberally, AskStrictly, CheckTicket, Unknown}
use Rattle.replay.specs.declared.Reply.{Reply}
use Rattle.replay.specs.Replay.{ListedCall, call, liberally, strictly, unknown, call_fields, listed_call_of}

-- of each case of a call
abbrev pub call_values : Call → ListedCall
call_values (Add e) = call (add e.label e.source e.target)
call_values (Remove e) = call (remove e.label e.source e.target)
call_values (AskEagerly q) = call (ask_eagerly q)
call_values (AskLazily q) = call (ask_lazily q)
call_values (AskLiberally q) = liberally q
call_values (AskStrictly q) = strictly q
call_values (CheckTicket t) = call (check_ticket t)
call_values Unknown = unknown

-- the call that so many octets list
abbrev pub IsCallOf : List ℕ → Call → Type 0
IsCallOf octets c = call_values c ≡ listed_call_of (call_fields (at octets))

-- of a reply, with the record that is left
abbrev pub reply_values : Reply → Record → Answer
reply_values reply r = record { number = outcome_number reply.outcome; set = set_granted reply.outcome; evaluations = reply.evaluations; rules = r }
