-- What the functions below the two questions say to each other.
use Rattle.std.specs.Prelude.{ℕ, ◌≡◌, Option, Some, None, Result, Ok, Err}
use Rattle.std.proofs.Math.Option as maybe
use Rattle.common.specs.RefusalNumbers.{number}
use Rattle.common.specs.declared.Refusal.{Refusal}
use Rattle.policy.specs.declared.Record.{Record}
use Rattle.policy.specs.declared.Memo.{Memo}
use Rattle.formula.specs.Requests.{Asked}
use Rattle.search.specs.declared.Masks.{Masks}
use Rattle.justification.specs.declared.Question.{Question}
use Rattle.justification.specs.Predicates.{question_refusal}
use Rattle.justification.specs.Masked.{Masked}
use Rattle.memo.specs.Memo.{memo_for}
use Rattle.memo.specs.Walk.{Outcome, outcome}
use Rattle.memo.specs.WalkLaws.{MemoLengths}
use Rattle.access.specs.declared.Choice.{Choice}
use Rattle.access.specs.Answers.{Answer}
use Rattle.access.specs.Access.{answered, refused}

-- a question may be put to a record: the request, the masks for its method, and the memo for it
pub record Puts (r : Record) (q : Question) (request : Asked) (masks : Masks) (before : Memo) : Type 0 where
  pub may : question_refusal r q ≡ 0
  pub asks : request ≡ record { rules = r; object = q.object; requestor = q.requestor }
  pub masked : Masked r q.method 0 masks
  pub first : before ≡ memo_for r.memo q
  pub lengths : MemoLengths before

-- the set that was found, if there is one
abbrev pub found : Option ℕ → maybe.Option ℕ
found (Some c) = maybe.some c
found None = maybe.none

-- what was chosen, with the memo that is left
abbrev pub outcome_of : Choice → Outcome
outcome_of c = outcome c.after (found c.set)

-- the answer of each case: a choice, or what refuses the question
abbrev pub came_to : Record → Result Choice Refusal → Answer
came_to r (Ok c) = answered r c.before (outcome_of c)
came_to r (Err refusal) = refused (number refusal) r
