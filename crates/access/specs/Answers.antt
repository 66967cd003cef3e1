-- What a question answers, in document 01's words: the number, the set's number, the evaluations, and the record or the memo.
use Rattle.std.specs.Prelude.{ℕ, Result, Ok, Err}
use Rattle.common.specs.RefusalNumbers.{outcome_number}
use Rattle.common.specs.declared.Refusal.{Refusal}
use Rattle.policy.specs.declared.Record.{Record}
use Rattle.policy.specs.declared.Memo.{Memo}
use Rattle.access.specs.declared.Answer as answers
use Rattle.access.specs.declared.Decision as decisions

pub record Answer : Type 0 where
  pub number : ℕ
  pub set : ℕ
  pub evaluations : ℕ
  pub rules : Record

-- the same, with the memo that it leaves in place of the record
pub record Decision : Type 0 where
  pub number : ℕ
  pub set : ℕ
  pub evaluations : ℕ
  pub memo : Memo

-- the set that is granted; the empty set for a refusal
abbrev pub set_granted : Result ℕ Refusal → ℕ
set_granted (Ok set) = set
set_granted (Err refusal) = 0

-- of the answers of the functions
abbrev pub answer_values : answers.Answer → Answer
answer_values a = record { number = outcome_number a.outcome; set = set_granted a.outcome; evaluations = a.evaluations; rules = a.rules }

abbrev pub decision_values : decisions.Decision → Decision
decision_values d = record { number = outcome_number d.outcome; set = set_granted d.outcome; evaluations = d.evaluations; memo = d.memo }
