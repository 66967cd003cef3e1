-- A memo that tells the truth, and what a question then answers.
use Rattle.std.specs.Prelude.{ℕ, ◌≡◌, true}
use Rattle.std.proofs.Math.Option.{Option, none, some}
use Rattle.common.specs.Refusals.{no_set}
use Rattle.policy.specs.declared.Record.{Record}
use Rattle.policy.specs.declared.Memo.{Memo}
use Rattle.policy.specs.Table.{with_memo}
use Rattle.formula.specs.Formula.{holds}
use Rattle.justification.specs.Justification.{least}
use Rattle.justification.specs.declared.Question.{Question}
use Rattle.justification.specs.Predicates.{is_enabled}
use Rattle.memo.specs.Memo.{known, value}
use Rattle.memo.specs.WalkLaws.{MemoLengths}
use Rattle.access.specs.Answers.{Answer}

-- every value that the memo knows is the truth for the memo's pair
pub record CorrectMemo (r : Record) (m : Memo) : Type 0 where
  pub values : (f : ℕ) → known m f ≡ true → value m f ≡ holds r f m.object m.object m.requestor

-- the number and the set of a question's outcome
abbrev pub number_of : Option ℕ → ℕ
number_of none = no_set
number_of (some c) = 0

abbrev pub set_of : Option ℕ → ℕ
set_of none = 0
set_of (some c) = c

-- the answer is the least set of the principals enabled in the record's own graph; the record stays but for the memo, which tells the truth
pub record LeastAnswer (r : Record) (q : Question) (a : Answer) : Type 0 where
  pub number : a.number ≡ number_of (least r q.method (is_enabled r q))
  pub set : a.set ≡ set_of (least r q.method (is_enabled r q))
  pub memo : Memo
  pub left : a.rules ≡ with_memo r memo
  pub lengths : MemoLengths memo
  pub correct : CorrectMemo r memo
