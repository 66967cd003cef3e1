-- The eager and the lazy question (document 01, "Questions and edits"; refusals 14 to 17 and 19), and what each returns and leaves.
use Rattle.std.specs.Prelude.{ℕ, Bool, cond, eqb}
use Rattle.common.specs.Lists.{below}
use Rattle.common.specs.Refusals.{no_set}
use Rattle.policy.specs.declared.Record.{Record}
use Rattle.policy.specs.declared.Memo.{Memo}
use Rattle.policy.specs.Table.{with_memo}
use Rattle.formula.specs.Formula.{holds}
use Rattle.justification.specs.Justification.{candidates}
use Rattle.justification.specs.declared.Question.{Question}
use Rattle.justification.specs.Predicates.{question_refusal}
use Rattle.memo.specs.Memo.{memo_for, newly}
use Rattle.memo.specs.Walk.{Outcome, granted, denied, evaluated_all, eagerly, walk}
use Rattle.access.specs.Answers.{Answer}
use Rattle.access.specs.Answers.{Decision}

-- what a formula comes to, evaluated afresh at the object
abbrev pub truth_at : Record → Question → ℕ → Bool
truth_at r q f = holds r f q.object q.object q.requestor

-- granted: the set. Denied: 17 and the empty set. Both with the evaluations, and the record with the new memo
unfoldable pub answered : Record → Memo → Outcome → Answer
answered r before (granted c after) = record { number = 0; set = c; evaluations = newly before after; rules = with_memo r after }
answered r before (denied after) = record { number = no_set; set = 0; evaluations = newly before after; rules = with_memo r after }

-- the answer of a decision: the record has the decision's memo
abbrev pub leaves : Record → Decision → Answer
leaves r d = record { number = d.number; set = d.set; evaluations = d.evaluations; rules = with_memo r d.memo }

-- refused before that, with 19, 14, 15 or 16: the empty set, 0, and the record
abbrev pub refused : ℕ → Record → Answer
refused n r = record { number = n; set = 0; evaluations = 0; rules = r }

abbrev pub asked : Record → ℕ → Answer → Answer
asked r n answer = cond (eqb n 0) answer (refused n r)

-- eager: each principal in rising number has its formula evaluated unless known; then the least set of enabled principals
unfoldable pub eager : Record → Question → Answer
eager r q =
    asked r (question_refusal r q)
    (answered r (memo_for r.memo q)
    (eagerly r q.method (evaluated_all (truth_at r q) r (memo_for r.memo q) (below r.principal_count))))

-- lazy: the candidates from all principals, least first; the first that survives
unfoldable pub lazy : Record → Question → Answer
lazy r q =
    asked r (question_refusal r q) (answered r (memo_for r.memo q) (walk (truth_at r q) r (memo_for r.memo q) (candidates r q.method)))
