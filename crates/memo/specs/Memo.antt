-- The memo (document 01, "Questions and edits"): what a question finds in it, what an evaluation enters, and the count of evaluations.
use Rattle.std.specs.Prelude.{ℕ, Bool, true, false, not, cond, ◌&&◌, length, get_or, set, eqb}
use Rattle.common.specs.Limits.{most_formulas}
use Rattle.common.specs.Lists.{those, below}
use Rattle.policy.specs.declared.Memo.{Memo}
use Rattle.policy.specs.Table.{emptied}
use Rattle.formula.specs.Requests.{Asked}
use Rattle.formula.specs.Formula.{holds}
use Rattle.formula.specs.Evaluation.{true_at_object}
use Rattle.evaluation.specs.declared.context.ObjectContext.{ObjectContext}
use Rattle.justification.specs.declared.Question.{Question}

abbrev pub known : Memo → ℕ → Bool
known m f = get_or m.known f false

abbrev pub value : Memo → ℕ → Bool
value m f = get_or m.value f false

abbrev pub noted : Memo → ℕ → Bool → Memo
noted m f v = record { object = m.object; requestor = m.requestor; known = set m.known f true; value = set m.value f v }

-- what formula f comes to, evaluated afresh at the object of a request
abbrev pub truth_for : Asked → ℕ → Bool
truth_for q f = holds q.rules f q.object q.object q.requestor

-- what formula f comes to at the object of a context
abbrev pub truth_in : ObjectContext → ℕ → Bool
truth_in c f = true_at_object c.rules c.roles c.object c.requestor f

-- formula f evaluated, unless known; `truth f` is what evaluation comes to
unfoldable pub evaluated : (ℕ → Bool) → Memo → ℕ → Memo
evaluated truth m f = cond (known m f) m (noted m f (truth f))

-- "If the memo's pair differs, the memo is first emptied and takes the new pair."
unfoldable pub memo_for : Memo → Question → Memo
memo_for m q = cond (eqb m.object q.object && eqb m.requestor q.requestor) m (emptied q.object q.requestor)

-- "the evaluations: the number of formulas known after and not known before"
unfoldable pub newly : Memo → Memo → ℕ
newly before after = length (those (λ f. known after f && not (known before f)) (below most_formulas))
