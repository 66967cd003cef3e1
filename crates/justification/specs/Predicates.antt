-- Who may put a question, and the predicates liberal and strict (document 01, "Writing, liberal and strict"; definitions 10 and 11
-- of the model).
use Rattle.std.specs.Prelude.{ℕ, Bool, not, ◌&&◌, List, [], ◌∷◌, leb, eqb}
use Rattle.common.specs.Lists.{at, any, those, below}
use Rattle.common.specs.Causes.{cause, first}
use Rattle.common.specs.Refusals.{no_method, no_object, not_user, not_loadable}
use Rattle.policy.specs.declared.Record.{Record}
use Rattle.policy.specs.Loadable.{loadable}
use Rattle.formula.specs.Formula.{is_user, holds}
use Rattle.justification.specs.declared.Question.{Question}
use Rattle.justification.specs.Verdicts.{Verdict}
use Rattle.justification.specs.Justification.{meets}

-- 19; 14 no such method; 15 no such object; 16 the requestor isn't a user
unfoldable pub question_refusal : Record → Question → ℕ
question_refusal r q =
    first
    (cause not_loadable (not (loadable r))
    ∷ cause no_method (leb r.method_count q.method)
    ∷ cause no_object (leb r.objects q.object)
    ∷ cause not_user (not (is_user r q.requestor))
    ∷ [])

-- principal p is enabled: its formula is true at the object, evaluated afresh
unfoldable pub is_enabled : Record → Question → ℕ → Bool
is_enabled r q p = holds r (at r.principal_formulas p) q.object q.object q.requestor

abbrev pub enabled : Record → Question → List ℕ
enabled r q = those (is_enabled r q) (below r.principal_count)

-- for a refusal, no
abbrev pub verdict_of : ℕ → Bool → Verdict
verdict_of n b = record { number = n; yes = eqb n 0 && b }

-- all enabled principals together meet the guard
unfoldable pub liberal : Record → Question → Verdict
liberal r q = verdict_of (question_refusal r q) (meets r q.method (enabled r q))

-- one enabled principal alone meets the guard
unfoldable pub strict : Record → Question → Verdict
strict r q = verdict_of (question_refusal r q) (any (λ p. meets r q.method (p ∷ [])) (enabled r q))
