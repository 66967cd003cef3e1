-- A principal is enabled where its formula, evaluated on the record's columns, is true at the object.
use Rattle.std.specs.Prelude.{ℕ, ◌<◌, ◌≡◌, true}
use Rattle.common.specs.Lists.{at}
use Rattle.common.specs.Sets.{member}
use Rattle.policy.specs.declared.Record.{Record}
use Rattle.policy.specs.Table.{Kind, formula}
use Rattle.policy.specs.Loadable.{table_loads}
use Rattle.policy.specs.LoadableLaws.{table_few}
use Rattle.policy.specs.NamedLaws.{principal_named}
use Rattle.formula.specs.Formula.{holds_role}
use Rattle.formula.specs.Evaluation.{true_at_object}
use Rattle.formula.specs.EvaluationLaws.{true_at_holds}
use Rattle.justification.specs.declared.Question.{Question}
use Rattle.justification.specs.Predicates.{is_enabled}

pub enabled_at : (r : Record) (q : Question) (roles : ℕ) → ((j : Kind) → table_loads r j ≡ true)
    → ((a : ℕ) → member a roles ≡ holds_role r q.requestor a) → (p : ℕ) → p < r.principal_count
    → true_at_object r roles q.object q.requestor (at r.principal_formulas p) ≡ is_enabled r q p
unfolding is_enabled
enabled_at r q roles loads held p l =
    true_at_holds r (at r.principal_formulas p) q.object q.requestor roles held (principal_named r loads p l).0
    (table_few r formula (loads formula))
