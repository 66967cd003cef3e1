-- What rules that load have a place for.
use Rattle.std.specs.Prelude.{ℕ, ◌<◌, ◌≤◌, ◌≡◌, true}
use Rattle.common.specs.Limits.{most_principals}
use Rattle.common.specs.Lists.{at}
use Rattle.policy.specs.declared.Record.{Record}
use Rattle.policy.specs.Table.{principal}
use Rattle.policy.specs.Loadable.{loadable}
use Rattle.policy.specs.LoadableLaws.{table_few, loadable_table}
use Rattle.policy.specs.NamedLaws.{principal_named}
use Rattle.justification.specs.declared.Question.{Question}
use Rattle.justification.specs.Predicates.{question_refusal}
use Rattle.justification.proofs.Asking.{asked}

pub principals_few : (r : Record) → loadable r ≡ true → r.principal_count ≤ most_principals
principals_few r loads = table_few r principal (loadable_table r loads principal)

pub formula_named : (r : Record) (p : ℕ) → loadable r ≡ true → p < r.principal_count → at r.principal_formulas p < r.formula_count
formula_named r p loads l = (principal_named r (loadable_table r loads) p l).0

-- where the question may be put, there is such a method
pub method_there : (r : Record) (q : Question) → question_refusal r q ≡ 0 → q.method < r.method_count
method_there r q e = (asked r q e).method

pub ruleset places = (principals_few, formula_named)
