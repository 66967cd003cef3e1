-- The principals of rules that load, and the formulas that they name.
use Rattle.std.specs.Prelude.{ℕ, ◌<◌, ◌≤◌, ◌≡◌, true}
use Rattle.common.specs.Limits.{most_formulas, most_principals}
use Rattle.policy.specs.declared.Record.{Record}
use Rattle.policy.specs.Table.{principal}
use Rattle.policy.specs.Loadable.{loadable}
use Rattle.policy.specs.LoadableLaws.{table_few, loadable_table}
use Rattle.policy.specs.NamedLaws.{principal_named}
use Rattle.memo.specs.Walk.{formula_of}
use Rattle.memo.specs.StepLaws.{formulas_in_memo}

pub principals_few : (r : Record) → loadable r ≡ true → r.principal_count ≤ most_principals
principals_few r loads = table_few r principal (loadable_table r loads principal)

pub formula_named : (r : Record) (p : ℕ) → loadable r ≡ true → p < r.principal_count → formula_of r p < r.formula_count
formula_named r p loads l = (principal_named r (loadable_table r loads) p l).0

pub formula_placed : (r : Record) (p : ℕ) → loadable r ≡ true → p < r.principal_count → formula_of r p < most_formulas
formula_placed r p loads l = formulas_in_memo r (loadable_table r loads) p l
