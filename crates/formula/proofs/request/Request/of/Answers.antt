-- `Request::of` meets its contract: a record that loads has few users.
use Rattle.policy.specs.Table.{user}
use Rattle.policy.specs.LoadableLaws.{table_few, loadable_table}
use Rattle.formula.proofs.request.Request.of.Goals as goal

pub roles_of-requires : goal.roles_of-requires
roles_of-requires c = table_few _ user (loadable_table _ c.rules.invariant user)
