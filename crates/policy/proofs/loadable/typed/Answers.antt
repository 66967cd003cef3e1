-- `typed` meets its contract: owning a record says it.
use Rattle.policy.proofs.Fields.{owned_columns, typed}
use Rattle.policy.proofs.loadable.typed.Goals as goal

pub returns : goal.returns
returns c = typed (owned_columns c.args._rules c.well_formed.0.0 c.well_formed.0.1.1)
