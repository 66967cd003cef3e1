-- `Guard::of` meets its contract: of a record that loads each principal's privileges can be told.
use Rattle.justification.proofs.GuardLaws.{rules_grants_fit}
use Rattle.predicates.proofs.guard.Guard.of.Goals as goal

pub grants_of-requires : goal.grants_of-requires
grants_of-requires c = rules_grants_fit c.rules.inside.columns.now c.rules.invariant
