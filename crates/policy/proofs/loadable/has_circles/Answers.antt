-- `has_circles` meets its contract.
use Rattle.std.proofs.Common.{◌∙◌}
use Rattle.policy.specs.Table.{demarcation, hierarchy, principal, prerequisite}
use Rattle.policy.specs.LoadableLaws.{hierarchy_pairs, prerequisite_pairs, table_few}
use Rattle.policy.proofs.loadable.has_circles.Goals as goal

pub pairs_circular-requires : goal.pairs_circular-requires
pairs_circular-requires c =
    let r = c.args.rules.now in (hierarchy_pairs r ∙ c.requires hierarchy, table_few r demarcation (c.requires demarcation))

pub pairs_circular-requires-else-pairs_circular : goal.pairs_circular-requires-else-pairs_circular
pairs_circular-requires-else-pairs_circular c =
    let r = c.args.rules.now in (prerequisite_pairs r ∙ c.requires prerequisite, table_few r principal (c.requires principal))
