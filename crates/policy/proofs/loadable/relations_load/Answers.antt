-- `relations_load` meets its contract: tables that load have no more demarcations and principals than there may be.
use Rattle.std.proofs.Common.{◌∙◌, ◌&&◌, not}
use Rattle.common.specs.BoolLaws.{and_cases}
use Rattle.closure.specs.Closure.{circular}
use Rattle.policy.specs.Table.{demarcation, hierarchy, principal, prerequisite, rows}
use Rattle.policy.specs.Loadable.{table_loads}
use Rattle.policy.specs.LoadableLaws.{hierarchy_pairs, prerequisite_pairs, table_few}
use Rattle.policy.proofs.loadable.relations_load.Goals as goal

pub relation_loads-ranks-requires : goal.relation_loads-ranks-requires
relation_loads-ranks-requires c =
    let r = c.args.rules.now in table_few r demarcation (and_cases (table_loads r demarcation) _ c.requires).0

pub relation_loads-needs-requires : goal.relation_loads-needs-requires
relation_loads-needs-requires c =
    let r = c.args.rules.now in
    table_few r principal (and_cases (table_loads r principal) _ (and_cases (table_loads r demarcation) _ c.requires).1).0

pub returns : goal.returns
returns c =
    let r = c.args.rules.now in
    let ranks = c.relation_loads-ranks.ensures ∙ (λ i. hierarchy_pairs r i && not (circular (rows hierarchy r))) in
    let needs = c.relation_loads-needs.ensures ∙ (λ i. prerequisite_pairs r i && not (circular (rows prerequisite r))) in
    λ i. ranks i && needs i
