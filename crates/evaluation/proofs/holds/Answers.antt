-- `holds` meets its contract: a record that loads has few formulas and the index of its edges, and the roles are the requestor's.
use Rattle.policy.specs.Table.{formula}
use Rattle.policy.specs.LoadableLaws.{table_few, loadable_table}
use Rattle.policy.specs.RecordIndexLaws.{loadable_indexed}
use Rattle.std.proofs.Common.{◌∙◌}
use Rattle.formula.specs.EvaluationLaws.{true_at_holds}
use Rattle.evaluation.proofs.holds.Goals as goal

pub invariant_of-rules : goal.invariant_of-rules
invariant_of-rules c = loadable_indexed _ c.request.invariant.0

pub returns : goal.returns
returns c =
    let i = c.request.inside in
    let r = i.columns.now in
    let few = table_few r formula (loadable_table r c.request.invariant.0 formula) in
    rw (← c.request.view_is) (c.true_at_object.ensures
    ∙ true_at_holds r c.args.f i.object i.requestor i.roles c.request.invariant.1 (rw (← c.request.view_is) at c.requires) few)
