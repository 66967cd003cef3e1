-- `of` meets its contract: a record to which some bundle loads has the index of its edges.
use Rattle.policy.specs.RecordIndexLaws.{loadable_indexed}
use Rattle.evaluation.proofs.context.ObjectContext.of.Goals as goal

pub invariant_of-rules : goal.invariant_of-rules
invariant_of-rules c = loadable_indexed _ c.request.invariant.0
