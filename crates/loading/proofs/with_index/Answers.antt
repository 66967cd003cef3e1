-- `with_index` meets its contract: the tables load, so that the edges' columns are such as an index is made of.
use Rattle.std.proofs.Common.{◌∙◌, sym, ap}
use Rattle.policy.specs.Table.{edge, head, with_index}
use Rattle.policy.specs.LoadableLaws.{head_range}
use Rattle.policy.specs.RecordIndexLaws.{index_columns, edges_rise}
use Rattle.loading.proofs.with_index.Goals as goal

pub invariant_of-edges : goal.invariant_of-edges
invariant_of-edges c =
    edges_rise c.args.rules (c.requires.loads edge) (head_range c.args.rules (c.requires.loads head)).1

pub returns : goal.returns
unfolding with_index
returns c =
    ap (with_index c.args.rules) (c.of-index.ensures ∙ sym (index_columns c.args.rules (c.requires.loads edge)))
