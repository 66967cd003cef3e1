-- `edges_load` meets its contract: each line is taken or not, and the unused places are zero or not.
use Rattle.std.proofs.Common.{rules, leb}
use Rattle.common.specs.Limits.{most_edges}
use Rattle.tables.specs.Loads.{edges_load, edge_fits, edge_keys}
use Rattle.tables.proofs.Lines.{taken, done, lines_three}
use Rattle.tables.proofs.edges_load.Goals as goal

pub returns : goal.returns
unfolding edges_load
returns c =
    let key = edge_keys c.args.labels.now c.args.sources.now c.args.targets.now in
    let fit = c.all_rise-fit.ensures (taken (leb most_edges) (edge_fits c.args.objects c.args.labels.now c.args.sources.now c.args.targets.now) key) key (λ i m r l p. search (rules, done)) (λ i k l p. search rules) in
    lines_three _ _ _ fit c.args.labels.now c.args.sources.now c.args.targets.now c.filled_from.ensures c.filled_from-2.ensures c.filled_from-3.ensures
