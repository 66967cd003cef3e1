-- `pairs_circular` meets its contract: the code's relation is that of the pairs.
use Rattle.tables.proofs.Circles.{circular_pairs}
use Rattle.tables.proofs.pairs_circular.Goals as goal

pub returns : goal.returns
returns c =
    circular_pairs c.args.things c.args.count c.args.firsts.now c.args.seconds.now c.related-relation.result c.requires.0 c.requires.1
    c.related-relation.ensures c.circular.ensures
