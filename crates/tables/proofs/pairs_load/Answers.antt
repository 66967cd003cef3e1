-- `pairs_load` meets its contract: each line is taken or not, and the unused places are zero or not.
use Rattle.std.proofs.Common.{rules}
use Rattle.tables.specs.Loads.{pairs_load, no_limit, pair_fits, pair_keys}
use Rattle.tables.proofs.Lines.{taken, done, lines_two}
use Rattle.tables.proofs.pairs_load.Goals as goal

pub returns : goal.returns
unfolding pairs_load
returns c =
    let key = pair_keys c.args.firsts.now c.args.seconds.now in
    let fit = c.all_rise-fit.ensures (taken no_limit (pair_fits c.args.things c.args.firsts.now c.args.seconds.now) key) key (λ i m r l p. search (rules, done)) (λ i k l p. search rules) in
    lines_two _ _ _ fit c.args.firsts.now c.args.seconds.now c.filled_from.ensures c.filled_from-2.ensures
