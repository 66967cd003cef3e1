-- `exclusions_load` meets its contract: each line is taken or not, and the unused places are zero or not.
use Rattle.std.proofs.Common.{rules}
use Rattle.tables.specs.Loads.{exclusions_load, no_limit, exclusion_fits, pair_keys}
use Rattle.tables.proofs.Lines.{taken, done, lines_two}
use Rattle.tables.proofs.exclusions_load.Goals as goal

pub returns : goal.returns
unfolding exclusions_load
returns c =
    let key = pair_keys c.args.lows.now c.args.highs.now in
    let fit = c.all_rise-fit.ensures (taken no_limit (exclusion_fits c.args.principals c.args.lows.now c.args.highs.now) key) key (λ i m r l p. search (rules, done)) (λ i k l p. search rules) in
    lines_two _ _ _ fit c.args.lows.now c.args.highs.now c.filled_from.ensures c.filled_from-2.ensures
