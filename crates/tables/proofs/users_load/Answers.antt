-- `users_load` meets its contract: each line is taken or not, and the unused places are zero or not.
use Rattle.std.proofs.Common.{rules}
use Rattle.common.specs.Lists.{at}
use Rattle.tables.specs.Loads.{users_load, no_limit, user_fits}
use Rattle.tables.proofs.Lines.{taken, done, lines_two}
use Rattle.tables.proofs.users_load.Goals as goal

pub returns : goal.returns
unfolding users_load
returns c =
    let key = at c.args.users.now in
    let fit = c.all_rise-fit.ensures (taken no_limit (user_fits c.args.objects c.args.users.now) key) key (λ i m r l p. search (rules, done)) (λ i k l p. search rules) in
    lines_two _ _ _ fit c.args.users.now c.args.roles.now c.filled_from.ensures c.filled_from-2.ensures
