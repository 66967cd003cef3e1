-- `principals_load` meets its contract: each line is taken or not, and the unused places are zero or not.
use Rattle.std.proofs.Common.{rules, eqb}
use Rattle.common.specs.Limits.{most_principals}
use Rattle.tables.specs.Loads.{principals_load, plain_refusal, principal_fits}
use Rattle.tables.proofs.Lines.{done, lines_two}
use Rattle.tables.proofs.principals_load.Goals as goal

pub returns : goal.returns
unfolding principals_load
returns c =
    let fit = c.all_fit-fit.ensures (λ i. eqb (plain_refusal most_principals (principal_fits c.args.formulas c.args.demarcations c.args.grounds.now c.args.ranks.now) i) 0) (λ i r l p. search (rules, done)) in
    lines_two _ _ _ fit c.args.grounds.now c.args.ranks.now c.filled_from.ensures c.filled_from-2.ensures
