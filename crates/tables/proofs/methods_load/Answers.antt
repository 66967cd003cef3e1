-- `methods_load` meets its contract: each line is taken or not, and the unused places are zero or not.
use Rattle.std.proofs.Common.{rules, eqb, leb}
use Rattle.common.specs.Limits.{most_methods}
use Rattle.common.specs.Lists.{at}
use Rattle.tables.specs.Loads.{methods_load, plain_refusal}
use Rattle.tables.proofs.Lines.{done, lines_two}
use Rattle.tables.proofs.methods_load.Goals as goal

pub returns : goal.returns
unfolding methods_load
returns c =
    let fit = c.all_fit-fit.ensures (λ i. eqb (plain_refusal most_methods (λ i. leb (at c.args.forms.now i) 1) i) 0) (λ i r l p. search (rules, done)) in
    lines_two _ _ _ fit c.args.forms.now c.args.privileges.now c.filled_from.ensures c.filled_from-2.ensures
