-- `decide_strictly` meets its contract: the enabled are found of those that meet the guard alone.
use Rattle.predicates.proofs.Verdicts.{strict_yes}
use Rattle.predicates.proofs.decide_strictly.Goals as goal

pub returns : goal.returns
returns c =
    let p = c.in_ok-request.ensures in
    strict_yes c.args.rules.now c.args.question p.may c.in_ok-request.guard p.guards _ _ (rw p.asks at c.enabled_of-found.ensures)
    c.met_alone-able.ensures
