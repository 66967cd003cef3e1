-- `decide_liberally` meets its contract: the guard is met by what the enabled givers have.
use Rattle.predicates.proofs.Verdicts.{liberal_yes}
use Rattle.predicates.proofs.decide_liberally.Goals as goal

pub returns : goal.returns
returns c =
    let p = c.in_ok-request.ensures in
    liberal_yes c.args.rules.now c.args.question p.may c.in_ok-request.guard p.guards _ _ (rw p.asks at c.enabled_of-enabled.ensures)
    c.met_alone-givers.ensures _ _ c.gathered-given.ensures c.meets.ensures
