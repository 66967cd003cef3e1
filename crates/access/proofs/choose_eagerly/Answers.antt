-- `choose_eagerly` meets its contract: the least set of those with the value true, once all are evaluated.
use Rattle.std.proofs.Common.{◌∙◌}
use Rattle.memo.proofs.InContext.{evaluated_for}
use Rattle.access.proofs.Choosing.{eager_answer, asked_loads}
use Rattle.access.proofs.choose_eagerly.Goals as goal

pub returns : goal.returns
returns c =
    let p = c.in_ok-request.ensures in
    let o = c.of-context.ensures in
    let loads = asked_loads c.args.rules.now c.args.question p.may p.asks in
    let all = c.evaluated_all-after.ensures ∙ evaluated_for _ _ loads o.rules o.object o.requestor o.roles c.of-principals.ensures _ in
    eager_answer c.args.rules.now c.args.question p.may p.first (rw p.asks at all)
    (rw (c.of-principals.ensures, p.asks) at c.valued-enabled.ensures) (c.least_among.ensures c.args.rules.now c.args.question.method 0 p.masked)
