-- `choose_lazily` meets its contract: the searches, round by round, are the walk over all candidates.
use Rattle.std.proofs.Common.{◌∙◌}
use Rattle.memo.proofs.InContext.{searching_for}
use Rattle.access.proofs.Choosing.{lazy_answer, asked_loads}
use Rattle.access.proofs.choose_lazily.Goals as goal

pub returns : goal.returns
returns c =
    let p = c.in_ok-request.ensures in
    let o = c.of-context.ensures in
    let loads = asked_loads c.args.rules.now c.args.question p.may p.asks in
    let s = c.search_by.ensures c.args.question.method (rw (c.of-principals.ensures, p.asks) p.masked) in
    let all = s.1 ∙ searching_for _ _ loads o.rules o.object o.requestor o.roles c.of-principals.ensures _ _ in
    rw (s.0, all, p.asks) (lazy_answer c.args.rules.now c.args.question p.may p.first p.lengths)
