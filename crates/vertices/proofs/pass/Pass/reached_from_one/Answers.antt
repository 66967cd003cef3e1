-- `reached_from_one` meets its contract: its own edges stand together, and their ends are marked.
use Rattle.std.proofs.Common.{ap, sym, ◌∙◌, eqb, eq-eqb, ne_eqb, arith}
use Rattle.common.specs.Lists.{at}
use Rattle.vertices.proofs.Marking.{marked_taken, marked_to_the_end, ends_marked}
use Rattle.vertices.proofs.Halving.{none_after}
use Rattle.vertices.proofs.pass.Pass.reached_from_one.Goals as goal

pub returns-then-self-k : goal.returns-then-self-k
returns-then-self-k c =
    let s = c.self.inside in
    let start = ap (at s.starts.now) c.edge_at-k.ensures.place in
    let own = rw (← c.self.view_is) at c.first_from-p.ensures.parted in
    rw (← c.self.view_is) (λ n labels l listed. ends_marked s.starts.now s.ends.now listed (λ u. eqb u c.args.x)
    (marked_to_the_end c.loop-p.invariant
    (λ q f b. ne_eqb _ c.args.x
    (none_after c.self.invariant own c.loop-p.p c.loop-p.auto.p (λ e. c.if-self-k.true (start ∙ e)) q f b))))

pub loop-p-preserved : goal.loop-p-preserved
loop-p-preserved c =
    let s = c.self.inside in
    let start = ap (at s.starts.now) c.edge_at-k.ensures.place in
    let end = c.from.ensures ∙ ap (at s.ends.now) c.edge_at-k.ensures.place in
    let own = rw (← c.self.view_is) at c.first_from-p.ensures.parted in
    marked_taken c.loop-p.invariant c.from.result end (omega arith) (omega (arith, own.start, c.loop-p.auto.p)) c.loop-p-test.true
    (eq-eqb _ c.args.x (sym start ∙ c.if-self-k.false))

pub returns : goal.returns
returns c =
    rw (← c.self.view_is) (λ n labels l listed. ends_marked c.self.inside.starts.now c.self.inside.ends.now listed (λ u. eqb u c.args.x)
    (marked_to_the_end c.loop-p.invariant (λ q a b. absurd (omega arith))))
