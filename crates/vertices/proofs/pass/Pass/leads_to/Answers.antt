-- `leads_to` meets its contract: its own edges stand together, and the answer is what they say.
use Rattle.std.proofs.Common.{ℕ, sym, ap, ◌∙◌, arith}
use Rattle.std.proofs.Math.Decide.{dec_lt}
use Rattle.common.specs.Lists.{at}
use Rattle.vertices.specs.Places.{placed}
use Rattle.vertices.proofs.Halving.{none_after}
use Rattle.vertices.proofs.OwnEdges.{some_leads, none_leads}
use Rattle.vertices.proofs.pass.Pass.leads_to.Goals as goal

-- no position from p on is x's, where that at p is not
pub returns-then-self-k : goal.returns-then-self-k
returns-then-self-k c =
    let s = c.self.inside in
    let start = ap (at s.starts.now) c.edge_at-k.ensures.place in
    let own = rw (← c.self.view_is) at c.first_from-p.ensures.parted in
    rw (← c.self.view_is) (λ n labels l listed. sym (none_leads s.starts.now s.ends.now listed c.args.x (placed c.args.place) (λ q f b e. elim (dec_lt q c.loop-p.p) [
      | yes d ↦ c.loop-p.invariant q f d e
      | no d ↦ absurd (none_after c.self.invariant own c.loop-p.p c.loop-p.auto.p (λ e. c.if-self-k.true (start ∙ e)) q (omega arith) b e)
    ])))

pub returns-then-has : goal.returns-then-has
returns-then-has c =
    let s = c.self.inside in
    let start = ap (at s.starts.now) c.edge_at-k.ensures.place in
    let own = rw (← c.self.view_is) at c.first_from-p.ensures.parted in
    let tested = sym (c.has.ensures ∙ ap (λ (k : ℕ). placed c.args.place (at s.ends.now k)) c.edge_at-k.ensures.place) in
    rw (← c.self.view_is) (λ n labels l listed. sym (some_leads s.starts.now s.ends.now listed c.args.x (placed c.args.place) c.loop-p.p
    (omega (arith, own.start, c.loop-p.auto.p)) c.loop-p-test.true (sym start ∙ c.if-self-k.false) (tested ∙ c.if-has.true)))

pub returns : goal.returns
returns c =
    let s = c.self.inside in
    rw (← c.self.view_is) (λ n labels l listed. sym (none_leads s.starts.now s.ends.now listed c.args.x (placed c.args.place)
    (λ q f b e. c.loop-p.invariant q f (omega arith) e)))
