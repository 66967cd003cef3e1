-- `starts_to` meets its contract: a whole pass marks the asked starts of the edges that end where `found` says.
use Rattle.std.proofs.Common.{ℕ, ◌<◌, ◌≡◌, Bool, ◌&&◌, List, ap, sym, ◌∙◌, arith}
use Rattle.common.specs.Lists.{at}
use Rattle.vertices.specs.Steps.{is_in}
use Rattle.vertices.proofs.Marking.{marked_taken, marked_passed, marked_to_the_end, starts_marked}
use Rattle.vertices.proofs.pass.Pass.starts_to.Goals.{then-asked-x, else-asked-x}
use Rattle.vertices.proofs.pass.Pass.starts_to.Goals as goal

-- x and y are where the edge at the position starts and ends, and what `found` says of its end is P there: both tests of it agree
tested : (asked found : List Bool) (P : ℕ → Bool) {x y start end : ℕ} → ((v : ℕ) → v < 256 → is_in found v ≡ P v)
    → x ≡ start → y ≡ end → y < 256 → (is_in asked start && P end) ≡ (is_in asked x && is_in found y)
tested asked found P {y = y} says ex ey l =
    let e = says y l ∙ ap P ey in
    λ j. is_in asked (sym ex j) && sym e j

pub loop-p-preserved : goal.loop-p-preserved
loop-p-preserved c =
    λ P says.
    let s = c.self.inside in
    let start = c.from-x.ensures ∙ ap (at s.starts.now) c.edge_at-k.ensures.place in
    let end = c.from.ensures ∙ ap (at s.ends.now) c.edge_at-k.ensures.place in
    let agree = tested c.args.asked.now c.args.found.now P says start end (omega arith) in
    elim c.if-asked-x.branch [
      | then-asked-x w ↦ rw w.r-is (marked_taken (c.loop-p.invariant P says) c.from-x.result start (omega arith) c.loop-p.auto.p c.loop-p-test.true
          (agree ∙ w.if-asked-x.true))
      | else-asked-x w ↦ rw w.r-is (marked_passed (c.loop-p.invariant P says) (agree ∙ w.if-asked-x.false))
    ]

pub returns : goal.returns
returns c =
    rw (← c.self.view_is) (λ n labels l listed P says. starts_marked c.self.inside.starts.now c.self.inside.ends.now listed P c.args.asked.now
    (marked_to_the_end (c.loop-p.invariant P says) (λ q a b. absurd (omega arith))))
