-- `leading_to` meets its contract: the columns of the closed relation are the sets of what leads to each thing.
use Rattle.std.proofs.Common.{false, [], arith, rules, get_or, length-set}
use Rattle.justification.specs.MarkedSets.{Marks}
use Rattle.justification.proofs.Leading.{leading}
use Rattle.justification.proofs.Marking.{set_marks, stored}
use Rattle.justification.proofs.leading_to.Goals as goal

pub loop-j-preserved : goal.loop-j-preserved
loop-j-preserved c =
    let n = c.args.things in
    let closed = c.closed-closed.result in
    let here = set_marks {t = λ i. get_or (get_or closed i []) c.loop-j.j-counter false} c.set_of.ensures (λ p b l a. search rules) in (
      stored (λ k s. Marks n (λ i. get_or (get_or closed i []) k false) s) c.loop-j.sets c.loop-j.j-counter c.set_of.result (omega arith)
          c.loop-j.invariant.0 here,
      simp length-set c.loop-j.invariant.1,
    )

pub returns : goal.returns
returns c =
    leading c.args.things c.args.count c.args.firsts.now c.args.seconds.now c.related-relation.result c.closed-closed.result
    c.loop-j.sets c.requires.0 c.requires.1 c.related-relation.ensures c.closed-closed.ensures
    (λ j l. c.loop-j.invariant.0 j (omega arith))
