-- `gathered` meets its contract: each iteration adds what p lists, where p is a member.
use Rattle.search.proofs.Sums.{gathers_more, gathers_skip}
use Rattle.search.proofs.candidates.gathered.Goals as goal
use Rattle.search.proofs.candidates.gathered.Goals.{then-has, else-has}

pub loop-p-preserved : goal.loop-p-preserved
loop-p-preserved c =
    let p = c.loop-p.p in
    let inv = c.loop-p.invariant in
    elim c.if-has.branch [
      | then-has w ↦ rw w.g-is (gathers_more p (c.has.ensures.yes w.if-has.true) inv)
      | else-has w ↦ rw w.g-is (gathers_skip p (c.has.ensures.no w.if-has.false) inv)
    ]
