-- `closure::related` meets its contract: a pair is put in, or passed over.
use Rattle.std.proofs.Common.{arith}
use Rattle.std.proofs.Math.Logic.{inl, inr}
use Rattle.closure.proofs.Relating.{relating_none, relating_put, relating_over}
use Rattle.closure.proofs.related.Goals as goal
use Rattle.closure.proofs.related.Goals.{then-a-lt-MOST_RELATED+then-b-lt-MOST_RELATED, else-a-lt-MOST_RELATED}
use Rattle.closure.proofs.related.Goals.{else-a-lt-MOST_RELATED-via-then-a-lt-MOST_RELATED+else-b-lt-MOST_RELATED, else-a-lt-MOST_RELATED-via-else-a-lt-MOST_RELATED}

pub loop-e-init : goal.loop-e-init
loop-e-init c = relating_none _ _

pub loop-e-preserved : goal.loop-e-preserved
loop-e-preserved c =
    let a = c.from-a.ensures in
    let b = c.from-b.ensures in
    elim c.if-a-lt-MOST_RELATED.branch [
      | then-a-lt-MOST_RELATED+then-b-lt-MOST_RELATED w ↦ rw w.m-is (relating_put c.loop-e.invariant a b (omega arith) (omega arith))
      | else-a-lt-MOST_RELATED w ↦ rw w.m-is (relating_over c.loop-e.invariant (elim w.else-a-lt-MOST_RELATED.branch [
        | else-a-lt-MOST_RELATED-via-then-a-lt-MOST_RELATED+else-b-lt-MOST_RELATED v ↦ inr (omega arith)
        | else-a-lt-MOST_RELATED-via-else-a-lt-MOST_RELATED v ↦ inl (omega arith)
      ]))
    ]
