-- `closure::closed` meets its contract: a cell put in or not, a row gone through or not, and a thing gone through.
use Rattle.std.proofs.Common.{arith, sym, ◌∙◌}
use Rattle.std.proofs.lemmas.Bool.{true≢false}
use Rattle.common.specs.Limits.{most_related}
use Rattle.closure.proofs.Closing.{through_none, through_self, through_next, through_all, cells_more, cells_skip}
use Rattle.closure.proofs.Square.{square_put, with_put}
use Rattle.closure.proofs.ArraySquare.{square_of}
use Rattle.closure.proofs.closed.Goals as goal
use Rattle.closure.proofs.closed.Goals.{then-c-k, else-c-k}

pub loop-k-init : goal.loop-k-init
loop-k-init c = record { closed = through_none; square = square_of most_related c.args.m _ c.well_formed.0 }

pub loop-j-preserved : goal.loop-j-preserved
loop-j-preserved c =
    let a = c.loop-j.invariant in
    elim c.if-c-k.branch [
      | then-c-k w ↦ rw w.c-is (record {
        cells = cells_more a.cells (omega arith) w.if-c-k.true (with_put a.square c.loop-i.i c.loop-j.j (omega arith) (omega arith));
        square = square_put a.square c.loop-i.i c.loop-j.j (omega arith) (omega arith) _;
      })
      | else-c-k w ↦ rw w.c-is (record { cells = cells_skip a.cells (λ p. true≢false (sym p ∙ w.if-c-k.false)); square = a.square })
    ]

pub loop-k-preserved : goal.loop-k-preserved
loop-k-preserved c =
    let w = with_put c.loop-k.invariant.square c.loop-k.k c.loop-k.k (omega arith) (omega arith) in
    let u = through_self c.loop-k.invariant.closed (omega arith) w in
    record {
      closed = through_next u (omega arith) (omega arith) w.added c.loop-i.invariant.rows;
      square = c.loop-i.invariant.square;
    }

pub returns : goal.returns
returns c = rw (← c.min-n.ensures) (through_all c.loop-k.invariant.closed (omega arith))
