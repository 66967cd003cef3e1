-- `closure::closed` meets its contract. The invariants: after the things below k the relation is closed through them (`ClosedThrough`);
-- in the turn for k, the rows below i are done (`RowsDone`); in row i, the cells before j are (`CellsDone`).
use Rattle.common.specs.Limits.{most_related}
use Rattle.closure.specs.Closure.{On}
use Rattle.closure.proofs.Closing.{ClosedThrough, RowsDone, CellsDone}
use Rattle.closure.proofs.Square.{Square}
use Rattle.closure.proofs.closed.Given as goal

abbrev pub invariant-loop-j : goal.invariant-loop-j
invariant-loop-j l = record { cells : CellsDone l.n l.k l.i l.j (On l.initial.c) (On l.c); square : Square most_related l.c }

abbrev pub invariant-loop-i : goal.invariant-loop-i
invariant-loop-i l = record { rows : RowsDone l.n l.k l.i (On l.initial.c) (On l.c); square : Square most_related l.c }

abbrev pub invariant-loop-k : goal.invariant-loop-k
invariant-loop-k l = record { closed : ClosedThrough l.n (On l.fn.m) l.k (On l.c); square : Square most_related l.c }
