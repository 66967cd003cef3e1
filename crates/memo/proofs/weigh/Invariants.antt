-- What is left to weigh comes to what the whole comes to.
use Rattle.memo.specs.Memo.{truth_in}
use Rattle.memo.proofs.Weighing.{Left}
use Rattle.memo.proofs.weigh.Given as goal

abbrev pub invariant-loop-p : goal.invariant-loop-p
invariant-loop-p l = Left (truth_in l.context) l.principals l.c l.initial.memo l.p l.memo
