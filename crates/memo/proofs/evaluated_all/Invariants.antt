-- So far each principal in rising number has its formula evaluated.
use Rattle.std.proofs.Common.{◌≡◌}
use Rattle.common.specs.Lists.{below}
use Rattle.memo.specs.Memo.{truth_in}
use Rattle.memo.specs.Walk.{evaluated_all}
use Rattle.memo.proofs.evaluated_all.Given as goal

abbrev pub invariant-loop-p : goal.invariant-loop-p
invariant-loop-p l = l.memo ≡ evaluated_all (truth_in l.context) l.principals l.initial.memo (below l.p)
