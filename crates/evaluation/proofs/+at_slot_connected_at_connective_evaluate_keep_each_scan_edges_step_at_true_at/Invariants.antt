-- Evaluation at one vertex and on sets: its functions call each other, the formula number falling. The measures are 2n for `true_at` and
-- `evaluate` below n, 2f + 1 for the functions of the ops at formula f.
use Rattle.std.proofs.Common.{◌+◌, ◌*◌}
use Rattle.formula.specs.Formula.{keep, true_below, formulas_of}
use Rattle.formula.specs.Evaluation.{context_in}
use Rattle.evaluation.proofs.Recursion.{EachBelow}
use Rattle.evaluation.proofs.+at_slot_connected_at_connective_evaluate_keep_each_scan_edges_step_at_true_at.Given as goal

abbrev pub decreases-at_slot : goal.decreases-at_slot
decreases-at_slot l = 2 * l.f + 1

abbrev pub decreases-connected_at : goal.decreases-connected_at
decreases-connected_at l = 2 * l.f + 1

abbrev pub decreases-connective : goal.decreases-connective
decreases-connective l = 2 * l.f + 1

abbrev pub decreases-evaluate : goal.decreases-evaluate
decreases-evaluate l = 2 * l.n

abbrev pub decreases-keep_each : goal.decreases-keep_each
decreases-keep_each l = 2 * l.f + 1

abbrev pub decreases-scan_edges : goal.decreases-scan_edges
decreases-scan_edges l = 2 * l.f + 1

abbrev pub decreases-step_at : goal.decreases-step_at
decreases-step_at l = 2 * l.f + 1

abbrev pub decreases-true_at : goal.decreases-true_at
decreases-true_at l = 2 * l.n

-- the vertices below v are answered
abbrev pub invariant-keep_each-loop-v : goal.invariant-keep_each-loop-v
invariant-keep_each-loop-v l =
    EachBelow l.asked (λ u. true_below (formulas_of l.rules) (keep (context_in l.rules l.q) l.line.left u) l.f l.right u) l.r l.v
