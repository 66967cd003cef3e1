-- The loop of `reads_slot`: the formulas below i that read the slot are marked.
use Rattle.formula.specs.Formula.{formulas_of}
use Rattle.formula.proofs.SlotReads.{Marked}
use Rattle.formula.proofs.reads_slot.Given as goal

abbrev pub invariant-loop-i : goal.invariant-loop-i
invariant-loop-i l = Marked (formulas_of l.rules) l.a l.marks l.i
