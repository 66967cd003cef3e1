-- `set_of` meets its contract: the set grows by the number at hand where it passes.
use Rattle.justification.proofs.Marking.{set_of_next}
use Rattle.justification.proofs.set_of.Goals as goal

pub loop-p-preserved : goal.loop-p-preserved
loop-p-preserved g c = rw c.marked-s.ensures (set_of_next _ c.loop-p.invariant c.passes.ensures)
