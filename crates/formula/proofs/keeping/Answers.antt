-- `keeping` meets its contract: the vertex is kept in the slot's place among the slots.
use Rattle.std.proofs.Common.{Some, ap}
use Rattle.std.proofs.lemmas.List.{map-set}
use Rattle.formula.specs.Evaluation.{slot_of, context_in}
use Rattle.formula.proofs.SlotLaws.{with_slots}
use Rattle.formula.proofs.keeping.Goals as goal

pub returns-then-a-le-HIGHEST_SLOT : goal.returns-then-a-le-HIGHEST_SLOT
returns-then-a-le-HIGHEST_SLOT c =
    λ r. ap (with_slots (context_in r c.args.q)) (rw c.from.ensures (map-set slot_of c.args.q.slots c.args.a (Some c.args.v)))
