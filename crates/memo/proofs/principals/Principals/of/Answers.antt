-- `of` meets its contract: the principals of a record to which some bundle loads are few, and name formulas that have a place.
use Rattle.memo.proofs.Places.{principals_few, formula_placed}
use Rattle.memo.proofs.principals.Principals.of.Goals as goal

pub invariant_of-result : goal.invariant_of-result
invariant_of-result c =
    let loads = c.request.invariant.0 in
    (principals_few _ loads, λ p l. formula_placed _ p loads l)
