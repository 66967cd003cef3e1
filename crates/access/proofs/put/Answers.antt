-- `put` meets its contract: of a record that loads masks can be made for a method that there is.
use Rattle.std.proofs.Common.{sym}
use Rattle.justification.proofs.GuardLaws.{rules_masks_fit}
use Rattle.access.proofs.Choosing.{method_there}
use Rattle.access.proofs.put.Goals as goal

pub masks_of-masks-requires : goal.masks_of-masks-requires
masks_of-masks-requires c =
    let there = method_there _ _ (sym c.in_ok-check_question.ensures) in
    rules_masks_fit _ c.rules.invariant _ (rw (c.from.ensures, c.rules.view_is) there)
