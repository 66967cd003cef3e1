-- `decide` meets its contract: the question's refusal first, then the members, then what the masks say of the set.
use Rattle.std.proofs.Common.{sym, ◌∙◌, rules, ◌≡◌}
use Rattle.common.specs.RefusalNumbers.{number}
use Rattle.tickets.specs.Tickets.{ticket_refusal}
use Rattle.justification.proofs.GuardLaws.{rules_masks_fit}
use Rattle.tickets.proofs.Places.{method_there}
use Rattle.tickets.proofs.Checking.{refused_members, constrained}
use Rattle.tickets.proofs.decide.Goals as goal

pub returns-in_err-check_members : goal.returns-in_err-check_members
returns-in_err-check_members c =
    let e : number c.in_err-check_members.field-0.0 ≡ ticket_refusal c.args.rules.now c.args.ticket =
    refused_members c.args.rules.now c.args.ticket (sym c.in_ok-check_question.ensures) _ (rw c.of-request.ensures at c.in_err-check_members.ensures) in
    search rules

pub returns : goal.returns
returns c =
    c.check_constraints.ensures c.args.rules.now _ 0 (rw (c.from.ensures, c.rules.view_is) at c.masks_of-masks.ensures)
    ∙ constrained c.args.rules.now c.args.ticket (sym c.in_ok-check_question.ensures) (rw c.of-request.ensures at c.in_ok-check_members.ensures)

pub masks_of-masks-requires : goal.masks_of-masks-requires
masks_of-masks-requires c =
    let there = method_there _ _ (sym c.in_ok-check_question.ensures) in
    rules_masks_fit _ c.rules.invariant _ (rw (c.from.ensures, c.rules.view_is) there)
