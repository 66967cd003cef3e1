-- `least` meets its contract.
use Rattle.std.proofs.Common.{refl, arith}
use Rattle.search.specs.Answers.GrantedOrDenied.{grants, denies}
use Rattle.search.proofs.AnswerLaws.{found_set, found_nothing}
use Rattle.search.proofs.Steps.{least_found, higher, past}
use Rattle.search.proofs.Prunes.{no_candidate}
use Rattle.search.proofs.Masks.least.Goals as goal

pub returns-in_default : goal.returns-in_default
returns-in_default c =
    let none = found_nothing (rw c.in_default.is at c.of_size.ensures) in
    denies refl (past (higher c.loop-k.invariant none) (omega arith))

pub returns-in-Some : goal.returns-in-Some
returns-in-Some c = grants _ refl (least_found c.loop-k.invariant (found_set (rw c.in-Some.is at c.of_size.ensures)))

pub returns-then-not-feasible : goal.returns-then-not-feasible
returns-then-not-feasible c = denies refl (no_candidate (c.feasible.ensures c.if-not-feasible.true) (omega arith) (omega arith))
