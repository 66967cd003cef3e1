-- `of_size` meets its contract.
use Rattle.std.proofs.Common.{refl, arith}
use Rattle.search.specs.Answers.GrantedOrDenied.{grants, denies}
use Rattle.search.proofs.AnswerLaws.{found_set, found_nothing}
use Rattle.search.proofs.Steps.{first_of_size, more_roles, past_roles}
use Rattle.search.proofs.Prunes.{none_of_size}
use Rattle.search.proofs.Masks.of_size.Goals as goal

pub returns-in-Some : goal.returns-in-Some
returns-in-Some c = grants _ refl (first_of_size c.loop-j.invariant (found_set (rw c.in-Some.is at c.search.ensures)))

pub returns-in_default : goal.returns-in_default
returns-in_default c =
    let none = found_nothing (rw c.in_default.is at c.search.ensures) in
    denies refl (past_roles (more_roles c.loop-j.invariant none) c.most_roles-most.ensures.0 (omega arith))

pub returns-then-not-feasible : goal.returns-then-not-feasible
returns-then-not-feasible c = denies refl (none_of_size (c.feasible.ensures c.if-not-feasible.true) (omega arith) (omega arith))
