-- `place_of` meets its contract: each op without parts has its place.
use Rattle.std.proofs.Common.{sym, ap, ◌∙◌, eqb, arith}
use Rattle.rows.specs.OpLaws.{op_above}
use Rattle.formula.specs.Formula.{Slot, true_of, meaning}
use Rattle.formula.proofs.place_of.Goals as goal

pub returns-in-0 : goal.returns-in-0
unfolding meaning
returns-in-0 c = λ r b part v. rw c.in-0.is

pub returns-in-1 : goal.returns-in-1
unfolding meaning
returns-in-1 c = λ r b part v. rw c.in-1.is

pub returns-in-2 : goal.returns-in-2
unfolding meaning
returns-in-2 c = λ r b part v. rw c.in-2.is

pub returns-then-holds_role : goal.returns-then-holds_role
unfolding meaning
returns-then-holds_role c =
    λ r b part v. rw c.in-3.is (sym c.if-holds_role.true ∙ c.holds_role.ensures)

pub returns-else-holds_role : goal.returns-else-holds_role
unfolding meaning
returns-else-holds_role c =
    λ r b part v. rw c.in-3.is (sym c.if-holds_role.false ∙ c.holds_role.ensures)

pub returns-in-Some : goal.returns-in-Some
unfolding meaning
returns-in-Some c = λ r b part v. rw c.in-10.is (ap (λ (s : Slot). true_of s (λ w. eqb v w)) c.in-Some.ensures)

pub returns-in-None : goal.returns-in-None
unfolding meaning
returns-in-None c = λ r b part v. rw c.in-10.is (ap (λ (s : Slot). true_of s (λ w. eqb v w)) c.in-None.ensures)

pub returns-in-12-to-255 : goal.returns-in-12-to-255
unfolding meaning
returns-in-12-to-255 c = λ r b part v. rw (op_above c.args.op (omega arith))
