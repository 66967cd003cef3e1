-- `holds_role` meets its contract: a number of 16 bits has no bit at 16 or above.
use Rattle.std.proofs.Common.{ℕ, ap, ◌∙◌, eqb, ◌%◌, arith}
use Rattle.formula.proofs.RequestorRoles.{halved}
use Rattle.formula.proofs.holds_role.Goals as goal

pub returns : goal.returns
returns c = ap (λ (n : ℕ). eqb (n % 2) 1) (c.unbounded_shr.ensures ∙ rw c.from.ensures (halved c.args.roles c.args.a (omega arith)))
