-- `roles_of` meets its contract: each iteration joins the roles of one line more.
use Rattle.std.proofs.Common.{◌≡◌, subst, arith}
use Rattle.formula.proofs.RequestorRoles.{RolesBy, roles_none, roles_more, roles_same}
use Rattle.formula.proofs.roles_of.Goals.{then-rules-i, else-rules-i}
use Rattle.formula.proofs.roles_of.Goals as goal

pub loop-i-init : goal.loop-i-init
loop-i-init c = record { joined = roles_none _ _ _; few = c.requires }

pub loop-i-preserved : goal.loop-i-preserved
loop-i-preserved c = elim c.if-rules-i.branch [
  | then-rules-i w ↦ record { joined = rw w.held-is (roles_more c.loop-i.invariant.joined w.if-rules-i.true); few = c.loop-i.invariant.few }
  | else-rules-i w ↦ record { joined = rw w.held-is (roles_same c.loop-i.invariant.joined w.if-rules-i.false); few = c.loop-i.invariant.few }
]

pub returns : goal.returns
returns c =
    let e : c.loop-i.i ≡ c.args.rules.now.user_count = omega (arith, c.loop-i.auto.i-end) in
    (subst (RolesBy _ _ _ _) e c.loop-i.invariant.joined).holds
