-- The loop of `roles_of`: the roles of the user lines so far are joined; a record that loads has few of them.
use Rattle.std.proofs.Common.{◌≤◌}
use Rattle.common.specs.Limits.{most_users}
use Rattle.formula.proofs.RequestorRoles.{RolesBy}
use Rattle.formula.proofs.roles_of.Given as goal

abbrev pub invariant-loop-i : goal.invariant-loop-i
invariant-loop-i l =
    record {
      joined : RolesBy l.rules.user_objects l.rules.user_roles l.requestor l.held l.i;
      few : l.rules.user_count ≤ most_users;
    }
