-- `is_user` meets its contract: the lines' objects are a column.
use Rattle.std.proofs.Common.{◌∙◌, arith, length-take}
use Rattle.justification.proofs.Asking.{user_in}
use Rattle.justification.proofs.is_user.Goals as goal

pub returns : goal.returns
returns c =
    let r = c.rules.inside.columns.now in
    rw (← c.rules.view_is) (c.contains.ensures.value ∙ user_in r c.args.s (omega (arith, length-take r.user_count r.user_objects)))
