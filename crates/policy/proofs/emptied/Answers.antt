-- `emptied` meets its contract, by computation.
use Rattle.std.proofs.Common.{refl}
use Rattle.policy.specs.Table.{emptied}
use Rattle.policy.proofs.emptied.Goals as goal

pub returns : goal.returns
unfolding emptied
returns c = refl
