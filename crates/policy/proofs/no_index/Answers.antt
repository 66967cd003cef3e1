-- `no_index` meets its contract, by computation.
use Rattle.std.proofs.Common.{refl}
use Rattle.policy.specs.Table.{no_index}
use Rattle.policy.proofs.no_index.Goals as goal

pub returns : goal.returns
unfolding no_index
returns c = refl
