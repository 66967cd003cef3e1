-- `blank` meets its contract, by computation.
use Rattle.policy.specs.Table as table
use Rattle.policy.specs.Table.{blank, with_memo, with_index}
use Rattle.policy.proofs.blank.Goals as goal

pub returns : goal.returns
unfolding blank with_memo with_index
returns c = λ j. table.with_memo (table.with_index table.blank (c.no_index.ensures j)) (c.emptied.ensures j)
