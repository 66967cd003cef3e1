-- `none` meets its contract: every entry of the table is false.
use Rattle.vertices.proofs.VertexSets.{all_false}
use Rattle.vertices.proofs.none.Goals as goal

pub returns-clause-empty : goal.returns-clause-empty
returns-clause-empty c = all_false 256
