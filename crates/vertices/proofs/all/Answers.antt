-- `all` meets its contract: every entry of the table is true.
use Rattle.vertices.proofs.VertexSets.{all_true}
use Rattle.vertices.proofs.all.Goals as goal

pub returns : goal.returns
returns c = all_true 256
