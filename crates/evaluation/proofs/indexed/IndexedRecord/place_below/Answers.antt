-- `place_below` meets its contract: what `formula` says of every record with these ops and left parts, of this one.
use Rattle.std.proofs.Common.{refl}
use Rattle.evaluation.proofs.indexed.IndexedRecord.place_below.Goals as goal

pub returns : goal.returns
returns c = rw (← c.self.view_is) (c.place_below.ensures c.self.inside.columns.now refl refl)
