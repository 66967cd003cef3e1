-- `digit_values` meets its contract: the single test over the whole table, which the checker computes here, and the law that carries it.
use Rattle.std.proofs.Common.{refl}
use Rattle.octets.specs.Line.{digit_value}
use Rattle.octets.specs.DigitTable.{each_entry}
use Rattle.octets.proofs.digit_values.Goals as goal

pub returns : goal.returns
unfolding digit_value
returns c = each_entry _ refl
