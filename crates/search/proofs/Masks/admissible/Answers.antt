-- `admissible` meets its contract: it says false only at a set that is too large, barred, not allowed or in conflict.
use Rattle.std.proofs.Common.{arith}
use Rattle.search.proofs.Prunes.{too_large, too_many}
use Rattle.search.proofs.Masks.admissible.Goals as goal

pub returns-then-limit-size : goal.returns-then-limit-size
returns-then-limit-size c = λ e. too_large (omega arith)

pub returns-then-limit-size-2 : goal.returns-then-limit-size-2
returns-then-limit-size-2 c = λ e. too_many (omega arith)
