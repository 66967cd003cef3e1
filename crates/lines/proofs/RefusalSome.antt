-- No refusal has the number 0.
use Rattle.std.specs.Prelude.{◌≢◌}
use Rattle.std.proofs.Common.{arith}
use Rattle.common.specs.RefusalNumbers.{number}
use Rattle.common.specs.declared.Refusal.{Refusal}

pub some_number : (why : Refusal) → number why ≢ 0
some_number why e = grind arith
