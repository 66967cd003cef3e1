-- `number_at` meets its contract.
use Rattle.std.proofs.Common.{◌<◌, arith, rules}
use Rattle.lines.proofs.Numbers.{value_none, value_more, value_fits}
use Rattle.lines.proofs.number_at.Goals as goal

pub loop-octet-preserved : goal.loop-octet-preserved
loop-octet-preserved c = value_more c.loop-octet.invariant _ c.loop-octet-test.true c.from.ensures (search rules)

pub loop-octet-init : goal.loop-octet-init
loop-octet-init c = value_none

pub overflow_mul-value : goal.overflow_mul-value
overflow_mul-value c = omega (arith, value_fits c.loop-octet.invariant _ c.loop-octet-test.true (omega arith))

pub overflow_add-value : goal.overflow_add-value
overflow_add-value c =
    let l : c.from.result < 256 = search rules in omega (arith, value_fits c.loop-octet.invariant _ c.loop-octet-test.true (omega arith))
