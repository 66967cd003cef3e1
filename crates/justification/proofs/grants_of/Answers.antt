-- `grants_of` meets its contract: what those at or below the demarcation at hand list goes to its principal's place.
use Rattle.std.proofs.Common.{ℕ, ◌<◌, ◌≡◌, ◌↔◌, true, arith, length-set}
use Rattle.common.specs.Lists.{at}
use Rattle.common.specs.Sets.{In}
use Rattle.justification.specs.Justification.{demarcation_has}
use Rattle.justification.proofs.GuardLaws.{demarcation_gathers}
use Rattle.justification.proofs.Marking.{stored}
use Rattle.justification.proofs.grants_of.Goals as goal

pub loop-p-preserved : goal.loop-p-preserved
loop-p-preserved c =
    let r = c.args.rules.now in
    let d = c.from-d.result in
    let there : d < r.demarcation_count = omega (arith, c.requires.3 c.loop-p.p c.loop-p-test.true) in
    let given = demarcation_gathers r d _ c.gathered.result (c.leading_to-below.ensures d there) c.gathered.ensures in (
      stored (λ k g. (j : ℕ) → (In j g ↔ (demarcation_has r (at r.principal_demarcations k) j ≡ true)))
          c.loop-p.grants c.loop-p.p c.gathered.result (omega arith) c.loop-p.invariant.0 (rw c.from-d.ensures at given),
      simp length-set c.loop-p.invariant.1,
    )
