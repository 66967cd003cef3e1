-- `formulas_load` meets its contract. The invariant: the formulas below i are ones that loading takes or not, and the heights kept
-- beside them are theirs (`Heights`).
use Rattle.std.proofs.Common.{◌≡◌, eqb}
use Rattle.common.specs.Limits.{most_formulas}
use Rattle.common.specs.Lists.{every, below}
use Rattle.tables.specs.Loads.{plain_refusal, formula_fits}
use Rattle.tables.specs.HeightLaws.{Heights}
use Rattle.tables.proofs.formulas_load.Given as goal

abbrev pub invariant-loop-i : goal.invariant-loop-i
invariant-loop-i l = record {
  fits : l.fit ≡ every (λ i. eqb (plain_refusal most_formulas (formula_fits l.ops l.lefts l.rights) i) 0) (below l.i);
  known : Heights l.ops l.lefts l.rights l.heights l.i;
}
