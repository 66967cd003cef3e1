-- Where a formula without parts is true: what its line says of it below n.
use Rattle.std.proofs.Common.{ℕ, suc, ◌<◌, sym, ◌∙◌, refl, Option, None, Some, eq-eqb, arith}
use Rattle.common.specs.Lists.{at}
use Rattle.vertices.specs.declared.Place.{Place}
use Rattle.formula.specs.Formula.{true_below, formulas_of}
use Rattle.policy.specs.declared.Record.{Record}
use Rattle.formula.specs.declared.ContextNumbers.{ContextNumbers}
use Rattle.formula.specs.Evaluation.{context_in, PlaceOf, PlaceBelow}
use Rattle.formula.specs.EvaluationLaws.{below_in}

-- a formula below n is true where its op and its a say
pub place_below_lem : (r : Record) (q : ContextNumbers) (n f : ℕ) (p : Option Place) → f < n
    → PlaceOf q (at r.formula_ops f) (at r.formula_lefts f) p → PlaceBelow r q n f p
unfolding true_below
place_below_lem r q n f None l h = (l, h.0, h.1, h.2)
place_below_lem r q n f (Some p) l h =
    λ v.
    let fs = formulas_of r in
    let c = context_in r q in
    h r (at r.formula_rights f) (λ d. true_below fs d f) v
    ∙ sym (below_in fs c (suc f) n f v (omega arith) l ∙ rw (eq-eqb f f refl))
