-- `place_below` meets its contract: nowhere at n or above, and below n where the formula's line says.
use Rattle.std.proofs.Common.{ℕ, List, ◌∙◌, ap, sym}
use Rattle.common.specs.Lists.{at}
use Rattle.formula.specs.Formula.{formulas_of}
use Rattle.formula.specs.Evaluation.{context_in}
use Rattle.formula.specs.EvaluationLaws.{below_out}
use Rattle.formula.proofs.Places.{place_below_lem}
use Rattle.formula.proofs.place_below.Goals as goal

pub returns-then-n-f : goal.returns-then-n-f
returns-then-n-f c =
    λ r ops lefts v. sym (below_out (formulas_of r) (context_in r c.args.q) c.args.n c.args.f v c.if-n-f.true)

pub returns : goal.returns
returns c =
    λ r ops lefts.
    let op = c.line_of-line.ensures.op ∙ sym (ap (λ (os : List ℕ). at os c.args.f) ops) in
    let left = c.line_of-line.ensures.left ∙ sym (ap (λ (os : List ℕ). at os c.args.f) lefts) in
    place_below_lem r c.args.q _ _ _ c.if-n-f.false (rw (op, left) at c.place_of.ensures)
