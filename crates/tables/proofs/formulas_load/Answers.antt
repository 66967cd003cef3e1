-- `formulas_load` meets its contract: more lines than there is room for, and each line taken or not, with its height.
use Rattle.std.proofs.Common.{arith, refl, ◌∙◌, ◌≡◌, ap, ℕ, not, false, leb, eqb}
use Rattle.common.specs.Causes.{first}
use Rattle.common.specs.Limits.{most_formulas}
use Rattle.common.specs.Lists.{at, every, below}
use Rattle.rows.specs.Checks.{causes}
use Rattle.rows.specs.Op.{formula_in_range}
use Rattle.tables.specs.HeightLaws.{heights_none, heights_low, height_here, heights_more}
use Rattle.tables.specs.Loads.{formulas_load, plain_refusal, formula_fits}
use Rattle.tables.proofs.Lines.{done, one_more, few, lines_over, lines_three}
use Rattle.tables.proofs.formulas_load.Goals as goal

pub loop-i-preserved : goal.loop-i-preserved
loop-i-preserved c =
    let i = c.loop-i.i in
    let o = at c.args.ops.now i in
    let a = at c.args.lefts.now i in
    let b = at c.args.rights.now i in
    let x = height_here c.loop-i.invariant.known o a b c.formula_height-height.ensures in
    record {
      fits = one_more (λ i. eqb (plain_refusal most_formulas (formula_fits c.args.ops.now c.args.lefts.now c.args.rights.now) i) 0) i
          c.loop-i.invariant.fits (done _ (c.check_formula.ensures
          ∙ (λ j. first (causes (leb most_formulas i) (not (formula_in_range i o a b (x j))) false))) c.is_ok-fit.ensures.value);
      known = heights_more c.loop-i.invariant.known (omega arith) x;
    }

pub loop-i-init : goal.loop-i-init
loop-i-init c = record { fits = refl; known = heights_none _ _ _ }

pub formula_height-height-requires : goal.formula_height-height-requires
formula_height-height-requires c = heights_low c.loop-i.invariant.known (omega arith)

pub returns : goal.returns
unfolding formulas_load
returns c =
    let all : c.loop-i.i ≡ c.args.count = omega arith in
    let fit = c.loop-i.invariant.fits
    ∙ ap (λ (n : ℕ). every (λ i. eqb (plain_refusal most_formulas (formula_fits c.args.ops.now c.args.lefts.now c.args.rights.now) i) 0) (below n)) all in
    lines_three _ _ _ (few c.if-count-gt-MOST_FORMULAS.false fit) c.args.ops.now c.args.lefts.now c.args.rights.now
    c.filled_from.ensures c.filled_from-2.ensures c.filled_from-3.ensures

pub returns-then-count-gt-MOST_FORMULAS : goal.returns-then-count-gt-MOST_FORMULAS
unfolding formulas_load
returns-then-count-gt-MOST_FORMULAS c = lines_over _ _ _ c.if-count-gt-MOST_FORMULAS.true
