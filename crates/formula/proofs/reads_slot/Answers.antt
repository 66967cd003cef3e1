-- `reads_slot` meets its contract: one formula more is marked in each iteration.
use Rattle.std.proofs.Common.{ℕ, ◌≡◌, ◌∙◌, ap, arith}
use Rattle.formula.specs.Formula.{formulas_of}
use Rattle.formula.specs.Uses.{reads_slot}
use Rattle.formula.proofs.SlotReads.{marked_none, marked_more}
use Rattle.formula.proofs.reads_slot.Goals as goal

pub loop-i-init : goal.loop-i-init
loop-i-init c = marked_none _ _

pub loop-i-preserved : goal.loop-i-preserved
loop-i-preserved c =
    let line = c.line_of.ensures in
    marked_more c.reads_by_parts.result c.loop-i.invariant (omega arith)
    (rw (line.op, line.left, line.right) at c.reads_by_parts.ensures)

pub returns : goal.returns
returns c =
    let e : c.loop-i.i ≡ c.args.n = omega arith in
    c.is_marked.ensures ∙ c.loop-i.invariant.each c.args.f
    ∙ ap (λ (n : ℕ). reads_slot (formulas_of c.args.rules.now) n c.args.f c.args.a) e
