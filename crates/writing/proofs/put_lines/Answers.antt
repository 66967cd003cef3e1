-- `put_lines` meets its contract: each turn writes the line of one row, with the body that the closure gives for it.
use Rattle.std.proofs.Common.{◌≡◌, ◌+◌, ◌*◌, ℕ, List, subst, arith}
use Rattle.common.specs.Lists.{table}
use Rattle.writing.specs.Drafts.{Put, Grown, Gives, lines_of}
use Rattle.writing.specs.DraftLaws.{writing_more}
use Rattle.writing.proofs.put_lines.Goals as goal

pub loop-i-preserved : goal.loop-i-preserved
loop-i-preserved g c =
    writing_more c.loop-i.invariant c.requires.room c.loop-i-test.true c.body.result c.body.ensures c.octets.ensures.0
    (omega (arith, c.octets.ensures.1)) c.put_line-draft.ensures

pub returns-clause-lines : goal.returns-clause-lines
returns-clause-lines g c =
    let e : c.loop-i.i ≡ c.args.count = omega (arith, c.loop-i-test.false, c.loop-i.auto.i-end) in
    subst (λ (n : ℕ). (bodies : ℕ → List ℕ) → Gives g.B.Body.octets_of (goal.F-post g c.args.body c.args.table) n bodies
    → Put c.args.buffer.now c.loop-i.buffer c.args.from c.loop-i.draft (table n (lines_of c.args.kind bodies))) e c.loop-i.invariant.put

pub returns-clause-grown : goal.returns-clause-grown
returns-clause-grown g c =
    let e : c.loop-i.i ≡ c.args.count = omega (arith, c.loop-i-test.false, c.loop-i.auto.i-end) in
    subst (λ (n : ℕ). Grown c.args.buffer.now c.loop-i.buffer c.args.from c.loop-i.draft n (2 * g.B.Body.size + 7)) e c.loop-i.invariant.grown
