-- `rewritten` meets its contract.
use Rattle.std.proofs.Common.{ℕ, ◌<◌, sym, ◌∙◌, ap, subst}
use Rattle.rewriting.specs.Program.{refused_text}
use Rattle.rewriting.specs.ProgramLaws.{prints_long, shown_same}
use Rattle.rewriting.proofs.Printed.{few, prints_refused, writes_program}
use Rattle.rewriting.proofs.rewritten.Goals as goal

pub returns-then-input-gt-MOST_BYTES : goal.returns-then-input-gt-MOST_BYTES
returns-then-input-gt-MOST_BYTES c = shown_same _ (prints_long _ c.if-input-gt-MOST_BYTES.true) c.show.ensures

pub returns-in-Err : goal.returns-in-Err
returns-in-Err c =
    let p = prints_refused c.args.input.now c.in-Err.bad.refusal c.in-Err.bad.line c.in-Err.ensures c.if-input-gt-MOST_BYTES.false in
    shown_same _ (c.as_bytes.ensures.value ∙ c.deref.ensures.0 ∙ c.refusal_text-text.ensures ∙ ap (λ (n : ℕ). refused_text n c.in-Err.bad.line) c.from.ensures ∙ p) c.show-in-Err.ensures

pub refusal_text-text-requires : goal.refusal_text-text-requires
refusal_text-text-requires c =
    let f = few c.args.input.now c.in-Err.bad.refusal c.in-Err.bad.line c.in-Err.ensures c.if-input-gt-MOST_BYTES.false in
    (subst (λ (n : ℕ). n < 10) (sym c.from.ensures) f.0, f.1)

pub returns-in-Ok : goal.returns-in-Ok
returns-in-Ok c =
    let w = c.write.ensures in
    let p =
    writes_program c.args.input.now c.in-Ok.rules c.in-Ok.ensures c.if-input-gt-MOST_BYTES.false c.args.output.now c.write.result w.answers w.buffer w.typed in
    (c.unwrap_or.ensures ∙ p.0, p.1)
