-- `judged_line` meets its contract: each way out is a case of `judged_of`.
use Rattle.std.proofs.Common.{sym, ap, ◌∙◌, refl}
use Rattle.std.proofs.lemmas.Result.{err_from_is_err_and}
use Rattle.lines.specs.Judging.{kind_in}
use Rattle.lines.proofs.FoundLine.{found_line, found_sum, row_kind}
use Rattle.lines.proofs.JudgedLine.{says_other, says_refused, says_wrong, says_taken}
use Rattle.lines.proofs.RefusalSome.{some_number}
use Rattle.lines.proofs.Reader.judged_line.Goals as goal

pub returns : goal.returns
returns c =
    says_taken _ _ _ _ _ _ (sym (rw (c.in-Some.is, c.code.ensures) at c.in_ok-line.ensures.line))
    c.in_ok-line.ensures.octets
    c.row_at-row.ensures
    c.height_of-height.ensures
    c.in_ok-check.ensures
    refl
    c.key_after.ensures
    (rw c.code-2.ensures at c.past.ensures)

pub returns-in_err-line : goal.returns-in_err-line
returns-in_err-line c =
    let p = err_from_is_err_and c.from_residual.result c.from_residual.ensures.1 in
    rw (p.1, p.2) (says_refused _ _ _ _ _ _ (sym (rw c.code.ensures at c.in_err-line.ensures.line)))

pub returns-in_default : goal.returns-in_default
returns-in_default c =
    says_other _ _ _ _ _ _ (sym (rw (c.in_default.is, c.code.ensures) at c.in_ok-line.ensures.line))

pub returns-in_err-check : goal.returns-in_err-check
returns-in_err-check c =
    let p = err_from_is_err_and c.from_residual-in_err-check.result c.from_residual-in_err-check.ensures.1 in
    rw (p.1, p.2)
    (says_wrong _ _ _ _ _ _ (sym (rw (c.in-Some.is, c.code.ensures) at c.in_ok-line.ensures.line))
    c.in_ok-line.ensures.octets
    c.row_at-row.ensures
    c.height_of-height.ensures
    c.in_err-check.ensures
    (some_number _))

pub past-requires : goal.past-requires
past-requires c = (c.requires.bound, found_sum (found_line _ _ _ _ (sym (rw c.in-Some.is at c.in_ok-line.ensures.line))))

pub height_of-height-requires : goal.height_of-height-requires
height_of-height-requires c =
    λ f. c.requires.low (sym (row_kind c.args.kind _ _) ∙ ap kind_in (sym c.row_at-row.ensures) ∙ f)
