-- `finish` meets its contract: each way out is a law of `Ends`.
use Rattle.std.proofs.Common.{◌≡◌, sym, ◌∙◌, rules}
use Rattle.std.proofs.lemmas.Result.{err_from_is_err_and}
use Rattle.lines.proofs.FoundLine.{found_line}
use Rattle.common.specs.declared.Refusal.TheVariants.{WrongKind, WrongEnd}
use Rattle.reading.specs.Stages.{refused_at}
use Rattle.reading.proofs.Mapped.{mapped_ok, mapped_err}
use Rattle.loading.proofs.Ends.{finish_missing, finish_other, finish_unread, finish_count, finish_sum, finish_ended}
use Rattle.loading.proofs.finish.Goals as goal
use Rattle.loading.proofs.finish.Goals.{then-count-cursor-via-then-count-cursor, then-count-cursor-via-else-count-cursor+then-sum-cursor}

pub returns : goal.returns
returns c =
    let q = mapped_ok _ c.next_line.result c.map_err.ensures.cases c.in_ok-last.was in
    let f = found_line _ _ 0xFF 9 (sym (rw (q, c.in-Some.is) at c.next_line.ensures.line)) in
    rw c.reader.view_is at c.ended.ensures
    ∙ finish_ended _ _ c.requires f c.next_line.ensures.octets c.number_at-count.ensures c.if-count-cursor.false c.number_at-sum.ensures
    c.if-sum-cursor.false

pub returns-then-count-cursor : goal.returns-then-count-cursor
returns-then-count-cursor c =
    let q = mapped_ok _ c.next_line.result c.map_err.ensures.cases c.in_ok-last.was in
    let f = found_line _ _ 0xFF 9 (sym (rw (q, c.in-Some.is) at c.next_line.ensures.line)) in
    let same : c.bad-then-count-cursor.result ≡ refused_at c.args.from.cursor WrongEnd = search rules in
    rw same (elim c.then-count-cursor.branch [
      | then-count-cursor-via-then-count-cursor w ↦ finish_count _ _ c.requires f c.next_line.ensures.octets c.number_at-count.ensures w.if-count-cursor.true
      | then-count-cursor-via-else-count-cursor+then-sum-cursor w ↦ finish_sum _ _ c.requires f c.next_line.ensures.octets c.number_at-sum.ensures w.if-sum-cursor.true
    ])

pub returns-then-reader-cursor : goal.returns-then-reader-cursor
returns-then-reader-cursor c =
    let same : c.bad.result ≡ refused_at c.args.from.cursor WrongEnd = search rules in
    rw same (finish_missing _ _ c.requires (rw c.reader.view_is at c.if-reader-cursor.true))

pub returns-in_err-last : goal.returns-in_err-last
returns-in_err-last c =
    let p = err_from_is_err_and c.from_residual.result c.from_residual.ensures.1 in
    let (why, q, bad) = mapped_err _ c.next_line.result c.map_err.ensures.cases c.in_err-last.was in
    let same : c.in_err-last.field-0.0 ≡ refused_at c.args.from.cursor why = search rules in
    rw (p.1, p.2, same) (finish_unread _ _ c.requires _ (sym (rw q at c.next_line.ensures.line)))

pub returns-in_default : goal.returns-in_default
returns-in_default c =
    let q = mapped_ok _ c.next_line.result c.map_err.ensures.cases c.in_ok-last.was in
    let same : c.bad-in_default.result ≡ refused_at c.args.from.cursor WrongKind = search rules in
    rw same
    (finish_other _ _ c.requires (rw c.reader.view_is at c.if-reader-cursor.false)
    (sym (rw (q, c.in_default.is) at c.next_line.ensures.line)))
