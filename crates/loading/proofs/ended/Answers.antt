-- `ended` meets its contract: each way out is a law of `Ends`.
use Rattle.std.proofs.Common.{◌≡◌, ◌+◌, rules}
use Rattle.std.proofs.lemmas.Result.{err_from_is_err_and}
use Rattle.octets.proofs.AnswerLaws.{answer_refused, answer_octets_lem}
use Rattle.reading.proofs.Mapped.{mapped_ok, mapped_err}
use Rattle.loading.proofs.Ends.{ended_refused, ended_more, ended_circle, ended_well}
use Rattle.loading.proofs.ended.Goals as goal

pub returns : goal.returns
returns c = ended_well _ _ _ _ c.if-offset-text.false c.has_circles.ensures c.if-has_circles.false c.with_index.ensures

pub returns-then-offset-text : goal.returns-then-offset-text
returns-then-offset-text c =
    let q = mapped_ok _ c.read_line.result c.map_err.ensures.cases c.in_ok-map_err.was in
    ended_more _ _ _ _ c.if-offset-text.true (answer_octets_lem _ _ c.read_line.ensures q).framed

pub returns-in_err-map_err : goal.returns-in_err-map_err
returns-in_err-map_err c =
    let p = err_from_is_err_and c.from_residual.result c.from_residual.ensures.1 in
    let (why, q, bad) = mapped_err _ c.read_line.result c.map_err.ensures.cases c.in_err-map_err.was in
    let same : c.in_err-map_err.field-0.0 ≡ record { refusal = why; line = c.args.lines + 1 } = search rules in
    rw (p.1, p.2, same) (ended_refused _ _ _ _ c.if-offset-text.true (answer_refused _ _ c.read_line.ensures q))

pub returns-then-has_circles : goal.returns-then-has_circles
returns-then-has_circles c = ended_circle _ _ _ _ c.if-offset-text.false c.has_circles.ensures c.if-has_circles.true
