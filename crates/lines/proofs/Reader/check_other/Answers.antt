-- `check_other` meets its contract: each way out is a case of `other_refusal`.
use Rattle.std.proofs.lemmas.Result.{err_from_is_err_and}
use Rattle.octets.proofs.AnswerLaws.{answer_refused, answer_octets_lem}
use Rattle.lines.proofs.NextLaws.{other_end, other_refused, other_kind, own_kind}
use Rattle.lines.proofs.Reader.check_other.Goals as goal

pub returns : goal.returns
returns c =
    rw (← c.self.view_is)
    (own_kind _ _ _ c.if-self-offset.false (answer_octets_lem _ _ c.read_line.ensures c.in_ok-read_line.was) c.octet_at.ensures
    c.if-octet_at-kind.false)

pub returns-then-self-offset : goal.returns-then-self-offset
returns-then-self-offset c = rw (← c.self.view_is) (other_end _ _ _ c.if-self-offset.true)

pub returns-in_err-read_line : goal.returns-in_err-read_line
returns-in_err-read_line c =
    let p = err_from_is_err_and c.from_residual.result c.from_residual.ensures.1 in
    rw (p.1, p.2, ← c.self.view_is) (other_refused _ _ _ c.if-self-offset.false (answer_refused _ _ c.read_line.ensures c.in_err-read_line.was))

pub returns-then-octet_at-kind : goal.returns-then-octet_at-kind
returns-then-octet_at-kind c =
    rw (← c.self.view_is)
    (other_kind _ _ _ c.if-self-offset.false (answer_octets_lem _ _ c.read_line.ensures c.in_ok-read_line.was) c.octet_at.ensures
    c.if-octet_at-kind.true)
