-- `next_line` meets its contract: each way out is a case of `next_of`.
use Rattle.std.proofs.Common.{refl, rules}
use Rattle.std.proofs.lemmas.Result.{err_from_is_err_and}
use Rattle.lines.proofs.NextLaws.{of_size, of_size_next, next_other, next_body, left_refused, left_other}
use Rattle.lines.proofs.RefusalSome.{some_number}
use Rattle.lines.proofs.Reader.next_line.Goals as goal

pub returns-clause-line : goal.returns-clause-line
returns-clause-line c =
    rw (← c.self.view_is) (next_body (of_size _ _ _ c.in-Some.ensures.total) _ _ c.in-Some.ensures.octets c.if-octets-kind.false)

pub returns-in_err-check_other-clause-line : goal.returns-in_err-check_other-clause-line
returns-in_err-check_other-clause-line c =
    let p = err_from_is_err_and c.from_residual.result c.from_residual.ensures.1 in
    rw (p.1, p.2, ← c.self.view_is)
    (left_refused _ _ _ _ c.in_default.ensures.total (rw (← c.self.view_is) at c.in_err-check_other.ensures) (some_number _))

pub returns-in_default-clause-line : goal.returns-in_default-clause-line
returns-in_default-clause-line c =
    rw (← c.self.view_is) (left_other _ _ _ _ c.in_default.ensures.total (rw (← c.self.view_is) at c.in_ok-check_other.ensures) refl)

pub returns-then-octets-kind-clause-line : goal.returns-then-octets-kind-clause-line
returns-then-octets-kind-clause-line c =
    rw (← c.self.view_is) (next_other (of_size _ _ _ c.in-Some.ensures.total) _ _ c.in-Some.ensures.octets c.if-octets-kind.true)

pub overflow_add-result : goal.overflow_add-result
overflow_add-result c = let h = of_size_next (of_size c.self.inside.text.now c.args.offset c.args.size c.in-Some.ensures.total) in search rules

pub overflow_add-result-2 : goal.overflow_add-result-2
overflow_add-result-2 c = let h = of_size_next (of_size c.self.inside.text.now c.args.offset c.args.size c.in-Some.ensures.total) in search rules
