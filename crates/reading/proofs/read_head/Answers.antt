-- `read_head` meets its contract: the numbers that it judges are those of the line that it found.
use Rattle.std.proofs.Common.{◌≡◌, sym, arith, rules, ℕ, List, [], ◌∷◌, Ok}
use Rattle.std.proofs.lemmas.Result.{err_from_is_err_and}
use mathlib.Core.Path.{subst₂}
use Rattle.common.specs.Lists.{at}
use Rattle.common.specs.declared.Refusal.TheVariants.{WrongKind}
use Rattle.reading.proofs.Partway.{stage}
use Rattle.policy.specs.declared.Record.{Record}
use Rattle.policy.specs.Table.{head, appended}
use Rattle.lines.specs.declared.Cursor.{Cursor}
use Rattle.lines.proofs.FoundLine.{found_line, found_sum}
use Rattle.reading.specs.Stages.{refused_at, Starts}
use Rattle.reading.proofs.Mapped.{mapped_ok, mapped_err}
use Rattle.reading.proofs.Heads.{top, head_unread, head_other, head_refused, head_taken}
use Rattle.reading.proofs.read_head.Goals as goal

pub returns : goal.returns
unfolding appended
returns c =
    let q = mapped_ok _ c.next_line.result c.map_err.ensures.cases c.in_ok-line.was in
    let f = found_line c.args.reader.now 0 0x01 5 (sym (rw (q, c.in-Some.is) at c.next_line.ensures.line)) in
    let z = mapped_ok _ c.check_head.result c.map_err-2.ensures.cases c.in_ok-map_err.was in
    let v : List ℕ = at c.next_line.new.octets 2 ∷ at c.next_line.new.octets 3 ∷ [] in
    subst₂ (λ (k : Cursor) (r : Record). Starts c.args.reader.now (Ok (stage k (appended head r v)))) (sym c.past.ensures)
    (sym c.blank-rules.ensures)
    (head_taken _ f c.next_line.ensures.octets (rw z at c.check_head.ensures))

pub returns-in_err-line : goal.returns-in_err-line
returns-in_err-line c =
    let p = err_from_is_err_and c.from_residual.result c.from_residual.ensures.1 in
    let (why, q, bad) = mapped_err _ c.next_line.result c.map_err.ensures.cases c.in_err-line.was in
    let same : c.in_err-line.field-0.0 ≡ refused_at top why = search rules in
    rw (p.1, p.2, same) (head_unread _ why (sym (rw q at c.next_line.ensures.line)))

pub returns-in_default : goal.returns-in_default
returns-in_default c =
    let q = mapped_ok _ c.next_line.result c.map_err.ensures.cases c.in_ok-line.was in
    let same : c.bad.result ≡ refused_at top WrongKind = search rules in
    rw same (head_other _ c.requires (sym (rw (q, c.in_default.is) at c.next_line.ensures.line)))

pub returns-in_err-map_err : goal.returns-in_err-map_err
returns-in_err-map_err c =
    let q = mapped_ok _ c.next_line.result c.map_err.ensures.cases c.in_ok-line.was in
    let f = found_line c.args.reader.now 0 0x01 5 (sym (rw (q, c.in-Some.is) at c.next_line.ensures.line)) in
    let (why, z, bad) = mapped_err _ c.check_head.result c.map_err-2.ensures.cases c.in_err-map_err.was in
    let same : c.in_err-map_err.field-0.0 ≡ refused_at top why = search rules in
    let p = err_from_is_err_and c.from_residual-in_err-map_err.result c.from_residual-in_err-map_err.ensures.1 in
    rw (p.1, p.2, same) (head_refused _ f c.next_line.ensures.octets why (rw z at c.check_head.ensures))

pub past-requires : goal.past-requires
past-requires c =
    let q = mapped_ok _ c.next_line.result c.map_err.ensures.cases c.in_ok-line.was in
    let f = found_line c.args.reader.now 0 0x01 5 (sym (rw (q, c.in-Some.is) at c.next_line.ensures.line)) in
    (record { few = omega arith; sum = omega arith }, found_sum f)
