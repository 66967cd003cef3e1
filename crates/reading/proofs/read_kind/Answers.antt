-- `read_kind` meets its contract: what its loop keeps is `TakenLines`.
use Rattle.std.proofs.Common.{◌≡◌, sym, ◌∙◌, ap, arith, rules}
use Rattle.std.proofs.lemmas.Result.{err_from_is_err_and}
use Rattle.std.proofs.lemmas.Bool.{false≢true}
use denote.Enum.Bare.{sameb, same_true}
use Rattle.lines.specs.contracts.TableKind.{the_type}
use Rattle.lines.specs.declared.TableKind.{TableKind}
use Rattle.lines.specs.declared.TableKind.TheVariants.{Formulas}
use Rattle.lines.specs.Judging.{table_of}
use Rattle.policy.specs.Table.{formula}
use Rattle.reading.specs.Stages.{refused_at}
use Rattle.reading.proofs.Mapped.{mapped_ok, mapped_err}
use Rattle.reading.proofs.TakenLines.{taken_start, taken_bound, taken_refused, taken_none, taken_one, only_formulas}
use Rattle.reading.proofs.TakenLines.{taken_room, taken_few, taken_less, taken_place, taken_height, taken_more, taken_heights}
use Rattle.reading.proofs.TakenLines.{small_none, small_kept}
use Rattle.reading.proofs.read_kind.Goals as goal
use Rattle.reading.proofs.read_kind.Goals.{then-eq, else-eq}

pub loop-taken-preserved : goal.loop-taken-preserved
loop-taken-preserved c =
    let g = c.loop-taken.invariant.0 in
    let small = c.loop-taken.invariant.1 in
    let q = mapped_ok _ c.judged_line.result c.map_err.ensures.cases c.in_ok-taken.was in
    let w = taken_one _ g (rw (q, c.in-Some.is, c.size.ensures.octets) at c.judged_line.ensures) in (
      taken_more _ g w c.append.ensures (λ f. elim c.if-eq.branch [
        | then-eq b ↦ b.heights-is ∙ b.keep.ensures
        | else-eq b ↦ absurd (false≢true (b.if-eq.ensures ∙ ap (λ (x : TableKind). sameb the_type x Formulas) (only_formulas _ f)))
      ]),
      elim c.if-eq.branch [
        | then-eq b ↦ rw (b.heights-is, b.keep.ensures) (small_kept _ _ small (taken_height _ g w))
        | else-eq b ↦ rw b.heights-is small
      ],
    )

pub loop-taken-init : goal.loop-taken-init
loop-taken-init c = rw c.none-heights.ensures (taken_start _ _ _ c.requires, small_none)

pub overflow_add-line : goal.overflow_add-line
overflow_add-line c = let h = (taken_bound _ c.loop-taken.invariant.0).few in omega arith

pub judged_line-requires-clause-bound : goal.judged_line-requires-clause-bound
judged_line-requires-clause-bound c = taken_bound _ c.loop-taken.invariant.0

pub judged_line-requires-clause-low : goal.judged_line-requires-clause-low
judged_line-requires-clause-low c = taken_heights _ c.loop-taken.invariant.0

pub returns-in_err-taken : goal.returns-in_err-taken
returns-in_err-taken c =
    let p = err_from_is_err_and c.from_residual.result c.from_residual.ensures.1 in
    let (why, q, bad) = mapped_err _ c.judged_line.result c.map_err.ensures.cases c.in_err-taken.was in
    let same : c.in_err-taken.field-0.0 ≡ refused_at c.loop-taken.cursor why = search rules in
    rw (p.1, p.2, same) (taken_refused _ c.loop-taken.invariant.0 why (rw (q, c.size.ensures.octets) at c.judged_line.ensures))

pub returns-in_default : goal.returns-in_default
returns-in_default c =
    let q = mapped_ok _ c.judged_line.result c.map_err.ensures.cases c.in_ok-taken.was in
    taken_none _ c.loop-taken.invariant.0 (rw (q, c.in_default.is, c.size.ensures.octets) at c.judged_line.ensures)

pub keep-requires : goal.keep-requires
keep-requires c =
    let g = c.loop-taken.invariant.0 in
    let q = mapped_ok _ c.judged_line.result c.map_err.ensures.cases c.in_ok-taken.was in
    let w = taken_one _ g (rw (q, c.in-Some.is, c.size.ensures.octets) at c.judged_line.ensures) in
    let f : table_of c.args.kind ≡ formula = ap table_of (same_true the_type (search rules) c.args.kind Formulas (sym c.if-eq.ensures)) in
    taken_place _ g w f

pub append-requires : goal.append-requires
append-requires c =
    let q = mapped_ok _ c.judged_line.result c.map_err.ensures.cases c.in_ok-taken.was in
    taken_room _ c.loop-taken.invariant.0 (taken_one _ c.loop-taken.invariant.0 (rw (q, c.in-Some.is, c.size.ensures.octets) at c.judged_line.ensures))

pub overflow_add-row : goal.overflow_add-row
overflow_add-row c =
    let q = mapped_ok _ c.judged_line.result c.map_err.ensures.cases c.in_ok-taken.was in
    let l = taken_few _ c.loop-taken.invariant.0 (taken_one _ c.loop-taken.invariant.0 (rw (q, c.in-Some.is, c.size.ensures.octets) at c.judged_line.ensures)) in
    omega arith

pub loop-taken-smaller : goal.loop-taken-smaller
loop-taken-smaller c =
    let q = mapped_ok _ c.judged_line.result c.map_err.ensures.cases c.in_ok-taken.was in
    taken_less _ c.loop-taken.invariant.0 (taken_one _ c.loop-taken.invariant.0 (rw (q, c.in-Some.is, c.size.ensures.octets) at c.judged_line.ensures))
