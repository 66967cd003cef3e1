-- `read_line` meets its contract: each way out is a case of the line's framing, and a turn reads one pair of digits more.
use Rattle.std.proofs.Common.{◌≡◌, ℕ, ◌+◌, ◌*◌, ◌%◌, ◌^◌, List, drop, Some, None, sym, subst₂, ap, ◌∙◌, inl, inr}
use Rattle.std.specs.Slice.Iter.{chunks_rest, chunks_size}
use Rattle.octets.specs.Answers.{framed_values, values_at_end, pair_octet}
use Rattle.octets.proofs.Running.{Run, taken, run_start, run_more, run_out, run_other, run_end}
use Rattle.octets.proofs.read_line.Goals as goal
use Rattle.octets.proofs.read_line.Goals.{then-count-eq0, else-count-eq0}

pub loop-count-init : goal.loop-count-init
loop-count-init c =
    let e : c.into_iter-count-iterator.result.iter ≡ c.chunks.result = cc in
    let t = ap chunks_rest e ∙ c.chunks.ensures.rest ∙ c.rest_from-rest.ensures in
    let n : c.into_iter-count-iterator.result.count ≡ 0 = cc in (
      subst₂ (λ (t : List ℕ) (n : ℕ). Run (drop c.args.offset c.args.text.now) t n 0 0 0) (sym t) (sym n) (run_start _),
      ap chunks_size e ∙ c.chunks.ensures.size,
    )

pub returns-then-pair-eq10 : goal.returns-then-pair-eq10
returns-then-pair-eq10 c =
    let s = c.in-Some.ensures.steps in
    let i = c.loop-count.invariant in
    let r = run_end i.0 (taken i.1 s.0.1) c.args.offset c.if-pair-eq10.true in
    c.answer_at_end.ensures
    ∙ ap (λ (n : ℕ). values_at_end n c.loop-count.first c.loop-count.sum (c.args.offset + 2 * n + 1) c.loop-count.total) s.1
    ∙ r

pub returns-in_default : goal.returns-in_default
returns-in_default c =
    let s = c.in-Some.ensures.steps in
    let i = c.loop-count.invariant in
    let n : pair_octet c.in-Some.pair.now ≡ None = sym c.octet_of.ensures ∙ c.in_default.is in
    sym (ap (framed_values c.args.offset) (run_other i.0 (taken i.1 s.0.1) n c.if-pair-eq10.false))

pub loop-count-preserved : goal.loop-count-preserved
loop-count-preserved c =
    let s = c.in-Some.ensures.steps in
    let i = c.loop-count.invariant in
    let o : pair_octet c.in-Some.pair.now ≡ Some c.in-Some-octet_of.octet = sym c.octet_of.ensures ∙ c.in-Some-octet_of.is in (
      subst₂ (λ (n t : ℕ). Run (drop c.args.offset c.args.text.now) (chunks_rest c.next.new.self.iter) n c.if-count-eq0.first ((c.loop-count.sum + c.in-Some-octet_of.octet) % 256) ((c.loop-count.total + t) % 2 ^ 64)) (sym s.2) (sym c.from-total.ensures)
          (run_more i.0 (taken i.1 s.0.1) c.if-count-eq0.first o
          (elim c.if-count-eq0.branch [ then-count-eq0 w ↦ inl (sym s.1 ∙ w.if-count-eq0.true, w.first-is) | else-count-eq0 w ↦ inr ((λ z. w.if-count-eq0.false (s.1 ∙ z)), w.first-is) ])),
      s.0.0 ∙ i.1,
    )

pub returns : goal.returns
returns c = sym (ap (framed_values c.args.offset) (run_out c.loop-count.invariant.0 c.in-None.ensures.steps.0.1.0))
