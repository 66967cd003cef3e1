-- `sized_line` meets its contract: no line of the size stands there, or its octets were gone through, and each turn goes through one.
use Rattle.std.proofs.Common.{◌≡◌, ℕ, ◌+◌, ◌-◌, ◌*◌, ◌%◌, ◌<◌, List, [], ◌∷◌, length, take, drop, sym, refl, ap, ◌∙◌, subst, arith}
use Rattle.common.specs.Lists.{at}
use Rattle.octets.specs.Line.{digit_value}
use Rattle.octets.proofs.Sized.{Sized, pairs_left, next_pair, sized_none, sized_more, sized_other, sized_total, sized_holds, short_none, none_holds}
use Rattle.octets.proofs.sized_line.Goals as goal

pub returns-in_err-ended : goal.returns-in_err-ended
returns-in_err-ended c =
    let n = short_none c.args.size (drop c.args.offset c.args.text.now) (let f = ap length c.rest_from-rest.ensures in let l = c.in_err-ended.ensures.lookup.3 in omega arith) in
    record { total = c.from_residual.ensures ∙ sym n; octets = none_holds _ _ n _ _ }

pub loop-n-init : goal.loop-n-init
loop-n-init c =
    let f = ap length c.rest_from-rest.ensures in
    let l = c.in_ok-ended.ensures.lookup.3.0 in
    let t = drop c.args.offset c.args.text.now in
    let o = c.args.octets.now in
    subst (λ (m : ℕ). Sized t (take m t) c.args.size 0 0 0 0 o o) (let e : 2 * c.args.size ≡ 2 * c.args.size - 0 = omega arith in e)
    (sized_none _ _ _ (omega arith))

pub loop-n-preserved : goal.loop-n-preserved
loop-n-preserved c =
    let p = c.requires.1 in
    let e = c.rest_from-rest.ensures in
    let f = ap length e in
    let l = c.in_ok-ended.ensures.lookup.3.0 in
    let x = c.looked_up-high.ensures ∙ ap (λ (t : List ℕ). digit_value (at t (2 * c.loop-n.n))) e in
    let y = c.looked_up-low.ensures ∙ ap (λ (t : List ℕ). digit_value (at t (2 * c.loop-n.n + 1))) e in
    let z = c.from.ensures in
    let o = (c.looked_up-high.result * 16 % 256 + c.looked_up-low.result) % 256 in
    let m =
    sized_more c.loop-n.invariant (at (drop c.args.offset c.args.text.now) (2 * c.loop-n.n) ∷ at (drop c.args.offset c.args.text.now) (2 * c.loop-n.n + 1) ∷ [])
    (next_pair c.args.size c.loop-n.n _ c.loop-n-test.true (omega arith)) refl (omega (arith, p.whole, p.fits)) x y
    (let e : o ≡ (c.looked_up-high.result * 16 + c.looked_up-low.result) % 256 = omega arith in e) refl in
    rw z m

pub returns-then-marks-ge-NO_DIGIT : goal.returns-then-marks-ge-NO_DIGIT
returns-then-marks-ge-NO_DIGIT c =
    let f = ap length c.rest_from-rest.ensures in
    let g = c.in_ok-ended.ensures.lookup.3 in
    let e = g.1 0 ∙ ap (λ (t : List ℕ). at t (2 * c.args.size)) c.rest_from-rest.ensures in
    let few = c.loop-n.invariant.few in
    let n = sized_other c.loop-n.invariant (omega arith) (omega (arith, g.0)) (grind arith) in
    record { total = sym n; octets = none_holds c.args.size _ n _ _ }

pub returns : goal.returns
returns c =
    let f = ap length c.rest_from-rest.ensures in
    let g = c.in_ok-ended.ensures.lookup.3 in
    let e = sym (g.1 0 ∙ ap (λ (t : List ℕ). at t (2 * c.args.size)) c.rest_from-rest.ensures) ∙ c.if-not-ended.false in
    let few = c.loop-n.invariant.few in
    let left = pairs_left c.args.size c.loop-n.n (drop c.args.offset c.args.text.now) in
    let done = let l : length left < 2 = omega arith in l in
    let long = let l : 2 * c.args.size < length (drop c.args.offset c.args.text.now) = omega (arith, g.0) in l in
    record {
      total = c.sized_at_end.ensures ∙ sized_total c.loop-n.invariant done long c.if-marks-ge-NO_DIGIT.false e;
      octets = sized_holds c.loop-n.invariant done long c.if-marks-ge-NO_DIGIT.false e;
    }
