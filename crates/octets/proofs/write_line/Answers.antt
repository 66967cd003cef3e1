-- `write_line` meets its contract: there is no room, or the length and the kind are written, then the body octet by octet, and the check.
use Rattle.std.proofs.Common.{ℕ, ◌≡◌, ◌+◌, ◌-◌, ◌*◌, ◌%◌, length, set, refl, ap, ◌∙◌, arith}
use Rattle.octets.specs.Answers.{placed}
use Rattle.octets.proofs.Written.{body_none, body_more, body_end}
use Rattle.octets.proofs.Written.{too_long_lem, too_short, line_written}
use Rattle.octets.proofs.write_line.Goals as goal

pub returns-in_default : goal.returns-in_default
returns-in_default c =
    let r = too_long_lem c.args.kind c.args.body.now c.args.buffer.now (let e = c.in_default.ensures in omega arith) in
    record { length = r.0; buffer = r.1 }

pub returns-then-buffer-needed : goal.returns-then-buffer-needed
returns-then-buffer-needed c =
    let f = c.in-Ok.ensures in
    let r = too_short c.args.kind c.args.body.now c.args.buffer.now (omega (arith, f.0)) c.if-buffer-needed.true in
    record { length = r.0; buffer = r.1 }

pub loop-k-init : goal.loop-k-init
loop-k-init c =
    let f = c.in-Ok.ensures in
    body_none _ _ _ c.if-buffer-needed.false
    (c.put_octet.ensures ∙ ap (λ (n : ℕ). placed c.args.buffer.now 0 n) f.1)
    c.put_octet-2.ensures (ap (λ (n : ℕ). (n + c.args.kind) % 256) f.1)

pub loop-k-preserved : goal.loop-k-preserved
loop-k-preserved c =
    body_more _ _ _ c.if-buffer-needed.false c.loop-k.invariant c.loop-k-test.true c.put_octet-in-loop-k.ensures refl

pub returns : goal.returns
returns c =
    let f = c.in-Ok.ensures in
    let n = length c.args.body.now in
    let r = line_written c.args.kind c.args.body.now c.args.buffer.now (omega (arith, f.0)) c.if-buffer-needed.false in
    let g = c.wrapping_neg.ensures in
    let e = body_end _ _ _ c.if-buffer-needed.false c.loop-k.invariant c.wrapping_neg.result c.loop-k-test.false (omega arith) (omega arith) in
    let last : 2 * n + 7 - 1 ≡ 2 * n + 6 = omega arith in
    let check : 2 * n + 7 - 3 ≡ 2 * n + 4 = omega arith in
    record {
      length = r.0;
      buffer = (λ i. set (c.put_octet-3.ensures i) (last i) 0x0A) ∙ ap (λ (p : ℕ). set (placed c.loop-k.buffer p c.wrapping_neg.result) (2 * n + 6) 0x0A) check ∙ e ∙ r.1;
    }
