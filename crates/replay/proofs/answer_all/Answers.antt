-- `answer_all` meets its contract.
use Rattle.std.proofs.Common.{◌≡◌, ◌<◌, ◌/◌, length, ◌∙◌, arith, length-take-le}
use Rattle.replay.specs.Replay.{call_octets, listed_call_at}
use Rattle.replay.specs.CallValues.{call_values, reply_values}
use Rattle.replay.proofs.Listed.{listed_at}
use Rattle.replay.proofs.Replaying.{replaying_start, replaying_more, replaying_end}
use Rattle.replay.proofs.answer_all.Goals as goal

pub loop-i-init : goal.loop-i-init
loop-i-init c = replaying_start _ _ _ _ c.loadable-loads.ensures.decides

pub loop-i-preserved : goal.loop-i-preserved
loop-i-preserved c =
    let listed = c.as_chunks.result.0.now in
    let count = c.min-count.result in
    let whole : length listed ≡ length c.args.calls.now / call_octets = c.as_chunks.ensures.front_len in
    let few : c.loop-i.i < count = omega (arith, length-take-le count listed) in
    let call : call_values c.from.result ≡ listed_call_at c.args.calls.now c.loop-i.i =
    c.from.ensures ∙ listed_at c.args.calls.now _ count c.loop-i.i c.as_chunks.ensures.front few (omega arith) in
    replaying_more c.loop-i.invariant (reply_values c.answer_given-reply.result c.answer_given-reply.new.rules) (omega arith)
    (omega arith) call c.answer_given-reply.ensures
    (c.copy_from_slice.ensures.after ∙ c.octets.ensures c.answer_given-reply.new.rules)

pub returns-clause-buffer : goal.returns-clause-buffer
returns-clause-buffer c =
    let listed = c.as_chunks.result.0.now in
    let whole : length listed ≡ length c.args.calls.now / call_octets = c.as_chunks.ensures.front_len in
    replaying_end c.loop-i.invariant (omega (arith, length-take-le c.min-count.result listed))
