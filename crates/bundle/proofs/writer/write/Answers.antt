-- `write` meets its contract: 18 leaves the buffer, as 19 does; else the three parts are the bundle.
use Rattle.std.proofs.Common.{◌≤◌, length, subst, arith}
use Rattle.policy.specs.declared.Record.{Record}
use Rattle.bundle.specs.Writing.{bundle_of}
use Rattle.bundle.proofs.Answers.{Answered, unloadable, short, writes}
use Rattle.bundle.proofs.Whole.{room_start, room_grounds, room_end, whole}
use Rattle.bundle.proofs.writer.write.Goals as goal

pub returns-in_err-rules-clause-buffer : goal.returns-in_err-rules-clause-buffer
returns-in_err-rules-clause-buffer c = (unloadable _ _ c.in_err-rules.ensures.rules.1).1

-- the rules that were lent are the record
pub returns-then-buffer-needed : goal.returns-then-buffer-needed
returns-then-buffer-needed c =
    let n = c.bundle_length-needed.ensures in
    let s = short c.in_ok-rules.rules c.args.buffer.now n.loads n.length c.if-buffer-needed.true in
    let e =
    subst (λ (r : Record). Answered r c.args.buffer.now 18 c.bundle_length-needed.result c.args.buffer.now) c.in_ok-rules.ensures.rules s in
    record { answers = e.0; buffer = e.1; typed = c.in_ok-rules.ensures.typed }

-- past the test there is room
pub put_graph-graph-requires : goal.put_graph-graph-requires
put_graph-graph-requires c =
    let n = c.bundle_length-needed.ensures in
    room_start c.in_ok-rules.rules n.loads (omega (arith, n.length, c.if-buffer-needed.false))

pub put_grounds-grounds-requires : goal.put_grounds-grounds-requires
put_grounds-grounds-requires c =
    let n = c.bundle_length-needed.ensures in
    room_grounds c.in_ok-rules.rules n.loads {b = c.args.buffer.now} (omega (arith, n.length, c.if-buffer-needed.false)) c.put_graph-graph.ensures

pub put_end-requires : goal.put_end-requires
put_end-requires c =
    let n = c.bundle_length-needed.ensures in
    let fits : length (bundle_of c.in_ok-rules.rules) ≤ length c.args.buffer.now = omega (arith, n.length, c.if-buffer-needed.false) in
    room_end c.in_ok-rules.rules n.loads fits c.put_graph-graph.ensures c.put_grounds-grounds.ensures

pub returns : goal.returns
returns c =
    let n = c.bundle_length-needed.ensures in
    let fits : length (bundle_of c.in_ok-rules.rules) ≤ length c.args.buffer.now = omega (arith, n.length, c.if-buffer-needed.false) in
    let w =
    writes c.in_ok-rules.rules c.args.buffer.now n.loads n.length c.if-buffer-needed.false
    (whole c.in_ok-rules.rules n.loads fits c.put_graph-graph.ensures c.put_grounds-grounds.ensures c.put_end.ensures) in
    let e =
    subst (λ (r : Record). Answered r c.args.buffer.now 0 c.bundle_length-needed.result c.put_end.new.buffer) c.in_ok-rules.ensures.rules w in
    record { answers = e.0; buffer = e.1; typed = c.in_ok-rules.ensures.typed }
