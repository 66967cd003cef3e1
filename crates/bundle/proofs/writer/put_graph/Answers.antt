-- `put_graph` meets its contract: each table in turn, with the room for those after it.
use Rattle.std.proofs.Common.{List, [], ◌∷◌, arith, subst}
use Rattle.policy.specs.declared.Record.{Record}
use Rattle.policy.specs.Table.{Kind, head, user, edge, formula, demarcation}
use Rattle.writing.specs.Drafts.{Put}
use Rattle.writing.specs.DraftLaws.{put_join, put_none}
use Rattle.bundle.specs.WriterParts.{start, graph_lines}
use Rattle.bundle.proofs.WrittenTables.{room_for, put_table, head_grown}
use Rattle.bundle.proofs.writer.put_graph.Goals as goal

abbrev graph : List Kind
graph = head ∷ user ∷ edge ∷ formula ∷ demarcation ∷ []

pub put_head-d1-requires : goal.put_head-d1-requires
put_head-d1-requires c =
    let p = room_for graph c.rules.inside.columns.now c.rules.view_is c.requires in
    record { room = omega (arith, p.0); few = omega (arith, p.1); fair = omega arith }

pub put_lines-d2-requires-clause-room : goal.put_lines-d2-requires-clause-room
put_lines-d2-requires-clause-room c =
    let p = room_for graph c.rules.inside.columns.now c.rules.view_is c.requires in
    let h = head_grown c.rules.inside.columns.now.objects (omega (arith, p.0)) c.put_head-d1.ensures in
    record { room = omega (arith, p.0); few = omega (arith, p.1); fair = h.fair }

pub put_lines-d3-requires-clause-room : goal.put_lines-d3-requires-clause-room
put_lines-d3-requires-clause-room c =
    let p = room_for graph c.rules.inside.columns.now c.rules.view_is c.requires in
    let h = head_grown c.rules.inside.columns.now.objects (omega (arith, p.0)) c.put_head-d1.ensures in
    record { room = omega (arith, p.0); few = omega (arith, p.1); fair = c.put_lines-d2.ensures.grown.fair }

pub put_lines-d4-requires-clause-room : goal.put_lines-d4-requires-clause-room
put_lines-d4-requires-clause-room c =
    let p = room_for graph c.rules.inside.columns.now c.rules.view_is c.requires in
    let h = head_grown c.rules.inside.columns.now.objects (omega (arith, p.0)) c.put_head-d1.ensures in
    record { room = omega (arith, p.0); few = omega (arith, p.1); fair = c.put_lines-d3.ensures.grown.fair }

pub put_lines-requires-clause-room : goal.put_lines-requires-clause-room
put_lines-requires-clause-room c =
    let p = room_for graph c.rules.inside.columns.now c.rules.view_is c.requires in
    let h = head_grown c.rules.inside.columns.now.objects (omega (arith, p.0)) c.put_head-d1.ensures in
    record { room = omega (arith, p.0); few = omega (arith, p.1); fair = c.put_lines-d4.ensures.grown.fair }

pub returns : goal.returns
returns c =
    let r = c.rules.inside.columns.now in
    let p = room_for graph r c.rules.view_is c.requires in
    let h = head_grown r.objects (omega (arith, p.0)) c.put_head-d1.ensures in
    subst (λ (x : Record). Put c.args.buffer.now c.put_lines.new.buffer start c.put_lines.result (graph_lines x)) c.rules.view_is
    (put_join (omega arith) c.put_head-d1.ensures
    (put_join (omega (arith, p.0)) (put_table user r c.put_lines-d2.ensures.lines (λ i b l e. e))
    (put_join (omega (arith, p.0)) (put_table edge r c.put_lines-d3.ensures.lines (λ i b l e. e))
    (put_join (omega (arith, p.0)) (put_table formula r c.put_lines-d4.ensures.lines (λ i b l e. e))
    (put_join (omega (arith, p.0)) (put_table demarcation r c.put_lines.ensures.lines (λ i b l e. e)) (put_none _ _))))))
