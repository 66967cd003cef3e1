-- `put_grounds` meets its contract: each table in turn, with the room for those after it.
use Rattle.std.proofs.Common.{List, [], ◌∷◌, arith, subst}
use Rattle.policy.specs.declared.Record.{Record}
use Rattle.policy.specs.Table.{Kind, hierarchy, principal, exclusion, prerequisite, method}
use Rattle.writing.specs.Drafts.{Put}
use Rattle.writing.specs.DraftLaws.{put_join, put_none}
use Rattle.bundle.specs.WriterParts.{ground_lines}
use Rattle.bundle.proofs.WrittenTables.{room_for, put_table}
use Rattle.bundle.proofs.writer.put_grounds.Goals as goal

abbrev grounds : List Kind
grounds = hierarchy ∷ principal ∷ exclusion ∷ prerequisite ∷ method ∷ []

pub put_lines-d6-requires-clause-room : goal.put_lines-d6-requires-clause-room
put_lines-d6-requires-clause-room c =
    let p = room_for grounds c.rules.inside.columns.now c.rules.view_is c.requires in
    record { room = omega (arith, p.0); few = omega (arith, p.1); fair = p.2 }

pub put_lines-d7-requires-clause-room : goal.put_lines-d7-requires-clause-room
put_lines-d7-requires-clause-room c =
    let p = room_for grounds c.rules.inside.columns.now c.rules.view_is c.requires in
    record { room = omega (arith, p.0); few = omega (arith, p.1); fair = c.put_lines-d6.ensures.grown.fair }

pub put_lines-d8-requires-clause-room : goal.put_lines-d8-requires-clause-room
put_lines-d8-requires-clause-room c =
    let p = room_for grounds c.rules.inside.columns.now c.rules.view_is c.requires in
    record { room = omega (arith, p.0); few = omega (arith, p.1); fair = c.put_lines-d7.ensures.grown.fair }

pub put_lines-d9-requires-clause-room : goal.put_lines-d9-requires-clause-room
put_lines-d9-requires-clause-room c =
    let p = room_for grounds c.rules.inside.columns.now c.rules.view_is c.requires in
    record { room = omega (arith, p.0); few = omega (arith, p.1); fair = c.put_lines-d8.ensures.grown.fair }

pub put_lines-requires-clause-room : goal.put_lines-requires-clause-room
put_lines-requires-clause-room c =
    let p = room_for grounds c.rules.inside.columns.now c.rules.view_is c.requires in
    record { room = omega (arith, p.0); few = omega (arith, p.1); fair = c.put_lines-d9.ensures.grown.fair }

pub returns : goal.returns
returns c =
    let r = c.rules.inside.columns.now in
    let p = room_for grounds r c.rules.view_is c.requires in
    subst (λ (x : Record). Put c.args.buffer.now c.put_lines.new.buffer c.args.d5 c.put_lines.result (ground_lines x)) c.rules.view_is
    (put_join (omega (arith, p.0)) (put_table hierarchy r c.put_lines-d6.ensures.lines (λ i b l e. e))
    (put_join (omega (arith, p.0)) (put_table principal r c.put_lines-d7.ensures.lines (λ i b l e. e))
    (put_join (omega (arith, p.0)) (put_table exclusion r c.put_lines-d8.ensures.lines (λ i b l e. e))
    (put_join (omega (arith, p.0)) (put_table prerequisite r c.put_lines-d9.ensures.lines (λ i b l e. e))
    (put_join (omega (arith, p.0)) (put_table method r c.put_lines.ensures.lines (λ i b l e. e)) (put_none _ _))))))
