-- The loop of `reached_from_one`: what the positions before p mark.
use Rattle.std.proofs.Common.{eqb}
use Rattle.vertices.specs.Directions.{is_backward}
use Rattle.vertices.specs.Passes.{vertex_at, Marked}
use Rattle.vertices.proofs.pass.Pass.reached_from_one.Given as goal

abbrev pub invariant-loop-p : goal.invariant-loop-p
invariant-loop-p l =
    Marked (λ q. eqb (vertex_at l.self-inside.starts.now (is_backward l.self-inside.direction) l.self-inside.places.now q) l.x)
    (vertex_at l.self-inside.ends.now (is_backward l.self-inside.direction) l.self-inside.places.now) l.self-inside.first l.self-inside.stop l.p l.r
