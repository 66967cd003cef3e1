-- The loop of `reached_from`: what the positions before p mark.
use Rattle.vertices.specs.Steps.{is_in}
use Rattle.vertices.specs.Directions.{is_backward}
use Rattle.vertices.specs.Passes.{vertex_at, Marked}
use Rattle.vertices.proofs.pass.Pass.reached_from.Given as goal

abbrev pub invariant-loop-p : goal.invariant-loop-p
invariant-loop-p l =
    Marked (λ q. is_in l.asked (vertex_at l.self-inside.starts.now (is_backward l.self-inside.direction) l.self-inside.places.now q))
    (vertex_at l.self-inside.ends.now (is_backward l.self-inside.direction) l.self-inside.places.now) l.self-inside.first l.self-inside.stop l.p l.r
