-- The loop of `starts_to`: what the positions before p mark.
use Rattle.std.proofs.Common.{ℕ, ◌<◌, ◌≡◌, Bool, ◌&&◌}
use Rattle.vertices.specs.Steps.{is_in}
use Rattle.vertices.specs.Directions.{is_backward}
use Rattle.vertices.specs.Passes.{vertex_at, Marked}
use Rattle.vertices.proofs.pass.Pass.starts_to.Given as goal

abbrev pub invariant-loop-p : goal.invariant-loop-p
invariant-loop-p l =
    (P : ℕ → Bool) → ((v : ℕ) → v < 256 → is_in l.found v ≡ P v)
    → Marked (λ q. is_in l.asked (vertex_at l.self-inside.starts.now (is_backward l.self-inside.direction) l.self-inside.places.now q)
    && P (vertex_at l.self-inside.ends.now (is_backward l.self-inside.direction) l.self-inside.places.now q))
    (vertex_at l.self-inside.starts.now (is_backward l.self-inside.direction) l.self-inside.places.now) l.self-inside.first l.self-inside.stop l.p l.r
