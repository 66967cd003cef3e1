-- The loop of `leads_to`: none of x's own edges before position p ends at the place.
use Rattle.std.proofs.Common.{ℕ, ◌≤◌, ◌<◌, ◌≡◌, false}
use Rattle.vertices.specs.Places.{placed}
use Rattle.vertices.specs.Directions.{is_backward}
use Rattle.vertices.specs.Passes.{vertex_at}
use Rattle.vertices.proofs.pass.Pass.leads_to.Given as goal

abbrev pub invariant-loop-p : goal.invariant-loop-p
invariant-loop-p l =
    (q : ℕ) → l.self-inside.first ≤ q → q < l.p
    → vertex_at l.self-inside.starts.now (is_backward l.self-inside.direction) l.self-inside.places.now q ≡ l.x
    → placed l.place (vertex_at l.self-inside.ends.now (is_backward l.self-inside.direction) l.self-inside.places.now q) ≡ false
