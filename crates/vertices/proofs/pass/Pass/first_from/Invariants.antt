-- The loop of `first_from`: what is known of the positions outside low and high, and the measure.
use Rattle.std.proofs.Common.{◌-◌, ◌≤◌}
use Rattle.common.specs.Halving.{Parted}
use Rattle.vertices.specs.Directions.{is_backward}
use Rattle.vertices.specs.Passes.{vertex_at}
use Rattle.vertices.proofs.pass.Pass.first_from.Given as goal

abbrev pub invariant-loop-low : goal.invariant-loop-low
invariant-loop-low l =
    Parted (vertex_at l.self-inside.starts.now (is_backward l.self-inside.direction) l.self-inside.places.now) l.x l.self-inside.first l.self-inside.stop l.low l.high
    × (l.high ≤ l.self-inside.stop)

abbrev pub decreases-loop-low : goal.decreases-loop-low
decreases-loop-low l = l.high - l.low
