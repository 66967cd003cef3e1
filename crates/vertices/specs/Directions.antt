-- The two ways of a step along edges.
use Rattle.std.specs.Prelude.{Bool, true, false}
use Rattle.vertices.specs.declared.pass.Direction.{Direction}
use Rattle.vertices.specs.declared.pass.Direction.TheVariants.{Forward, Backward}

abbrev pub is_backward : Direction → Bool
is_backward Forward = false
is_backward Backward = true
