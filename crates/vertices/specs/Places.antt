-- Places and ends: what their cases mean.
use Rattle.std.specs.Prelude.{ℕ, ◌≡◌, Bool, true, false, List, eqb}
use Prim.{Unit}
use Rattle.vertices.specs.declared.Place.{Place}
use Rattle.vertices.specs.declared.Place.TheVariants.{Nowhere, At, Everywhere}
use Rattle.vertices.specs.declared.pass.Ends.{Ends}
use Rattle.vertices.specs.declared.pass.Ends.TheVariants.{Nowhere as no_end, Once, Several}
use Rattle.vertices.specs.Steps.{leads}

-- v is at the place
abbrev pub placed : Place → ℕ → Bool
placed Nowhere v = false
placed (At x) v = eqb v x
placed Everywhere v = true

-- what is said of the edges with the label a that start at x: none leads anywhere; what holds where the only one ends is what it leads to
abbrev pub OnlyEnd : List (List ℕ) → ℕ → ℕ → Ends → Type 0
OnlyEnd es a x no_end = (P : ℕ → Bool) → leads es 1 2 a P x ≡ false
OnlyEnd es a x (Once y) = (P : ℕ → Bool) → leads es 1 2 a P x ≡ P y
OnlyEnd es a x Several = Unit {0}
