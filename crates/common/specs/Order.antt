-- The order of lists of numbers, as of words in a dictionary: the first number in which two lists differ decides.
use Rattle.std.specs.Prelude.{ℕ, ◌<◌, ◌≡◌, ◌⊎◌, List, [], ◌∷◌}

-- the first list comes before the second, or is the second; one that ends comes before one that goes on
abbrev pub NotAfter : List ℕ → List ℕ → Type 0
NotAfter [] m = Unit {0}
NotAfter (x ∷ l) [] = ⊥
NotAfter (x ∷ l) (y ∷ m) = (x < y) ⊎ ((x ≡ y) × NotAfter l m)
