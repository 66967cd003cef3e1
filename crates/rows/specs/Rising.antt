-- The order in which lines rise: "Rising by object", "Rising as a pair", "Rising as a triple"; "Rising means strictly".
use Rattle.std.specs.Prelude.{ℕ, ◌<◌, ◌≡◌, ◌⊎◌, List, [], ◌∷◌}

-- the second list is above the first: in the first number in which they differ it is greater, and they do differ
abbrev pub Rises : List ℕ → List ℕ → Type 0
Rises [] [] = ⊥
Rises [] (y ∷ m) = Unit {0}
Rises (x ∷ l) [] = ⊥
Rises (x ∷ l) (y ∷ m) = (x < y) ⊎ ((x ≡ y) × Rises l m)
