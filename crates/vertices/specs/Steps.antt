-- Sets of vertices, and what the edges (label, from, to) lead to.
use Rattle.std.specs.Prelude.{ℕ, ◌≡◌, Bool, true, false, ◌&&◌, List, [], ◌∷◌, get_or, eqb}
use Rattle.common.specs.Lists.{at, any, table}

-- some edge with the label a leads from here, the number i of an edge, to a vertex, its number j, where p holds
abbrev pub leads : List (List ℕ) → ℕ → ℕ → ℕ → (ℕ → Bool) → ℕ → Bool
leads es i j a p here = any (λ e. eqb (at e 0) a && (eqb (at e i) here && p (at e j))) es

-- the first n edges in columns
abbrev pub edges_in : ℕ → List ℕ → List ℕ → List ℕ → List (List ℕ)
edges_in n labels from to = table n (λ i. at labels i ∷ at from i ∷ at to i ∷ [])

-- v is in the set
abbrev pub is_in : List Bool → ℕ → Bool
is_in t v = get_or t v false

-- r has, of the asked vertices, those where p holds
pub record Among (asked : List Bool) (p : ℕ → Bool) (r : List Bool) : Type 0 where
  pub members : (v : ℕ) → is_in r v ≡ (is_in asked v && p v)

-- r says whether the set has a vertex
pub record HasMember (s : List Bool) (r : Bool) : Type 0 where
  pub none : r ≡ false → (v : ℕ) → is_in s v ≡ false
  pub some : r ≡ true → (v : ℕ) × (is_in s v ≡ true)
