-- Relations on numbers: the reflexive and transitive closure, circles; and the same for a list of pairs, computed.
-- Hierarchy and prerequisites both mean this closure (document 01, "Grounds and guards").
use Rattle.std.specs.Prelude.{ℕ, ◌<◌, ◌≡◌, ◌↔◌, ◌≢◌, ◌⊎◌, Bool, true, false, ◌&&◌, ◌||◌, List, [], ◌∷◌, get_or, eqb}
use Rattle.common.specs.Limits.{most_related}
use Rattle.common.specs.Lists.{at, any, table}

abbrev pub Rel : Type 1
Rel = ℕ → ℕ → Type 0

-- ---- of a relation

-- the reflexive and transitive closure of R: from i one comes to j by steps of R, none or more
pub data Star (R : Rel) : ℕ → ℕ → Type 0 where
  here : {i : ℕ} → Star R i i
  step : {i j k : ℕ} → R i j → Star R j k → Star R i k

-- two different things that R relates both ways
abbrev pub Circle : Rel → Type 0
Circle R = (i : ℕ) × (j : ℕ) × (i ≢ j) × R i j × R j i

-- R, between the things below n
abbrev pub Below : ℕ → Rel → Rel
Below n R i j = (i < n) × (j < n) × R i j

-- C is the closure of R between the things below n, and is R elsewhere
pub record Closes (n : ℕ) (R C : Rel) : Type 0 where
  pub inside : (i j : ℕ) → i < n → j < n → (C i j ↔ Star (Below n R) i j)
  pub outside : (i j : ℕ) → (i < n → j < n → ⊥) → (C i j ↔ R i j)

-- an array of arrays of bools as a relation
abbrev pub On : List (List Bool) → Rel
On m i j = get_or (get_or m i []) j false ≡ true

-- ---- of a list of pairs

-- the first n pairs of two columns of numbers
abbrev pub pairs_of : ℕ → List ℕ → List ℕ → List (List ℕ)
pairs_of n firsts seconds = table n (λ e. at firsts e ∷ at seconds e ∷ [])

-- (i, j) is one of the pairs
abbrev pub Listed : List (List ℕ) → Rel
Listed [] i j = ⊥
Listed (p ∷ ps) i j = ((at p 0 ≡ i) × (at p 1 ≡ j)) ⊎ Listed ps i j

-- the relation m is what the pairs list, between the things that there are
abbrev pub Relates : List (List ℕ) → List (List Bool) → Type 0
Relates ps m = (i j : ℕ) → i < most_related → j < most_related → (On m i j ↔ Listed ps i j)

-- from i one comes to j by steps along the pairs, none or more: without the first pair, or to its start, along it, and on from its end
unfoldable pub reaches : List (List ℕ) → ℕ → ℕ → Bool
reaches [] i j = eqb i j
reaches (p ∷ ps) i j = reaches ps i j || (reaches ps i (at p 0) && reaches ps (at p 1) j)

-- some pair's end leads back to its start
unfoldable pub circular : List (List ℕ) → Bool
circular ps = any (λ p. reaches ps (at p 1) (at p 0)) ps
