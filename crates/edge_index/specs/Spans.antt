-- Where the edges with a label stand: at the positions from `first` to before `stop`, in the edges' own order or in the index's.
use Rattle.std.specs.Prelude.{ℕ, ◌+◌, ◌≤◌, ◌<◌, ◌≡◌, Bool, cond, List}
use Rattle.common.specs.Limits.{most_edges}
use Rattle.common.specs.Lists.{at}

-- the place of the edge at position p: forward in the edges' own order (by label, from, to), backward in the index's (by label, to, from)
abbrev pub place_at : Bool → List ℕ → ℕ → ℕ
place_at backward places p = cond backward (at places p) p

-- the edges with the label l, of n: those whose places are listed at these positions, and no others
pub record Listed (n : ℕ) (labels : List ℕ) (l first stop : ℕ) (place : ℕ → ℕ) : Type 0 where
  pub labelled : (p : ℕ) → first ≤ p → p < stop → (place p < n) × (at labels (place p) ≡ l)
  pub each : (i : ℕ) → i < n → at labels i ≡ l → (p : ℕ) × ((first ≤ p) × (p < stop) × (place p ≡ i))

-- positions that a step may pass over: each has a place, and the vertices where the edges start do not fall along them
pub record Passable (starts places : List ℕ) (backward : Bool) (first stop : ℕ) : Type 0 where
  pub few : stop ≤ most_edges
  pub within : (p : ℕ) → first ≤ p → p < stop → place_at backward places p < most_edges
  pub rising : (p : ℕ) → first ≤ p → p + 1 < stop → at starts (place_at backward places p) ≤ at starts (place_at backward places (p + 1))

-- the positions of the label l in one direction: forward along (sources, targets), backward along (targets, sources)
pub record Span (n : ℕ) (labels starts places : List ℕ) (l : ℕ) (backward : Bool) (first stop : ℕ) : Type 0 where
  pub listed : Listed n labels l first stop (place_at backward places)
  pub passable : Passable starts places backward first stop
