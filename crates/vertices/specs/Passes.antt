-- Passes over positions: what they go over, which edges these are, and what they mark.
use Rattle.std.specs.Prelude.{ℕ, ◌≤◌, ◌<◌, ◌≡◌, Bool, true, List, length, Option, None, Some}
use Rattle.common.specs.Lists.{at}
use Rattle.common.specs.Limits.{most_edges}
use Rattle.common.specs.Halving.{Parted}
use Rattle.edge_index.specs.Spans.{place_at, Listed, Passable}
use Rattle.vertices.specs.Steps.{is_in, edges_in}

-- the columns, and the positions in them
pub record Passed : Type 0 where
  pub edge_count : ℕ
  pub labels : List ℕ
  pub starts : List ℕ
  pub ends : List ℕ
  pub places : List ℕ
  pub backward : Bool
  pub label : ℕ
  pub first : ℕ
  pub stop : ℕ

-- the edges, of all labels, as (label, start, end)
abbrev pub edges_along : Passed → List (List ℕ)
edges_along p = edges_in p.edge_count p.labels p.starts p.ends

-- the positions are those of the edges with the label l, of n edges with these labels, and of no others
abbrev pub PositionsOf : Passed → ℕ → List ℕ → ℕ → Type 0
PositionsOf p n labels l = Listed n labels l p.first p.stop (place_at p.backward p.places)

-- they are those of the pass's own label, in its own columns
abbrev pub OfLabel : Passed → Type 0
OfLabel p = PositionsOf p p.edge_count p.labels p.label

-- the vertex that a column has for the edge at position p; where the edge at a position starts, and where it ends
abbrev pub vertex_at : List ℕ → Bool → List ℕ → ℕ → ℕ
vertex_at column backward places p = at column (place_at backward places p)

abbrev pub start_at : Passed → ℕ → ℕ
start_at p = vertex_at p.starts p.backward p.places

abbrev pub end_at : Passed → ℕ → ℕ
end_at p = vertex_at p.ends p.backward p.places

-- the vertices marked by a pass from `first` to before `stop`: only for positions that pass the test, and for each of these before `passed`
pub record Marked (test : ℕ → Bool) (mark : ℕ → ℕ) (first stop passed : ℕ) (r : List Bool) : Type 0 where
  pub from : (v : ℕ) → is_in r v ≡ true → (p : ℕ) × (first ≤ p) × (p < stop) × (test p ≡ true) × (mark p ≡ v)
  pub each : (p : ℕ) → first ≤ p → p < passed → test p ≡ true → is_in r (mark p) ≡ true
  pub whole : length r ≡ 256

-- positions that a step may pass over, and the one from which on the vertices where the edges start are x or later ones: x's own edges,
-- if it has any, stand there
pub record OwnEdges (p : Passed) (x own : ℕ) : Type 0 where
  pub passable : Passable p.starts p.places p.backward p.first p.stop
  pub parted : Parted (start_at p) x p.first p.stop own own

-- where the edge at position q ends, if q is before `stop` and its edge starts at x
abbrev pub EndFrom : Passed → ℕ → ℕ → Option ℕ → Type 0
EndFrom p x q None = q < p.stop → start_at p q ≡ x → ⊥
EndFrom p x q (Some y) = (q < p.stop) × (q < most_edges) × (start_at p q ≡ x) × (end_at p q ≡ y)
