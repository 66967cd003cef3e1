-- The edges of one vertex stand together: none starts at it before the position that halving finds, nor after one that does not.
use Prim.Native.Nat.{ℕ, ◌≤◌, ◌<◌}
use mathlib.Core.Path.{◌≡◌}
use mathlib.Core.Bool.{Bool}
use mathlib.Core.List.{List}
use native.Mathlib.Omega.{arith}
use Rattle.common.specs.Halving.{Parted, not_falling}
use Rattle.edge_index.specs.Spans.{Passable}
use Rattle.vertices.specs.Passes.{vertex_at}

module _ {starts places : List ℕ} {backward : Bool} {first stop : ℕ} (h : Passable starts places backward first stop) where
  abbrev vertex : ℕ → ℕ
  vertex = vertex_at starts backward places

  -- before the first position of x no vertex is x
  pub none_below : {x low high : ℕ} → Parted vertex x first stop low high → (q : ℕ) → first ≤ q → q < low → vertex q ≡ x → ⊥
  none_below m q a b e = omega (arith, m.below q a b)

  -- nor after one that is not
  pub none_after : {x low : ℕ} → Parted vertex x first stop low low → (p : ℕ) → low ≤ p → (vertex p ≡ x → ⊥)
      → (q : ℕ) → p ≤ q → q < stop → vertex q ≡ x → ⊥
  none_after m p l n q a b e = n (omega (arith, m.above p (omega arith) l (omega arith), not_falling h.rising p q (omega arith) a b))
