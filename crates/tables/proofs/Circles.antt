-- The circles of a table of pairs that loads.
use Prim.Native.Nat.{ℕ, min, ◌≤◌, ◌<◌}
use mathlib.Core.Path.{◌≡◌, subst}
use mathlib.Core.Logic.{◌↔◌}
use mathlib.Core.Bool.{Bool, true}
use mathlib.Core.List.{List}
use native.Mathlib.Omega.{arith}
use Rattle.common.specs.Limits.{most_related, most_pairs}
use Rattle.common.specs.BoolLaws.{same_test}
use Rattle.closure.specs.Closure.{On, Listed, pairs_of, Star, Below, Circle, circular}
use Rattle.closure.proofs.ClosureFact.{circle_circular}
use Rattle.tables.specs.Loads.{pairs_load}
use Rattle.tables.specs.LoadsLaws.{pairs_named, pairs_proper, pairs_relation}

-- the code's relation, closed, has a circle exactly when the pairs have one
pub circular_pairs : (things n : ℕ) (a b : List ℕ) (m : List (List Bool)) {res : Bool} → pairs_load things n a b ≡ true
    → things ≤ most_related
    → ((i j : ℕ) → i < most_related → j < most_related → (On m i j ↔ Listed (pairs_of (min n most_pairs) a b) i j))
    → (res ≡ true ↔ Circle (Star (Below (min things most_related) (On m)))) → res ≡ circular (pairs_of n a b)
circular_pairs things n a b m {res} loads few rel c =
    let size : min things most_related ≡ things = omega arith in
    let law = circle_circular (pairs_of n a b) {R = On m} (pairs_named things n a b loads) (pairs_relation things n a b loads m few rel)
    (pairs_proper things n a b loads) in
    let d = subst (λ (k : ℕ). res ≡ true ↔ Circle (Star (Below k (On m)))) size c in
    same_test res (circular (pairs_of n a b)) (λ e. law.0 (d.0 e), λ e. d.1 (law.1 e))
