-- `closure::has_circle` meets its contract. The invariants: no circle goes through a thing below i, nor through i and one below j.
use Rattle.std.proofs.Common.{ℕ, ◌<◌, ◌≢◌, List, Bool}
use Rattle.closure.specs.Closure.{On}
use Rattle.closure.proofs.has_circle.Given as goal

-- no circle through x and y
abbrev pub NoCircle : List (List Bool) → ℕ → ℕ → Type 0
NoCircle c x y = x ≢ y → On c x y → On c y x → ⊥

abbrev pub invariant-loop-j : goal.invariant-loop-j
invariant-loop-j l = (y : ℕ) → y < l.j → NoCircle l.c l.i y

abbrev pub invariant-loop-i : goal.invariant-loop-i
invariant-loop-i l = (x : ℕ) → x < l.i → (y : ℕ) → y < l.n → NoCircle l.c x y
