-- An array of n arrays of n bools that a function is handed is a square of n rows of n.
use Prim.Native.Nat.{ℕ, zero, suc, ◌<◌}
use mathlib.Core.Path.{◌≡◌, sym, subst}
use mathlib.Core.Bool.{Bool}
use mathlib.Core.List.{List, [], ◌∷◌}
use native.Mathlib.Omega.{arith}
use native.Mathlib.Nat.{le_of_suc-le-suc}
use lib.ListN.{length, get_or}
use mir.Val.{Val}
use denote.RattleType.{RattleType}
use denote.Shadow.{shadow}
use denote.Laws.{Is}
use denote.Plain.{Boolean}
use denote.Array.{Array, each}
use Rattle.closure.proofs.Square.{Square}

module _ (R : RattleType) (n : ℕ) where
  row_length : (xs : List (List R.Denot)) (us : List Val) → shadow (each (List R.Denot) (Array R n).own_val xs us)
      → (x : ℕ) → x < length xs → length (get_or xs x []) ≡ n
  row_length [] us s x l = absurd (omega arith)
  row_length (r ∷ xs) [] s x l = absurd s
  row_length (r ∷ xs) (u ∷ us) s zero l = s.0.1.0.1
  row_length (r ∷ xs) (u ∷ us) s (suc x) l = row_length xs us s.1 x (le_of_suc-le-suc l)

pub square_of : (n : ℕ) (m : List (List Bool)) (vs : List Val) → Is (Array (Array Boolean n) n) m vs → Square n m
square_of n m vs p =
    record { rows = p.1.0.1; cells = λ x l. row_length Boolean n m p.0 p.1.1 x (subst (λ (k : ℕ). x < k) (sym p.1.0.1) l) }
