-- A square of bools as a relation: what a store does to it.
use Prim.Native.Nat.{ℕ, ◌<◌}
use mathlib.Core.Path.{◌≡◌, sym, ◌∙◌, ap, subst, subst₂}
use mathlib.Core.Logic.{◌⊎◌, inl, inr, ⊎_elim}
use mathlib.Core.Bool.{Bool, true, false}
use mathlib.Core.List.{List, []}
use native.Mathlib.Omega.{arith}
use native.Mathlib.Decide.{ℕ_discrete}
use lib.ListN.{length, get_or, set, length-set}
use lib.Seq.{get_or-set_same, get_or-set_other}
use Rattle.closure.specs.Closure.{On}
use Rattle.closure.proofs.Closing.{With}

-- s rows of s bools
pub record Square (s : ℕ) (m : List (List Bool)) : Type 0 where
  pub rows : length m ≡ s
  pub cells : (x : ℕ) → x < s → length (get_or m x []) ≡ s

-- m with b at (i, j)
abbrev pub put : List (List Bool) → ℕ → ℕ → Bool → List (List Bool)
put m i j b = set m i (set (get_or m i []) j b)

module _ {s : ℕ} {m : List (List Bool)} (q : Square s m) (i j : ℕ) (li : i < s) (lj : j < s) where
  row_same : (b : Bool) → get_or (put m i j b) i [] ≡ set (get_or m i []) j b
  row_same b = get_or-set_same m i _ [] (let r = q.rows in omega arith)

  pub square_put : (b : Bool) → Square s (put m i j b)
  square_put b =
      record { rows = length-set m i _ ∙ q.rows; cells = λ x lx. cells_put x lx (ℕ_discrete x i) }
    where
      cells_put : (x : ℕ) → x < s → Dec (x ≡ i) → length (get_or (put m i j b) x []) ≡ s
      cells_put x lx (yes e) =
          subst (λ (z : ℕ). length (get_or (put m i j b) z []) ≡ s) (sym e)
          (ap length (row_same b) ∙ length-set (get_or m i []) j b ∙ q.cells i li)
      cells_put x lx (no h) = ap length (get_or-set_other m i x _ [] h) ∙ q.cells x lx

  pub with_put : With i j (On m) (On (put m i j true))
  with_put =
      record {
        added = on_same;
        kept = λ x y p. ⊎_elim (λ e. subst₂ (On (put m i j true)) (sym e.0) (sym e.1) on_same) (λ e. e ∙ p) (on_other x y);
        only = λ x y p. ⊎_elim (λ e. inr e) (λ e. inl (sym e ∙ p)) (on_other x y);
      }
    where
      on_same : On (put m i j true) i j
      on_same =
          ap (λ (r : List Bool). get_or r j false) (row_same true)
          ∙ get_or-set_same (get_or m i []) j true false (let r = q.cells i li in omega arith)

      -- (x, y) is (i, j), or is as it was
      Other : ℕ → ℕ → Type 0
      Other x y = ((x ≡ i) × (y ≡ j)) ⊎ (get_or (get_or (put m i j true) x []) y false ≡ get_or (get_or m x []) y false)

      other : (x y : ℕ) → Dec (x ≡ i) → Dec (y ≡ j) → Other x y
      other x y (yes e) (yes f) = inl (e, f)
      other x y (yes e) (no g) =
          inr (subst (λ (z : ℕ). get_or (get_or (put m i j true) z []) y false ≡ get_or (get_or m z []) y false) (sym e)
          (ap (λ (r : List Bool). get_or r y false) (row_same true) ∙ get_or-set_other (get_or m i []) j y true false g))
      other x y (no h) d = inr (ap (λ (r : List Bool). get_or r y false) (get_or-set_other m i x _ [] h))

      on_other : (x y : ℕ) → Other x y
      on_other x y = other x y (ℕ_discrete x i) (ℕ_discrete y j)
