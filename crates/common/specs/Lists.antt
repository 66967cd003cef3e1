-- Lists: the number at a place, quantifiers, the elements that pass, tables.
use Rattle.std.specs.Prelude.{Bool, true, false, cond, ◌&&◌, ◌||◌, List, [], ◌∷◌, ◌++◌, ℕ, zero, suc, get_or, eqb}

-- the number at a place of a list; 0 past its end
abbrev pub at : List ℕ → ℕ → ℕ
at l i = get_or l i 0

module _ {ℓ} {A : Type ℓ} where
  -- p holds of some element
  abbrev pub any : (A → Bool) → List A → Bool
  any p [] = false
  any p (x ∷ l) = p x || any p l

  -- p holds of every element
  abbrev pub every : (A → Bool) → List A → Bool
  every p [] = true
  every p (x ∷ l) = p x && every p l

  -- the elements that pass
  abbrev pub those : (A → Bool) → List A → List A
  those p [] = []
  those p (x ∷ l) = cond (p x) (x ∷ those p l) (those p l)

  -- f 0, f 1, .. f (n - 1)
  abbrev pub table : ℕ → (ℕ → A) → List A
  table zero f = []
  table (suc n) f = table n f ++ (f n ∷ [])

-- 0, 1, .. n - 1
abbrev pub below : ℕ → List ℕ
below n = table n (λ i. i)

-- two rows are the same
abbrev pub same : List ℕ → List ℕ → Bool
same [] [] = true
same [] (y ∷ m) = false
same (x ∷ l) [] = false
same (x ∷ l) (y ∷ m) = eqb x y && same l m
