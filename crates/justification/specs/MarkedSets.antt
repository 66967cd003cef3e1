-- Sets of small numbers by a test, and what the functions below the public ones say to each other.
use Rattle.std.specs.Prelude.{ℕ, ◌<◌, ◌≡◌, Bool, true, false, ◌⊎◌}
use Rattle.common.specs.Sets.{In}

-- s is the set of the numbers below n that pass
pub record Marks (n : ℕ) (passes : ℕ → Bool) (s : ℕ) : Type 0 where
  pub only : (p : ℕ) → In p s → (p < n) × (passes p ≡ true)
  pub all : (p : ℕ) → p < n → passes p ≡ true → In p s

-- s is the set of the numbers below n of which P holds
pub record Those (n : ℕ) (P : ℕ → Type 0) (s : ℕ) : Type 0 where
  pub only : (p : ℕ) → In p s → (p < n) × P p
  pub all : (p : ℕ) → p < n → P p → In p s

-- s is the set of the numbers below n that pass, where `answers p b` says that a test may answer b at p
pub record SetOf (answers : ℕ → Bool → Type 0) (n s : ℕ) : Type 0 where
  pub only : (p : ℕ) → In p s → (p < n) × answers p true
  pub all : (p : ℕ) → p < n → In p s ⊎ answers p false
