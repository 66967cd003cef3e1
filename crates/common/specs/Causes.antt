-- The causes of a refusal, in the order in which they are tried.
use Rattle.std.specs.Prelude.{Bool, cond, List, [], ◌∷◌, ℕ}

-- a refusal's number, and whether its cause is there
pub data Cause : Type 0 where
  cause : ℕ → Bool → Cause

-- the number of the first cause that is there; 0 where none is
abbrev pub first : List Cause → ℕ
first [] = 0
first (cause k b ∷ l) = cond b k (first l)
