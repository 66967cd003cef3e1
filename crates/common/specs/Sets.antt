-- Sets of small numbers as numbers (document 01's set number, and its weights of roles and privileges).
use Rattle.std.specs.Prelude.{◌≡◌, Bool, ℕ, ◌/◌, ◌%◌, ◌^◌, eqb}

-- p is a member: the weight 2^p is in the number s
abbrev pub member : ℕ → ℕ → Bool
member p s = eqb ((s / 2 ^ p) % 2) 1

-- the same, as a statement (`SetLaws` `member_in`)
pub record In (p s : ℕ) : Type 0 where
  pub bit : s / 2 ^ p % 2 ≡ 1

-- the sets a and b have no member in common; each member of a is one of b
abbrev pub Apart : ℕ → ℕ → Type 0
Apart a b = (q : ℕ) → In q a → In q b → ⊥

abbrev pub Within : ℕ → ℕ → Type 0
Within a b = (q : ℕ) → In q a → In q b
