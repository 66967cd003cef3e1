-- The order of sets of principals, by quantifiers: what it is to be the least of those that pass.
use Rattle.std.specs.Prelude.{ℕ, ◌^◌, ◌<◌, ◌≡◌, Bool, true}
use Rattle.std.proofs.Math.Option.{Option, none, some}
use Rattle.search.specs.Search.{Before}

-- o is the least set of principals below n that passes, or there is none; `count` says how many members of a set are role principals
abbrev pub IsLeast : (ℕ → ℕ) → ℕ → (ℕ → Bool) → Option ℕ → Type 0
IsLeast count n p none = (y : ℕ) → y < 2 ^ n → p y ≡ true → ⊥
IsLeast count n p (some c) = (c < 2 ^ n) × (p c ≡ true) × ((y : ℕ) → y < 2 ^ n → p y ≡ true → Before count c y)
