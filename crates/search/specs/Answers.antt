-- What a search answers, in document 01's words.
use Rattle.std.specs.Prelude.{◌≡◌, ℕ, Option, Some, None}
use Rattle.common.specs.Refusals.{no_set}

-- document 01's number and set
pub record FoundValues : Type 0 where
  pub number : ℕ
  pub set : ℕ

-- "With none, the question is denied: number 17, empty set. Otherwise it is granted: number 0 and the least of them."
abbrev pub granted : ℕ → FoundValues
granted s = record { number = 0; set = s }

abbrev pub denied : FoundValues
denied = record { number = no_set; set = 0 }

-- of each case of an answer
abbrev pub found_values : Option ℕ → FoundValues
found_values (Some s) = granted s
found_values None = denied

-- what a number and set say: granted, with a set of which P holds; or denied, and Q holds
pub data GrantedOrDenied (P : ℕ → Type 0) (Q : Type 0) (a : FoundValues) : Type 0 where
  grants : (s : ℕ) → a ≡ granted s → P s → GrantedOrDenied P Q a
  denies : a ≡ denied → Q → GrantedOrDenied P Q a
