-- A set of principals that will do, in quantifiers: what demand 3 says of the book's sets, and document 02 (2026-01) of a ticket's.
use Rattle.std.specs.Prelude.{ℕ, ◌<◌, ◌≡◌, ◌≢◌, Bool, true, ◌||◌, List, [], ◌∷◌}
use Rattle.common.specs.Limits.{privilege_count}
use Rattle.common.specs.Lists.{at, any, same}
use Rattle.common.specs.Sets.{In}
use Rattle.closure.specs.Closure.{pairs_of}
use Rattle.policy.specs.declared.Record.{Record}
use Rattle.justification.specs.Justification.{demarcation_has, needs}

-- p and q are a pair of these columns, one way or the other
abbrev pub AmongPairs : ℕ → List ℕ → List ℕ → ℕ → ℕ → Type 0
AmongPairs n lows highs p q = (any (same (p ∷ q ∷ [])) (pairs_of n lows highs) || any (same (q ∷ p ∷ [])) (pairs_of n lows highs)) ≡ true

-- p and q are an excluded pair, one way or the other
abbrev pub excluded : Record → ℕ → ℕ → Type 0
excluded r p q = AmongPairs r.exclusion_count r.exclusion_lows r.exclusion_highs p q

-- the set c is consistent: no two members are an excluded pair; and with each member, all that it needs are members
pub record IsConsistent (r : Record) (c : ℕ) : Type 0 where
  pub apart : (p q : ℕ) → In p c → In q c → excluded r p q → ⊥
  pub whole : (q p : ℕ) → In q c → p < r.principal_count → needs r q p ≡ true → In p c

-- some member's demarcation has privilege k
pub record SomeHas (r : Record) (c k : ℕ) : Type 0 where
  pub giver : ℕ
  pub member : In giver c
  pub has : demarcation_has r (at r.principal_demarcations giver) k ≡ true

-- the members meet the guard of method m: "One-of needs at least one listed privilege; all-of needs every one."
pub record GuardMet (r : Record) (m c : ℕ) : Type 0 where
  pub one_of : at r.method_forms m ≡ 0 → (k : ℕ) × (k < privilege_count) × In k (at r.method_privileges m) × SomeHas r c k
  pub all_of : at r.method_forms m ≢ 0 → (k : ℕ) → k < privilege_count → In k (at r.method_privileges m) → SomeHas r c k

-- "every member is a principal and enabled"
abbrev pub AllEnabled : Record → (ℕ → Bool) → ℕ → Type 0
AllEnabled r enabled c = (p : ℕ) → In p c → (p < r.principal_count) × (enabled p ≡ true)

-- "every member is a principal and enabled, the set is consistent, and it meets the guard" of method m
pub record Satisfies (r : Record) (enabled : ℕ → Bool) (m c : ℕ) : Type 0 where
  pub grounds : AllEnabled r enabled c
  pub consistent : IsConsistent r c
  pub guard : GuardMet r m c
