-- What the least set of principals is, for the search: the constraints and privileges of each principal as sets, sets as numbers.
-- `justification` says what these sets are for a record, and that the answer is then that of document 01.
use Rattle.std.specs.Prelude.{◌≡◌, ℕ, ◌^◌, ◌<◌, ◌≤◌, Bool, true, false, bit_and, count_ones}
use Rattle.common.specs.Lists.{at}
use Rattle.common.specs.Sets.{In, Apart, Within}
use Rattle.search.specs.declared.Masks.{Masks}
use Rattle.search.specs.Answers.{FoundValues, GrantedOrDenied}

-- p is consistent in the set s: p excludes no member, and all that p needs are members
pub record ConsistentIn (r : Masks) (s p : ℕ) : Type 0 where
  pub apart : Apart s (at r.excludes p)
  pub whole : Within (at r.needs p) s

-- a consistent set, whether its members are allowed or not
abbrev pub Consistent : Masks → ℕ → Type 0
Consistent r s = (p : ℕ) → In p s → ConsistentIn r s p

-- some member of s gives the privilege k
pub record Given (r : Masks) (s k : ℕ) : Type 0 where
  pub giver : ℕ
  pub member : In giver s
  pub gives : In k (at r.grants giver)

-- the guard is met: every wanted privilege is given, or some wanted privilege is
abbrev pub Met : Bool → Masks → ℕ → Type 0
Met true r s = (k : ℕ) → In k r.wanted → Given r s k
Met false r s = (k : ℕ) × In k r.wanted × Given r s k

-- a consistent set of allowed principals that meets the guard
pub record Candidate (r : Masks) (s : ℕ) : Type 0 where
  pub inside : s < 2 ^ r.count
  pub allowed : Within s r.allowed
  pub consistent : Consistent r s
  pub met : Met r.every r s

-- The order of sets: s comes before t, or is t. "Least: fewest members", and "Among satisfying sets with equally few members, the one with
-- fewer role principals (formula of op 3) now comes first, and then the smaller set number" (2026-06). `role_count` says how many members
-- of a set are role principals.
pub data Before (role_count : ℕ → ℕ) (s t : ℕ) : Type 0 where
  by_members : count_ones s < count_ones t → Before role_count s t
  by_roles : count_ones s ≡ count_ones t → role_count s < role_count t → Before role_count s t
  by_number : count_ones s ≡ count_ones t → role_count s ≡ role_count t → s ≤ t → Before role_count s t

-- how many members of s are role principals
abbrev pub role_count_in : Masks → ℕ → ℕ
role_count_in r s = count_ones (bit_and s r.role_principals)

-- s is the least candidate; there is none
pub record LeastCandidate (r : Masks) (s : ℕ) : Type 0 where
  pub candidate : Candidate r s
  pub first : (t : ℕ) → Candidate r t → Before (role_count_in r) s t

abbrev pub NoCandidate : Masks → Type 0
NoCandidate r = (t : ℕ) → Candidate r t → ⊥

-- the number and set of an answer are those of the least candidate, or of none
abbrev pub Least : Masks → FoundValues → Type 0
Least r a = GrantedOrDenied (LeastCandidate r) (NoCandidate r) a
