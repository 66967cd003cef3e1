-- Grounds and guards (document 01; definitions 5 to 9 of the model): privileges, consistent sets, guards, and the least set that will do.
-- A principal is what document 01 also calls a ground. A set of principals is its set number, the sum of 2^p over its members.
use Rattle.std.specs.Prelude.{ℕ, zero, suc, ◌+◌, ◌^◌, Bool, not, cond, ◌&&◌, List, [], ◌∷◌, ◌++◌, map, eqb, length}
use Rattle.std.proofs.Math.Option.{Option, none, some}
use Rattle.common.specs.Limits.{privilege_count}
use Rattle.common.specs.Lists.{at, any, every, those, below}
use Rattle.common.specs.Sets.{member}
use Rattle.closure.specs.Closure.{reaches}
use Rattle.policy.specs.declared.Record.{Record}
use Rattle.policy.specs.Table.{hierarchy, exclusion, prerequisite, rows}

-- the principals that are members of the set c, in rising number
abbrev pub members : Record → ℕ → List ℕ
members r c = those (λ p. member p c) (below r.principal_count)

-- demarcation e is d, or below it
abbrev pub inferior : Record → ℕ → ℕ → Bool
inferior r e d = reaches (rows hierarchy r) e d

-- demarcation d has privilege k: it is, or is above, one that lists k
unfoldable pub demarcation_has : Record → ℕ → ℕ → Bool
demarcation_has r d k = any (λ e. inferior r e d && member k (at r.demarcation_privileges e)) (below r.demarcation_count)

-- principals ps have privilege k: the demarcation of some of them has
unfoldable pub have : Record → List ℕ → ℕ → Bool
have r ps k = any (λ p. demarcation_has r (at r.principal_demarcations p) k) ps

-- the privileges that method m lists
abbrev pub listed : Record → ℕ → List ℕ
listed r m = those (λ k. member k (at r.method_privileges m)) (below privilege_count)

-- principals ps meet the guard of method m: one-of (form 0) needs at least one listed privilege, all-of every one
unfoldable pub meets : Record → ℕ → List ℕ → Bool
meets r m ps = cond (eqb (at r.method_forms m) 0) (any (have r ps) (listed r m)) (every (have r ps) (listed r m))

-- q needs p
abbrev pub needs : Record → ℕ → ℕ → Bool
needs r q p = reaches (rows prerequisite r) p q

-- no excluded pair; and, with each member, all that member's prerequisites
unfoldable pub consistent : Record → ℕ → Bool
consistent r c =
    every (λ e. not (member (at e 0) c && member (at e 1) c)) (rows exclusion r)
    && every (λ q. every (λ p. member p c) (those (needs r q) (below r.principal_count))) (members r c)

-- ---- role principals: "role principals (formula of op 3)" (2026-06)

-- principal p is one: its own formula is of op 3
abbrev pub is_role_principal : Record → ℕ → Bool
is_role_principal r p = eqb (at r.formula_ops (at r.principal_formulas p)) 3

-- how many members of the set c are role principals
abbrev pub role_count : Record → ℕ → ℕ
role_count r c = length (those (is_role_principal r) (members r c))

-- ---- all sets, least first: fewest members, then fewest role principals, then smallest set number. `count` says how many members of a
-- set are role principals

-- all sets of k principals below n, by rising number: those without n - 1, then those with it
abbrev pub sets : ℕ → ℕ → List ℕ
sets zero zero = 0 ∷ []
sets zero (suc k) = []
sets (suc n) zero = 0 ∷ []
sets (suc n) (suc k) = sets n (suc k) ++ map (λ c. c + 2 ^ n) (sets n k)

-- the sets of a list that have fewer than j role principals: those with none, then those with one, and so on
abbrev pub by_role_count : (ℕ → ℕ) → List ℕ → ℕ → List ℕ
by_role_count count l zero = []
by_role_count count l (suc j) = by_role_count count l j ++ those (λ c. eqb (count c) j) l

-- all sets of fewer than k principals below n, by size
abbrev pub by_size : (ℕ → ℕ) → ℕ → ℕ → List ℕ
by_size count n zero = []
by_size count n (suc k) = by_size count n k ++ by_role_count count (sets n k) (suc k)

unfoldable pub all_sets : (ℕ → ℕ) → ℕ → List ℕ
all_sets count n = by_size count n (suc n)

-- the first element that passes
abbrev pub first_among : (ℕ → Bool) → List ℕ → Option ℕ
first_among p [] = none
first_among p (x ∷ l) = cond (p x) (some x) (first_among p l)

-- the consistent sets that meet the guard of m, from all principals, least first
unfoldable pub candidates : Record → ℕ → List ℕ
candidates r m = those (λ c. consistent r c && meets r m (members r c)) (all_sets (role_count r) r.principal_count)

-- the least of them whose members all pass
unfoldable pub least : Record → ℕ → (ℕ → Bool) → Option ℕ
least r m passes = first_among (λ c. every passes (members r c)) (candidates r m)
