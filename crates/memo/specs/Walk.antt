-- The steps of the two questions (document 01, "Questions and edits"), for any truth values of formulas: what evaluation enters
-- into the memo, the eager choice, the lazy walk over all candidates, and the same walk by searches that avoid what is known false.
use Rattle.std.specs.Prelude.{ℕ, zero, suc, Bool, not, cond, ◌&&◌, List, [], ◌∷◌}
use Rattle.std.proofs.Math.Option.{Option, none, some}
use Rattle.common.specs.Lists.{at, any}
use Rattle.policy.specs.declared.Record.{Record}
use Rattle.policy.specs.declared.Memo.{Memo}
use Rattle.justification.specs.Justification.{members, least}
use Rattle.memo.specs.declared.Tried.{Tried}
use Rattle.memo.specs.Memo.{known, value, evaluated}

-- principal p's own formula
abbrev pub formula_of : Record → ℕ → ℕ
formula_of r p = at r.principal_formulas p

-- ---- what a question comes to, with the memo as it then is

pub data Outcome : Type 0 where
  granted : ℕ → Memo → Outcome
  denied : Memo → Outcome

abbrev pub outcome : Memo → Option ℕ → Outcome
outcome after (some c) = granted c after
outcome after none = denied after

-- the set that was granted
abbrev pub chosen : Outcome → Option ℕ
chosen (granted c m) = some c
chosen (denied m) = none

-- the memo that is left
abbrev pub left : Outcome → Memo
left (granted c m) = m
left (denied m) = m

-- ---- eager: each principal in rising number has its formula evaluated unless known; then the least set of enabled principals

unfoldable pub evaluated_all : (ℕ → Bool) → Record → Memo → List ℕ → Memo
evaluated_all truth r m [] = m
evaluated_all truth r m (p ∷ ps) = evaluated_all truth r (evaluated truth m (formula_of r p)) ps

unfoldable pub eagerly : Record → ℕ → Memo → Outcome
eagerly r k after = outcome after (least r k (λ p. value after (formula_of r p)))

-- ---- lazy: what weighing a candidate comes to, with the memo as it then is

pub data Weighed : Type 0 where
  survives : Memo → Weighed
  ends : Memo → Weighed

-- the same of the code's answer
abbrev pub weighed_of : Tried → Weighed
weighed_of t = cond t.survives (survives t.memo) (ends t.memo)

-- members in rising number are evaluated unless known; the first that is not enabled ends the candidate
unfoldable pub tried : (ℕ → Bool) → Record → Memo → List ℕ → Weighed
tried truth r m [] = survives m
tried truth r m (p ∷ ps) =
    cond (value (evaluated truth m (formula_of r p)) (formula_of r p))
    (tried truth r (evaluated truth m (formula_of r p)) ps)
    (ends (evaluated truth m (formula_of r p)))

abbrev pub known_false : Record → Memo → ℕ → Bool
known_false r m p = known m (formula_of r p) && not (value m (formula_of r p))

-- a candidate with a member whose formula is known false is passed over
unfoldable pub weighed : (ℕ → Bool) → Record → Memo → List ℕ → Weighed
weighed truth r m ps = cond (any (known_false r m) ps) (ends m) (tried truth r m ps)

abbrev pub after_weighing : ℕ → Weighed → (Memo → Outcome) → Outcome
after_weighing c (survives m) next = granted c m
after_weighing c (ends m) next = next m

-- the first candidate that survives is the answer
unfoldable pub walk : (ℕ → Bool) → Record → Memo → List ℕ → Outcome
walk truth r m [] = denied m
walk truth r m (c ∷ cs) = after_weighing c (weighed truth r m (members r c)) (λ after. walk truth r after cs)

-- ---- the same by at most n searches: each finds the least candidate of method k without a principal that is known false

abbrev pub try_next : (ℕ → Bool) → Record → Memo → Option ℕ → (Memo → Outcome) → Outcome
try_next truth r m none next = denied m
try_next truth r m (some c) next = after_weighing c (tried truth r m (members r c)) next

unfoldable pub searching : ℕ → (ℕ → Bool) → Record → ℕ → Memo → Outcome
searching zero truth r k m = denied m
searching (suc n) truth r k m = try_next truth r m (least r k (λ p. not (known_false r m p))) (searching n truth r k)
