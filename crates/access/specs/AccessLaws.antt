-- The two questions answer the same, lazy by no more evaluations: of every record, with any memo.
use Rattle.std.specs.Prelude.{ℕ, ◌≤◌, ◌<◌, ◌≡◌, refl, Bool, not, cond, ◌&&◌, List, [], ◌∷◌, length, eqb}
use Rattle.std.proofs.Common.{sym, ◌∙◌, subst, arith, get_or-set_other}
use Rattle.std.proofs.Math.Path.{ap}
use Rattle.std.proofs.Math.Bool.{true, false}
use Rattle.std.proofs.lemmas.Bool.{false≢true}
use Rattle.std.proofs.Math.Decide.{ℕ_discrete}
use Rattle.std.proofs.Math.ListN.{length-set}
use Rattle.common.specs.Limits.{most_formulas}
use Rattle.common.specs.Lists.{those, below}
use Rattle.common.specs.BoolLaws.{and_cases, and_both}
use Rattle.policy.specs.declared.Record.{Record}
use Rattle.policy.specs.declared.Memo.{Memo}
use Rattle.policy.specs.Table.{with_memo}
use Rattle.justification.specs.Justification.{candidates}
use Rattle.justification.specs.declared.Question.{Question}
use Rattle.justification.specs.Predicates.{question_refusal}
use Rattle.memo.specs.Memo.{known, noted, evaluated, memo_for, newly}
use Rattle.memo.specs.Walk.{formula_of, Outcome, granted, denied, chosen, left, evaluated_all, eagerly, walk}
use Rattle.memo.specs.EvaluatedLaws.{in_place, evaluates, Reached, here, from, reached_same}
use Rattle.memo.specs.WalkLaws.{left_eagerly, eager_reached, eager_known, walk_reached, agree}
use Rattle.access.specs.Answers.{Answer}
use Rattle.access.specs.Access.{truth_at, answered, refused, asked, eager, lazy}

-- ---- both answer the same

pub record SameNumberAndSet (a b : Answer) : Type 0 where
  pub number : a.number ≡ b.number
  pub set : a.set ≡ b.set

answers : (r : Record) (k : Memo) (a b : Outcome) → chosen a ≡ chosen b → SameNumberAndSet (answered r k a) (answered r k b)
unfolding answered
answers r k (granted c m) (granted d n) e = record { number = refl; set = cc }
answers r k (granted c m) (denied n) e = let z : ◌≡◌ {A = ℕ} 0 1 = cc in absurd (omega arith)
answers r k (denied m) (granted d n) e = let z : ◌≡◌ {A = ℕ} 0 1 = cc in absurd (omega arith)
answers r k (denied m) (denied n) e = record { number = refl; set = refl }

-- refused or not
either_way : (r : Record) (n : ℕ) (x y : Answer) → SameNumberAndSet x y → SameNumberAndSet (asked r n x) (asked r n y)
either_way r n x y h = go (eqb n 0)
  where
    go : (b : Bool) → SameNumberAndSet (cond b x (refused n r)) (cond b y (refused n r))
    go true = h
    go false = record { number = refl; set = refl }

-- ---- lazy evaluates no more than eager

-- no more pass a test that is passed by fewer
fewer_those : (p q : ℕ → Bool) → ((x : ℕ) → p x ≡ true → q x ≡ true) → (l : List ℕ) → length (those p l) ≤ length (those q l)
fewer_those p q more [] = omega arith
fewer_those p q more (x ∷ l) = go (p x) (q x) (more x) (fewer_those p q more l)
  where
    go : (a b : Bool) → (a ≡ true → b ≡ true) → length (those p l) ≤ length (those q l)
        → length (cond a (x ∷ those p l) (those p l)) ≤ length (cond b (x ∷ those q l) (those q l))
    go true true f h = omega arith
    go true false f h = absurd (false≢true (f refl))
    go false true f h = omega arith
    go false false f h = h

newly_fewer : (k m n : Memo) → ((f : ℕ) → known m f ≡ true → known n f ≡ true) → newly k m ≤ newly k n
unfolding newly
newly_fewer k m n h =
    fewer_those (λ f. known m f && not (known k f)) (λ f. known n f && not (known k f))
    (λ f e. let (a, b) = and_cases (known m f) (not (known k f)) e in and_both (known n f) (not (known k f)) (h f a) b)
    (below most_formulas)

counted : (r : Record) (k : Memo) (a : Outcome) → (answered r k a).evaluations ≡ newly k (left a)
unfolding answered
counted r k (granted c m) = refl
counted r k (denied m) = refl

either_count : (r : Record) (n : ℕ) (x y : Answer) → x.evaluations ≤ y.evaluations → (asked r n x).evaluations ≤ (asked r n y).evaluations
either_count r n x y h = go (eqb n 0)
  where
    go : (b : Bool) → (cond b x (refused n r)).evaluations ≤ (cond b y (refused n r)).evaluations
    go true = h
    go false = omega arith

-- evaluations of principals' formulas make known only what passes q, if those with a place do
module _ (q : ℕ → Bool) (truth : ℕ → Bool) (r : Record) where
  abbrev Within : Memo → Type 0
  Within m = (f : ℕ) → known m f ≡ true → q f ≡ true

  evaluated_within : (m : Memo) (f : ℕ) → (f < length m.known → q f ≡ true) → Within m → Within (evaluated truth m f)
  unfolding evaluated
  evaluated_within m f e h g = go (known m f) (ℕ_discrete g f)
    where
      go : (b : Bool) → Dec (g ≡ f) → known (cond b m (noted m f (truth f))) g ≡ true → q g ≡ true
      go true d k = h g k
      go false (yes i) k = ap q i ∙ e (omega (arith, i, in_place (noted m f (truth f)).known g k, length-set m.known f true))
      go false (no i) k = h g (sym (get_or-set_other m.known f g true false i) ∙ k)

  reached_within : {n m : Memo} → Reached truth r n m
      → ((p : ℕ) → p < r.principal_count → formula_of r p < length m.known → q (formula_of r p) ≡ true) → Within m → Within n
  reached_within here a h = h
  reached_within {m = m} (from p l s) a h =
      reached_within s (λ g i w. a g i (omega (arith, (evaluates truth m (formula_of r p)).same.knowns)))
      (evaluated_within m (formula_of r p) (a p l) h)

-- ---- the count

-- the number of formulas known in the memo left and not known before
abbrev Counts : Memo → Answer → Type 0
Counts before a = a.evaluations ≡ newly before a.rules.memo

answered_counts : (r : Record) (k : Memo) (a : Outcome) → Counts k (answered r k a)
unfolding answered with_memo
answered_counts r k (granted c m) = refl
answered_counts r k (denied m) = refl

not_refused : (r : Record) (k : Memo) {n : ℕ} → n ≡ 0 → (a : Answer) → Counts k a → Counts k (asked r n a)
not_refused r k e a h = subst (λ (n : ℕ). Counts k (asked r n a)) (sym e) h

-- ---- of every record and question

module _ (r : Record) (q : Question) where
  abbrev before : Memo
  before = memo_for r.memo q

  abbrev after : Memo
  after = evaluated_all (truth_at r q) r before (below r.principal_count)

  abbrev walked : Outcome
  walked = walk (truth_at r q) r before (candidates r q.method)

  -- the evaluations are the documents' count: before is counted after the emptying
  pub eager_counts : question_refusal r q ≡ 0 → (eager r q).evaluations ≡ newly (memo_for r.memo q) (eager r q).rules.memo
  unfolding eager
  eager_counts e = not_refused r before e _ (answered_counts r before (eagerly r q.method after))

  pub lazy_counts : question_refusal r q ≡ 0 → (lazy r q).evaluations ≡ newly (memo_for r.memo q) (lazy r q).rules.memo
  unfolding lazy
  lazy_counts e = not_refused r before e _ (answered_counts r before walked)

  -- FROM EQUAL RECORDS both forms return the same number and set
  pub same_always : SameNumberAndSet (eager r q) (lazy r q)
  unfolding eager lazy
  same_always =
      either_way r (question_refusal r q) _ _
      (answers r before (eagerly r q.method after) walked (agree (truth_at r q) r q.method before))

  -- and the lazy form at most as many evaluations
  pub lazy_at_most : (lazy r q).evaluations ≤ (eager r q).evaluations
  unfolding eager lazy
  lazy_at_most =
      either_count r (question_refusal r q) _ _
      (rw (counted r before walked, counted r before (eagerly r q.method after), left_eagerly r q.method after)
      (newly_fewer before (left walked) after
      (reached_within (known after) (truth_at r q) r (walk_reached (truth_at r q) r (candidates r q.method) before)
      (eager_known (truth_at r q) r before) (reached_same (truth_at r q) r (eager_reached (truth_at r q) r before)).keeps)))
