-- Lists of numbers: what holds of every number of a list, the first that passes a test, and how many fail one.
use Rattle.std.specs.Prelude.{ℕ, zero, suc, ◌≤◌, ◌<◌, ◌≡◌, refl, Bool, true, false, not, cond, ◌&&◌, ◌||◌, List, [], ◌∷◌, ◌++◌, length}
use Rattle.std.proofs.Common.{sym, subst, ⊎_elim, arith}
use Rattle.std.proofs.lemmas.Bool.{false≢true}
use Rattle.std.proofs.Math.Option.{Option, none, some}
use Rattle.std.proofs.Math.Decide.{ℕ_discrete}
use Rattle.common.specs.Lists.{any, every, those, below}
use Rattle.common.specs.BoolLaws.{and_cases, and_both, or_cases, or_left, or_right}
use Rattle.justification.specs.Justification.{first_among}

-- P holds of every number of the list
abbrev pub All : (ℕ → Type 0) → List ℕ → Type 0
All P [] = Unit {0}
All P (x ∷ l) = P x × All P l

pub all_those : (P : ℕ → Type 0) (q : ℕ → Bool) (l : List ℕ) → All P l → All P (those q l)
all_those P q [] a = tt
all_those P q (x ∷ l) a = go (q x) (all_those P q l a.1)
  where
    go : (b : Bool) → All P (those q l) → All P (cond b (x ∷ those q l) (those q l))
    go true h = (a.0, h)
    go false h = h

pub all_of_lem : (P : ℕ → Type 0) (l : List ℕ) → ((x : ℕ) → P x) → All P l
all_of_lem P [] f = tt
all_of_lem P (x ∷ l) f = (f x, all_of_lem P l f)

pub all_map : (P Q : ℕ → Type 0) (l : List ℕ) → ((x : ℕ) → P x → Q x) → All P l → All Q l
all_map P Q [] f a = tt
all_map P Q (x ∷ l) f a = (f x a.0, all_map P Q l f a.1)

pub all_append : (P : ℕ → Type 0) (l m : List ℕ) → All P l → All P m → All P (l ++ m)
all_append P [] m a b = b
all_append P (x ∷ l) m a b = (a.0, all_append P l m a.1 b)

pub all_below : (P : ℕ → Type 0) (n : ℕ) → ((i : ℕ) → i < n → P i) → All P (below n)
all_below P zero h = tt
all_below P (suc n) h = all_append P (below n) (n ∷ []) (all_below P n (λ i l. h i (omega arith))) (h n (omega arith), tt)

all_first : (P : ℕ → Type 0) (l m : List ℕ) → All P (l ++ m) → All P l × All P m
all_first P [] m a = (tt, a)
all_first P (x ∷ l) m a = let (f, s) = all_first P l m a.1 in ((a.0, f), s)

pub below_all : (P : ℕ → Type 0) (n : ℕ) → All P (below n) → (i : ℕ) → i < n → P i
below_all P zero a i l = absurd (omega arith)
below_all P (suc n) a i l = go (ℕ_discrete i n) (below_all P n (all_first P (below n) (n ∷ []) a).0 i)
  where
    go : Dec (i ≡ n) → (i < n → P i) → P i
    go (yes e) h = subst P (sym e) (all_first P (below n) (n ∷ []) a).1.0
    go (no e) h = h (omega arith)

pub every_ext : (p q : ℕ → Bool) (l : List ℕ) → All (λ x. p x ≡ q x) l → every p l ≡ every q l
every_ext p q [] h = refl
every_ext p q (x ∷ l) h = rw (h.0, every_ext p q l h.1)

pub first_ext : (p q : ℕ → Bool) (l : List ℕ) → ((x : ℕ) → p x ≡ q x) → first_among p l ≡ first_among q l
first_ext p q [] h = refl
first_ext p q (x ∷ l) h = rw (h x, first_ext p q l h)

-- what `first_among` finds passes
abbrev pub Passing : (ℕ → Bool) → Option ℕ → Type 0
Passing p none = Unit {0}
Passing p (some c) = p c ≡ true

pub first_passes : (p : ℕ → Bool) (l : List ℕ) → Passing p (first_among p l)
first_passes p [] = tt
first_passes p (x ∷ l) = go (p x) refl (first_passes p l)
  where
    go : (b : Bool) → p x ≡ b → Passing p (first_among p l) → Passing p (cond b (some x) (first_among p l))
    go true e h = e
    go false e h = h

pub every_not : (p : ℕ → Bool) (l : List ℕ) → every (λ x. not (p x)) l ≡ not (any p l)
every_not p [] = refl
every_not p (x ∷ l) = go (p x) (every_not p l)
  where
    go : (b : Bool) → every (λ y. not (p y)) l ≡ not (any p l) → not b && every (λ y. not (p y)) l ≡ not (b || any p l)
    go true e = refl
    go false e = e

pub any_map : (p q : ℕ → Bool) (l : List ℕ) → ((x : ℕ) → p x ≡ true → q x ≡ true) → any p l ≡ true → any q l ≡ true
any_map p q [] f e = e
any_map p q (x ∷ l) f e = ⊎_elim (λ h. or_left (q x) _ (f x h)) (λ h. or_right (q x) _ (any_map p q l f h)) (or_cases (p x) _ e)

pub any_part : (p q : ℕ → Bool) (l : List ℕ) → any p (those q l) ≡ true → any p l ≡ true
any_part p q [] e = e
any_part p q (x ∷ l) e = go (q x) e (any_part p q l)
  where
    go : (b : Bool) → any p (cond b (x ∷ those q l) (those q l)) ≡ true → (any p (those q l) ≡ true → any p l ≡ true)
        → p x || any p l ≡ true
    go true d ih = ⊎_elim (λ h. or_left (p x) _ h) (λ h. or_right (p x) _ (ih h)) (or_cases (p x) _ d)
    go false d ih = or_right (p x) _ (ih d)

-- of a list whose elements all pass p, some passes q: it passes both
pub any_both : (p q : ℕ → Bool) (l : List ℕ) → every p l ≡ true → any q l ≡ true → any (λ x. p x && q x) l ≡ true
any_both p q [] e d = d
any_both p q (x ∷ l) e d =
    let (t, u) = and_cases (p x) _ e in
    ⊎_elim (λ h. or_left (p x && q x) _ (and_both (p x) (q x) t h)) (λ h. or_right (p x && q x) _ (any_both p q l u h)) (or_cases (q x) _ d)

-- how many fail p
abbrev pub lacking : (ℕ → Bool) → List ℕ → ℕ
lacking p l = length (those (λ x. not (p x)) l)

-- the same of x ∷ l, where b is what x passes
abbrev lacking_with : Bool → (ℕ → Bool) → ℕ → List ℕ → ℕ
lacking_with b p x l = length (cond (not b) (x ∷ those (λ y. not (p y)) l) (those (λ y. not (p y)) l))

pub lacking_length : (p : ℕ → Bool) (l : List ℕ) → lacking p l ≤ length l
lacking_length p [] = omega arith
lacking_length p (x ∷ l) = go (p x) (lacking_length p l)
  where
    go : (b : Bool) → lacking p l ≤ length l → lacking_with b p x l ≤ suc (length l)
    go true h = omega arith
    go false h = omega arith

module _ (p q : ℕ → Bool) (more : (x : ℕ) → p x ≡ true → q x ≡ true) where
  no_more : (l : List ℕ) → lacking q l ≤ lacking p l
  no_more [] = omega arith
  no_more (x ∷ l) = go (p x) (q x) (more x) (no_more l)
    where
      go : (a b : Bool) → (a ≡ true → b ≡ true) → lacking q l ≤ lacking p l → lacking_with b q x l ≤ lacking_with a p x l
      go true true f h = h
      go true false f h = absurd (false≢true (f refl))
      go false true f h = omega arith
      go false false f h = omega arith

  -- fewer fail a test that is passed by more
  pub fewer : (l : List ℕ) → any (λ x. not (p x) && q x) l ≡ true → lacking q l < lacking p l
  fewer [] e = absurd (false≢true e)
  fewer (x ∷ l) e = go (p x) (q x) (more x) e (fewer l) (no_more l)
    where
      go : (a b : Bool) → (a ≡ true → b ≡ true) → (not a && b) || any (λ y. not (p y) && q y) l ≡ true
          → (any (λ y. not (p y) && q y) l ≡ true → lacking q l < lacking p l) → lacking q l ≤ lacking p l
          → lacking_with b q x l < lacking_with a p x l
      go true true f d ih h = ih d
      go true false f d ih h = absurd (false≢true (f refl))
      go false true f d ih h = omega arith
      go false false f d ih h = let k = ih d in omega arith
