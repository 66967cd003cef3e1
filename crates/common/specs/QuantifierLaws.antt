-- Quantifiers over a table, and over those numbers below n that pass, as statements.
use Rattle.std.specs.Prelude.{ℕ, zero, suc, ◌<◌, ◌≡◌, refl, ◌↔◌, Bool, true, false, not, cond, ◌&&◌, ◌||◌, List, [], ◌∷◌}
use Rattle.std.proofs.Common.{sym, ◌∙◌, ap, subst, ⊎_elim, arith}
use Rattle.std.proofs.lemmas.Bool.{false≢true}
use Rattle.std.proofs.Math.Decide.{dec_lt}
use Rattle.common.specs.Lists.{any, every, those, table, below}
use Rattle.common.specs.ListLaws.{any_more, every_more, every_at, length_table, table_at}
use Rattle.common.specs.BoolLaws.{and_cases, and_both, or_cases, or_left, or_right}

module _ {A : Type 0} (p : A → Bool) (f : ℕ → A) where
  pub any_table : (n : ℕ) → any p (table n f) ≡ true → (i : ℕ) × (i < n) × (p (f i) ≡ true)
  any_table zero e = absurd (false≢true e)
  any_table (suc n) e =
      ⊎_elim
      (λ x. let (i, l, t) = any_table n x in (i, omega arith, t))
      (λ x. (n, omega arith, x))
      (or_cases (any p (table n f)) (p (f n)) (sym (any_more p n f) ∙ e))

  pub table_any : (n i : ℕ) → i < n → p (f i) ≡ true → any p (table n f) ≡ true
  table_any zero i l e = absurd (omega arith)
  table_any (suc n) i l e = any_more p n f ∙ elim (dec_lt i n) [
    | yes h ↦ or_left (any p (table n f)) (p (f n)) (table_any n i h e)
    | no h ↦ or_right (any p (table n f)) (p (f n)) (let j : i ≡ n = omega arith in subst (λ (k : ℕ). p (f k) ≡ true) j e)
  ]

  pub every_table : (n : ℕ) → every p (table n f) ≡ true → (i : ℕ) → i < n → p (f i) ≡ true
  every_table n e i l =
      subst (λ (x : A). p x ≡ true) (table_at n f i (f i) l)
      (every_at p (table n f) i (f i) e (subst (λ (k : ℕ). i < k) (sym (length_table n f)) l))

  pub table_every : (n : ℕ) → ((i : ℕ) → i < n → p (f i) ≡ true) → every p (table n f) ≡ true
  table_every zero h = refl
  table_every (suc n) h =
      every_more p n f ∙ and_both (every p (table n f)) (p (f n)) (table_every n (λ i l. h i (omega arith))) (h n (omega arith))

pub implied : (x y : Bool) → (not x || y ≡ true ↔ (x ≡ true → y ≡ true))
implied true y = (λ e t. e, λ h. h refl)
implied false y = (λ e t. absurd (false≢true t), λ h. refl)

module _ (p q : ℕ → Bool) where
  pub any_those : (l : List ℕ) → any p (those q l) ≡ any (λ x. q x && p x) l
  any_those [] = refl
  any_those (x ∷ l) = go (q x) (any_those l)
    where
      go : (b : Bool) → any p (those q l) ≡ any (λ y. q y && p y) l
          → any p (cond b (x ∷ those q l) (those q l)) ≡ ((b && p x) || any (λ y. q y && p y) l)
      go true e = ap (λ (t : Bool). p x || t) e
      go false e = e

  pub every_those : (l : List ℕ) → every p (those q l) ≡ every (λ x. not (q x) || p x) l
  every_those [] = refl
  every_those (x ∷ l) = go (q x) (every_those l)
    where
      go : (b : Bool) → every p (those q l) ≡ every (λ y. not (q y) || p y) l
          → every p (cond b (x ∷ those q l) (those q l)) ≡ ((not b || p x) && every (λ y. not (q y) || p y) l)
      go true e = ap (λ (t : Bool). p x && t) e
      go false e = e

  pub some_of : (n : ℕ) → (any p (those q (below n)) ≡ true ↔ ((i : ℕ) × (i < n) × (q i ≡ true) × (p i ≡ true)))
  some_of n = (
    λ e. let (i, l, t) =
        any_table (λ x. q x && p x) (λ x. x) n (sym (any_those (below n)) ∙ e) in let (u, v) = and_cases (q i) (p i) t in (i, l, u, v),
    λ (i, l, t, u). any_those (below n) ∙ table_any (λ x. q x && p x) (λ x. x) n i l (and_both (q i) (p i) t u),
  )

  pub all_of_lem : (n : ℕ) → (every p (those q (below n)) ≡ true ↔ ((i : ℕ) → i < n → q i ≡ true → p i ≡ true))
  all_of_lem n = (
    λ e i l t. (implied (q i) (p i)).0 (every_table (λ x. not (q x) || p x) (λ x. x) n (sym (every_those (below n)) ∙ e) i l) t,
    λ h. every_those (below n) ∙ table_every (λ x. not (q x) || p x) (λ x. x) n (λ i l. (implied (q i) (p i)).1 (h i l)),
  )
