-- The closure fact, for any list of pairs: `reaches` is the reflexive and transitive closure, and `circular` finds its circles.
-- With it, lists of pairs that are joined, and what the code's closure of a relation says that agrees with a list of pairs.
use Rattle.std.specs.Prelude.{ℕ, ◌+◌, ◌<◌, ◌≡◌, refl, ◌⊎◌, ◌↔◌, ◌≢◌, Bool, true, ◌&&◌, List, [], ◌∷◌, ◌++◌}
use Rattle.std.proofs.Common.{sym, ◌∙◌, subst, subst₂, add-one, eqb-true, eq-eqb}
use Rattle.std.proofs.Math.Logic.{inl, inr, ⊎_elim}
use Rattle.std.proofs.lemmas.Bool.{false≢true}
use Rattle.common.specs.Lists.{at, any}
use Rattle.common.specs.BoolLaws.{and_cases, and_both, or_cases, or_left, or_right}
use Rattle.closure.specs.Closure.{Rel, Star, here, step, Circle, Below, Closes, pairs_of, Listed, reaches, circular}

-- ---- of any relation

pub star_map : {R S : Rel} → ((i j : ℕ) → R i j → S i j) → {i j : ℕ} → Star R i j → Star S i j
star_map f here = here
star_map f (step r p) = step (f _ _ r) (star_map f p)

pub star_trans : {R : Rel} {i j k : ℕ} → Star R i j → Star R j k → Star R i k
star_trans here q = q
star_trans (step r p) q = step r (star_trans p q)

pub star_one : {R : Rel} {i j : ℕ} → R i j → Star R i j
star_one r = step r here

-- ---- of a list of pairs

pub listed_append : (ps qs : List (List ℕ)) (i j : ℕ) → (Listed (ps ++ qs) i j ↔ (Listed ps i j ⊎ Listed qs i j))
listed_append [] qs i j = (λ l. inr l, ⊎_elim (λ l. absurd l) (λ l. l))
listed_append (p ∷ ps) qs i j =
    let e = listed_append ps qs i j in (
      ⊎_elim (λ h. inl (inl h)) (λ l. ⊎_elim (λ x. inl (inr x)) (λ x. inr x) (e.0 l)),
      ⊎_elim (⊎_elim (λ h. inl h) (λ x. inr (e.1 (inl x)))) (λ x. inr (e.1 (inr x))),
    )

-- one pair more, as a loop goes
pub pairs_more : (n : ℕ) (firsts seconds : List ℕ) (i j : ℕ)
    → (Listed (pairs_of (n + 1) firsts seconds) i j ↔ (Listed (pairs_of n firsts seconds) i j ⊎ ((at firsts n ≡ i) × (at seconds n ≡ j))))
pairs_more n firsts seconds i j =
    let e = listed_append (pairs_of n firsts seconds) ((at firsts n ∷ at seconds n ∷ []) ∷ []) i j in
    rw add-one (
      λ l. ⊎_elim (λ x. inl x) (⊎_elim (λ x. inr x) (λ x. absurd x)) (e.0 l),
      ⊎_elim (λ x. e.1 (inl x)) (λ x. e.1 (inr (inl x))),
    )

abbrev To : List (List ℕ) → Rel
To ps i j = reaches ps i j ≡ true

reaches_self : (ps : List (List ℕ)) (i : ℕ) → To ps i i
unfolding reaches
reaches_self [] i = eq-eqb i i refl
reaches_self (p ∷ ps) i = or_left _ _ (reaches_self ps i)

module _ (p : List ℕ) (ps : List (List ℕ)) (i j : ℕ) where
  -- with the first pair: without it, or along it
  split : To (p ∷ ps) i j → To ps i j ⊎ (To ps i (at p 0) × To ps (at p 1) j)
  unfolding reaches
  split e = ⊎_elim (λ x. inl x) (λ y. inr (and_cases _ _ y)) (or_cases (reaches ps i j) (reaches ps i (at p 0) && reaches ps (at p 1) j) e)

  without : To ps i j → To (p ∷ ps) i j
  unfolding reaches
  without e = or_left _ _ e

  along : To ps i (at p 0) → To ps (at p 1) j → To (p ∷ ps) i j
  unfolding reaches
  along e f = or_right (reaches ps i j) _ (and_both _ _ e f)

reaches_trans : (ps : List (List ℕ)) (i j k : ℕ) → To ps i j → To ps j k → To ps i k
unfolding reaches
reaches_trans [] i j k e f = eq-eqb i k (eqb-true i j e ∙ eqb-true j k f)
reaches_trans (p ∷ ps) i j k e f =
    ⊎_elim
    (λ x. ⊎_elim
    (λ y. without p ps i k (reaches_trans ps i j k x y))
    (λ y. along p ps i k (reaches_trans ps i j (at p 0) x y.0) y.1)
    (split p ps j k f))
    (λ x. ⊎_elim
    (λ y. along p ps i k x.0 (reaches_trans ps (at p 1) j k x.1 y))
    (λ y. along p ps i k x.0 y.1)
    (split p ps j k f))
    (split p ps i j e)

listed_reaches : (ps : List (List ℕ)) (i j : ℕ) → Listed ps i j → To ps i j
listed_reaches [] i j e = absurd e
listed_reaches (p ∷ ps) i j (inl e) =
    subst₂ (To (p ∷ ps)) e.0 e.1 (along p ps _ _ (reaches_self ps (at p 0)) (reaches_self ps (at p 1)))
listed_reaches (p ∷ ps) i j (inr e) = without p ps i j (listed_reaches ps i j e)

complete : (ps : List (List ℕ)) {i j : ℕ} → Star (Listed ps) i j → To ps i j
complete ps here = reaches_self ps _
complete ps (step {i} {j} {k} l s) = reaches_trans ps i j k (listed_reaches ps i j l) (complete ps s)

sound : (ps : List (List ℕ)) (i j : ℕ) → To ps i j → Star (Listed ps) i j
unfolding reaches
sound [] i j e = subst (λ (n : ℕ). Star (Listed []) i n) (eqb-true i j e) here
sound (p ∷ ps) i j e =
    ⊎_elim
    (λ x. more (sound ps i j x))
    (λ x. star_trans (more (sound ps i (at p 0) x.0)) (step (inl (refl, refl)) (more (sound ps (at p 1) j x.1))))
    (split p ps i j e)
  where
    more : {a b : ℕ} → Star (Listed ps) a b → Star (Listed (p ∷ ps)) a b
    more s = star_map (λ x y l. inr l) s

-- THE CLOSURE FACT
pub closure_of_pairs : (ps : List (List ℕ)) (i j : ℕ) → (reaches ps i j ≡ true ↔ Star (Listed ps) i j)
closure_of_pairs ps i j = (sound ps i j, complete ps)

-- a test of a pair's end and start is passed by some pair of the list
module _ (f : ℕ → ℕ → Bool) where
  any_listed : (ps : List (List ℕ)) → any (λ p. f (at p 1) (at p 0)) ps ≡ true → (i : ℕ) × (j : ℕ) × Listed ps i j × (f j i ≡ true)
  any_listed [] e = absurd (false≢true e)
  any_listed (p ∷ ps) e =
      ⊎_elim
      (λ x. (at p 0, at p 1, inl (refl, refl), x))
      (λ x. let (i, j, l, y) = any_listed ps x in (i, j, inr l, y))
      (or_cases (f (at p 1) (at p 0)) (any (λ p. f (at p 1) (at p 0)) ps) e)

  listed_any : (ps : List (List ℕ)) (i j : ℕ) → Listed ps i j → f j i ≡ true → any (λ p. f (at p 1) (at p 0)) ps ≡ true
  listed_any [] i j l e = absurd l
  listed_any (p ∷ ps) i j (inl l) e = or_left _ _ (subst₂ (λ (a b : ℕ). f b a ≡ true) (sym l.0) (sym l.1) e)
  listed_any (p ∷ ps) i j (inr l) e = or_right (f (at p 1) (at p 0)) _ (listed_any ps i j l e)

-- a circle is there exactly when two different things reach each other, where no pair names one thing twice
pub circle_of_pairs : (ps : List (List ℕ)) → ((i : ℕ) → Listed ps i i → ⊥) → (circular ps ≡ true ↔ Circle (Star (Listed ps)))
unfolding circular
circle_of_pairs ps proper = (there, λ (i, j, ne, p, q). back ne p q)
  where
    there : circular ps ≡ true → Circle (Star (Listed ps))
    there e =
        let (i, j, l, r) = any_listed (reaches ps) ps e in
        let apart : i ≢ j = λ same. proper i (subst (Listed ps i) (sym same) l) in
        (i, j, apart, star_one l, sound ps j i r)

    back : {i j : ℕ} → i ≢ j → Star (Listed ps) i j → Star (Listed ps) j i → circular ps ≡ true
    back ne here q = absurd (ne refl)
    back ne (step l p) q = listed_any (reaches ps) ps _ _ l (complete ps (star_trans p q))

-- ---- of a relation that agrees with a list of pairs between the things below n, which has all that the list names

module _ (ps : List (List ℕ)) {n : ℕ} {R : Rel}
    (named : (i j : ℕ) → Listed ps i j → (i < n) × (j < n)) (same : (i j : ℕ) → i < n → j < n → (R i j ↔ Listed ps i j)) where
  below_pairs : (i j : ℕ) → (Star (Below n R) i j ↔ Star (Listed ps) i j)
  below_pairs i j = (
    λ p. star_map (λ x y r. (same x y r.0 r.1).0 r.2) p,
    λ p. star_map (λ x y l. let (lx, ly) = named x y l in (lx, ly, (same x y lx ly).1 l)) p,
  )

  pub closed_reaches : {C : Rel} → Closes n R C → (i j : ℕ) → i < n → j < n → (C i j ↔ (reaches ps i j ≡ true))
  closed_reaches c i j li lj = (
    λ x. complete ps ((below_pairs i j).0 ((c.inside i j li lj).0 x)),
    λ e. (c.inside i j li lj).1 ((below_pairs i j).1 (sound ps i j e)),
  )

  pub circle_circular : ((i : ℕ) → Listed ps i i → ⊥) → (Circle (Star (Below n R)) ↔ (circular ps ≡ true))
  circle_circular proper = (
    λ (i, j, ne, p, q). (circle_of_pairs ps proper).1 (i, j, ne, (below_pairs i j).0 p, (below_pairs j i).0 q),
    λ e. let (i, j, ne, p, q) = (circle_of_pairs ps proper).0 e in (i, j, ne, (below_pairs i j).1 p, (below_pairs j i).1 q),
  )
