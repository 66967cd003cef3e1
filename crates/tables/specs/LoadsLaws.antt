-- Laws of `Loads`: what a table that loads says.
use Rattle.std.specs.Prelude.{ℕ, zero, suc, min, ◌≤◌, ◌<◌, ◌≡◌, refl, ◌↔◌, Bool, true, false, not, List, [], ◌∷◌, ltb, leb, eqb}
use Rattle.std.proofs.Common.{sym, ◌∙◌, subst, subst₂, ⊎_elim, arith, ltb-true, leb-true}
use Rattle.std.proofs.lemmas.Bool.{false≢true, eqb-false, not-true}
use Rattle.common.specs.Limits.{most_pairs, most_related}
use Rattle.common.specs.Lists.{at, every, below}
use Rattle.common.specs.ListLaws.{every_more}
use Rattle.common.specs.BoolLaws.{and_cases}
use Rattle.common.specs.Causes.{first}
use Rattle.closure.specs.Closure.{On, Listed, pairs_of}
use Rattle.closure.proofs.ClosureFact.{listed_append}
use Rattle.rows.specs.Checks.{causes, pair_in_range}
use Rattle.tables.specs.Loads.{lines_load, minimum_at, rising_refusal, no_limit, pair_fits, pair_keys, pairs_load}

-- a table that loads has no more lines than there is room for
pub lines_few : (room n : ℕ) (refusal : ℕ → ℕ) (columns : List (List ℕ)) → lines_load room n refusal columns ≡ true → n ≤ room
unfolding lines_load
lines_few room n refusal columns e = leb-true n room (and_cases (leb n room) _ e).0

-- a line that no limit refuses and that passes is in range
pub in_range_lem : (x y : Bool) → eqb (first (causes false (not x) y)) 0 ≡ true → x ≡ true
in_range_lem true y e = refl
in_range_lem false y e = absurd (false≢true e)

-- ---- a table of pairs names different things, all of them there

pairs_in_range : (things n : ℕ) (a b : List ℕ)
    → every (λ i. eqb (rising_refusal no_limit (pair_fits things a b) (pair_keys a b) i) 0) (below n) ≡ true → (i j : ℕ)
    → Listed (pairs_of n a b) i j → pair_in_range things i j ≡ true
pairs_in_range things zero a b e i j l = absurd l
pairs_in_range things (suc n) a b e i j l =
    let h = and_cases _ _ (sym (every_more (λ x. eqb (rising_refusal no_limit (pair_fits things a b) (pair_keys a b) x) 0) n (λ x. x)) ∙ e) in
    let p = in_range_lem (pair_fits things a b n) (ltb (pair_keys a b n) (minimum_at (pair_keys a b) n)) h.1 in
    ⊎_elim
    (λ m. pairs_in_range things n a b h.0 i j m)
    (λ m. ⊎_elim (λ s. subst₂ (λ (x y : ℕ). pair_in_range things x y ≡ true) s.0 s.1 p) (λ z. absurd z) m)
    ((listed_append (pairs_of n a b) ((at a n ∷ at b n ∷ []) ∷ []) i j).0 l)

module _ (things n : ℕ) (a b : List ℕ) (loads : pairs_load things n a b ≡ true) where
  all_rows : every (λ i. eqb (rising_refusal no_limit (pair_fits things a b) (pair_keys a b) i) 0) (below n) ≡ true
  unfolding pairs_load lines_load
  all_rows = (and_cases _ _ (and_cases (leb n most_pairs) _ loads).1).0

  pub pairs_few : n ≤ most_pairs
  unfolding pairs_load
  pairs_few = lines_few _ _ _ _ loads

  pub pairs_named : (i j : ℕ) → Listed (pairs_of n a b) i j → (i < things) × (j < things)
  pairs_named i j l =
      let p = and_cases (ltb i things) _ (pairs_in_range things n a b all_rows i j l) in
      (ltb-true i things p.0, ltb-true j things (and_cases (ltb j things) _ p.1).0)

  pub pairs_proper : (i : ℕ) → Listed (pairs_of n a b) i i → ⊥
  pairs_proper i l =
      let p = and_cases (ltb i things) _ (pairs_in_range things n a b all_rows i i l) in
      eqb-false i i (not-true (eqb i i) (and_cases (ltb i things) _ p.1).1) refl

  -- the code's relation, on as many things and pairs as there may be, is on the things that there are the one that the lines list
  pub pairs_relation : (m : List (List Bool)) → things ≤ most_related
      → ((i j : ℕ) → i < most_related → j < most_related → (On m i j ↔ Listed (pairs_of (min n most_pairs) a b) i j))
      → (i j : ℕ) → i < things → j < things → (On m i j ↔ Listed (pairs_of n a b) i j)
  pairs_relation m few rel i j li lj =
      let all : min n most_pairs ≡ n = omega (arith, pairs_few) in
      subst (λ (k : ℕ). On m i j ↔ Listed (pairs_of k a b) i j) all (rel i j (omega arith) (omega arith))
