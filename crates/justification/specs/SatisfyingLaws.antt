-- The tests `consistent` and `meets` say what the quantifiers of `Satisfying` say; so a set that passes them all is one that will do.
use Rattle.std.specs.Prelude.{ℕ, ◌^◌, ◌<◌, ◌≡◌, ◌↔◌, Bool, true, false, not, cond, ◌&&◌, List, [], ◌∷◌, eqb}
use Rattle.std.proofs.Math.Path.{refl}
use Rattle.std.proofs.Common.{subst, ⊎_elim, eqb-true, eq-eqb}
use Rattle.std.proofs.lemmas.Bool.{false≢true, eqb-false}
use Rattle.common.specs.Limits.{privilege_count}
use Rattle.common.specs.Lists.{at, any, every, those, below, same}
use Rattle.common.specs.QuantifierLaws.{any_table, table_any, every_table, table_every, some_of, all_of_lem}
use Rattle.common.specs.BoolLaws.{and_cases, and_both, or_cases, or_left}
use Rattle.common.specs.Sets.{member, In}
use Rattle.common.specs.SetLaws.{member_in, in_member, in_lt, all_lt}
use Rattle.policy.specs.declared.Record.{Record}
use Rattle.policy.specs.Table.{exclusion, rows, row}
use Rattle.justification.specs.Justification.{members, demarcation_has, have, listed, meets, needs, consistent}
use Rattle.justification.specs.Satisfying.{excluded, IsConsistent, SomeHas, GuardMet, Satisfies}

not_both : (x y : Bool) → (not (x && y) ≡ true ↔ (x ≡ true → y ≡ true → ⊥))
not_both true true = (λ e t u. false≢true e, λ h. absurd (h refl refl))
not_both true false = (λ e t u. false≢true u, λ h. refl)
not_both false y = (λ e t u. false≢true t, λ h. refl)

-- the row at a place of the exclusions is the row (p, q)
is_row : (r : Record) (p q i : ℕ) → same (p ∷ q ∷ []) (row exclusion i r) ≡ true
    → (p ≡ at r.exclusion_lows i) × (q ≡ at r.exclusion_highs i)
is_row r p q i e =
    let (x, y) = and_cases (eqb p (at r.exclusion_lows i)) _ e in
    (eqb-true p _ x, eqb-true q _ (and_cases (eqb q (at r.exclusion_highs i)) true y).0)

row_is : (r : Record) (i : ℕ) → same (at r.exclusion_lows i ∷ at r.exclusion_highs i ∷ []) (row exclusion i r) ≡ true
row_is r i = and_both _ _ (eq-eqb (at r.exclusion_lows i) _ refl) (and_both _ true (eq-eqb (at r.exclusion_highs i) _ refl) refl)

-- ---- a set c of principals

module _ (r : Record) (c : ℕ) (inside : c < 2 ^ r.principal_count) where
  inner : {p : ℕ} → In p c → p < r.principal_count
  inner i = in_lt r.principal_count i inside

  -- no row of the exclusions has both its principals in c: as a test, and as a statement
  abbrev parted : List ℕ → Bool
  parted e = not (member (at e 0) c && member (at e 1) c)

  abbrev NoPair : Type 0
  NoPair = (i : ℕ) → i < r.exclusion_count → In (at r.exclusion_lows i) c → In (at r.exclusion_highs i) c → ⊥

  no_pair : every parted (rows exclusion r) ≡ true ↔ NoPair
  no_pair = (
    λ e i l x y. (not_both _ (member (at r.exclusion_highs i) c)).0
        (every_table parted (λ j. row exclusion j r) r.exclusion_count e i l) (in_member x) (in_member y),
    λ h. table_every parted (λ j. row exclusion j r) r.exclusion_count
        (λ i l. (not_both _ _).1 (λ x y. h i l (member_in x) (member_in y))),
  )

  -- then no two members of c are a row
  paired : (p q : ℕ) → any (same (p ∷ q ∷ [])) (rows exclusion r) ≡ true → NoPair → In p c → In q c → ⊥
  paired p q e h x y =
      let (i, l, t) = any_table (same (p ∷ q ∷ [])) (λ i. row exclusion i r) r.exclusion_count e in
      let (u, v) = is_row r p q i t in
      h i l (subst (λ (z : ℕ). In z c) u x) (subst (λ (z : ℕ). In z c) v y)

  -- no two members of c are an excluded pair, one way or the other
  apart_pairs : ((p q : ℕ) → In p c → In q c → excluded r p q → ⊥) ↔ NoPair
  apart_pairs = (
    λ h i l x y. h _ _ x y
        (or_left _ _
        (table_any (same (at r.exclusion_lows i ∷ at r.exclusion_highs i ∷ [])) (λ j. row exclusion j r) r.exclusion_count
        i l
        (row_is r i))),
    λ h p q x y e. ⊎_elim (λ t. paired p q t h x y) (λ t. paired q p t h y x) (or_cases (any (same (p ∷ q ∷ [])) (rows exclusion r)) _ e),
  )

  -- all that q needs is in c
  abbrev supplied : ℕ → Bool
  supplied q = every (λ p. member p c) (those (needs r q) (below r.principal_count))

  needs_in : (q : ℕ) → (supplied q ≡ true ↔ ((p : ℕ) → p < r.principal_count → needs r q p ≡ true → member p c ≡ true))
  needs_in q = all_of_lem (λ p. member p c) (needs r q) r.principal_count

  -- a test is passed by every member of c
  pub of_members : (t : ℕ → Bool) → (every t (members r c) ≡ true ↔ ((p : ℕ) → In p c → t p ≡ true))
  of_members t =
      let e = all_of_lem t (λ p. member p c) r.principal_count in
      (λ h p x. e.0 h p (inner x) (in_member x), λ h. e.1 (λ p l x. h p (member_in x)))

  pub consistent_says : IsConsistent r c ↔ (consistent r c ≡ true)
  unfolding consistent
  consistent_says = (
    λ f. and_both _ _
        (no_pair.1 (apart_pairs.0 f.apart))
        ((of_members supplied).1 (λ q x. (needs_in q).1 (λ p l e. in_member (f.whole q p x l e)))),
    λ e.
        let (u, v) = and_cases (every parted (rows exclusion r)) _ e in
        record {
          apart = apart_pairs.1 (no_pair.0 u);
          whole = λ q p x l n. member_in ((needs_in q).0 ((of_members supplied).0 v q x) p l n);
        },
  )

  -- ---- the guard

  have_says : (k : ℕ) → (SomeHas r c k ↔ (have r (members r c) k ≡ true))
  unfolding have
  have_says k =
      let e = some_of (λ p. demarcation_has r (at r.principal_demarcations p) k) (λ p. member p c) r.principal_count in (
        λ g. e.1 (g.giver, inner g.member, in_member g.member, g.has),
        λ t. let (p, l, x, y) = e.0 t in record { giver = p; member = member_in x; has = y },
      )

  guard_form : (m : ℕ) (one : Bool) → eqb (at r.method_forms m) 0 ≡ one
      → (GuardMet r m c ↔ (cond one (any (have r (members r c)) (listed r m)) (every (have r (members r c)) (listed r m)) ≡ true))
  guard_form m true e =
      let w = some_of (have r (members r c)) (λ j. member j (at r.method_privileges m)) privilege_count in
      let one = eqb-true (at r.method_forms m) 0 e in (
        λ g. let (k, l, i, h) = g.one_of one in w.1 (k, l, in_member i, (have_says k).0 h),
        λ t. record {
          one_of = λ z. let (k, l, i, h) = w.0 t in (k, l, member_in i, (have_says k).1 h);
          all_of = λ n. absurd (n one);
        },
      )
  guard_form m false e =
      let w = all_of_lem (have r (members r c)) (λ j. member j (at r.method_privileges m)) privilege_count in
      let all = eqb-false (at r.method_forms m) 0 e in (
        λ g. w.1 (λ k l i. (have_says k).0 (g.all_of all k l (member_in i))),
        λ t. record { one_of = λ z. absurd (all z); all_of = λ n k l i. (have_says k).1 (w.0 t k l (in_member i)) },
      )

  pub guard_says : (m : ℕ) → (GuardMet r m c ↔ (meets r m (members r c) ≡ true))
  unfolding meets
  guard_says m = guard_form m (eqb (at r.method_forms m) 0) refl

-- ---- the test that `least` makes, and a set that will do

abbrev pub passes : Record → ℕ → (ℕ → Bool) → ℕ → Bool
passes r m enabled c = (consistent r c && meets r m (members r c)) && every enabled (members r c)

module _ (r : Record) (m : ℕ) (enabled : ℕ → Bool) where
  pub passes_satisfies : (c : ℕ) → c < 2 ^ r.principal_count → passes r m enabled c ≡ true → Satisfies r enabled m c
  passes_satisfies c l e =
      let (x, en) = and_cases (consistent r c && meets r m (members r c)) _ e in
      let (co, me) = and_cases (consistent r c) _ x in
      record {
        grounds = λ p i. (in_lt r.principal_count i l, (of_members r c l enabled).0 en p i);
        consistent = (consistent_says r c l).1 co;
        guard = (guard_says r c l m).1 me;
      }

  -- its members are principals alone
  pub satisfies_inside : {c : ℕ} → Satisfies r enabled m c → c < 2 ^ r.principal_count
  satisfies_inside {c} w = all_lt r.principal_count c (λ p i. (w.grounds p i).0)

  pub satisfies_passes : (c : ℕ) → Satisfies r enabled m c → passes r m enabled c ≡ true
  satisfies_passes c w =
      let l = satisfies_inside w in
      and_both (consistent r c && meets r m (members r c)) _
      (and_both (consistent r c) _ ((consistent_says r c l).0 w.consistent) ((guard_says r c l m).0 w.guard))
      ((of_members r c l enabled).1 (λ p i. (w.grounds p i).1))
