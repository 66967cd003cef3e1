-- The candidates of the search over the masks of a record are the sets that pass, and so its answer is the least of them.
use Rattle.std.specs.Prelude.{ℕ, ◌^◌, ◌<◌, ◌≡◌, ◌↔◌, Bool, true, false, not, ◌&&◌, eqb, Option as Answer, Some, None}
use Rattle.std.proofs.Math.Path.{refl, ap}
use Rattle.std.proofs.Common.{sym, ◌∙◌, subst, arith, eqb-true}
use Rattle.std.proofs.Math.Option.{Option, none, some}
use Rattle.std.proofs.lemmas.Bool.{eqb-false}
use Rattle.common.specs.Limits.{privilege_count}
use Rattle.common.specs.Lists.{at, every}
use Rattle.common.specs.BoolLaws.{and_cases, and_both}
use Rattle.common.specs.Sets.{member, In, Within}
use Rattle.common.specs.SetLaws.{member_in, in_member, in_lt}
use Rattle.policy.specs.declared.Record.{Record}
use Rattle.search.specs.declared.Masks.{Masks}
use Rattle.search.specs.Answers.{FoundValues, granted, denied, found_values}
use Rattle.search.specs.Answers.GrantedOrDenied.{grants, denies}
use Rattle.search.specs.Search.{Consistent, Given, Met, Candidate, Before, role_count_in, Least}
use Rattle.search.proofs.SearchLaws.{before_counts}
use Rattle.justification.specs.Justification.{members, meets, consistent, role_count, least}
use Rattle.justification.specs.Satisfying.{IsConsistent, SomeHas, GuardMet}
use Rattle.justification.specs.SatisfyingLaws.{of_members, consistent_says, guard_says, passes}
use Rattle.justification.specs.Order.{IsLeast}
use Rattle.justification.specs.Masked.{Masked, least_values}
use Rattle.justification.specs.RoleCountLaws.{role_count_lem}
use Rattle.justification.specs.OrderFact.{only_least, least_is}

-- ---- the masks of a record, and a set c of its principals

module _ (r : Record) (m a : ℕ) (s : Masks) (k : Masked r m a s) (c : ℕ) (inside : c < 2 ^ r.principal_count) where
  inner : {p : ℕ} → In p c → p < r.principal_count
  inner i = in_lt r.principal_count i inside

  -- ---- the set is consistent; its members are allowed

  same_consistent : Consistent s c ↔ IsConsistent r c
  same_consistent = (
    λ f. record {
      apart = λ p q x y e. (f p x).apart q y ((k.excludes p q (inner x) (inner y)).1 e);
      whole = λ q p x l e. (f q x).whole p ((k.needs q p (inner x) l).1 e);
    },
    λ g p x. record {
      apart = λ q y z. g.apart p q x y ((k.excludes p q (inner x) (inner y)).0 z);
      whole = λ q z. let l = k.needed p q (inner x) z in g.whole p q x l ((k.needs p q (inner x) l).0 z);
    },
  )

  pub consistent_is : Consistent s c ↔ (consistent r c ≡ true)
  consistent_is =
      let e = consistent_says r c inside in
      (λ f. e.0 (same_consistent.0 f), λ t. same_consistent.1 (e.1 t))

  allowed_are : Within c s.allowed ↔ (every (λ p. member p a) (members r c) ≡ true)
  allowed_are =
      let e = of_members r c inside (λ p. member p a) in (
        λ f. e.1 (λ p x. in_member (subst (In p) k.permitted (f p x))),
        λ t p x. subst (In p) (sym k.permitted) (member_in (e.0 t p x)),
      )

  -- ---- the guard

  same_given : (j : ℕ) → (Given s c j ↔ SomeHas r c j)
  same_given j = (
    λ g. record { giver = g.giver; member = g.member; has = (k.grants g.giver j (inner g.member)).0 g.gives },
    λ h. record { giver = h.giver; member = h.member; gives = (k.grants h.giver j (inner h.member)).1 h.has },
  )

  in_wanted : (j : ℕ) → (In j s.wanted ↔ In j (at r.method_privileges m))
  in_wanted j = (λ x. subst (In j) k.wanted x, λ x. subst (In j) (sym k.wanted) x)

  met_form : (one : Bool) → eqb (at r.method_forms m) 0 ≡ one → (Met (not one) s c ↔ GuardMet r m c)
  met_form true e =
      let one = eqb-true (at r.method_forms m) 0 e in (
        λ (j, w, g). record {
          one_of = λ z. (j, in_lt privilege_count w k.bounded, (in_wanted j).0 w, (same_given j).0 g);
          all_of = λ n. absurd (n one);
        },
        λ g. let (j, l, w, h) = g.one_of one in (j, (in_wanted j).1 w, (same_given j).1 h),
      )
  met_form false e =
      let all = eqb-false (at r.method_forms m) 0 e in (
        λ f. record { one_of = λ z. absurd (all z); all_of = λ n j l w. (same_given j).0 (f j ((in_wanted j).1 w)) },
        λ g j w. (same_given j).1 (g.all_of all j (in_lt privilege_count w k.bounded) ((in_wanted j).0 w)),
      )

  same_met : Met s.every s c ↔ GuardMet r m c
  same_met = subst (λ (b : Bool). Met b s c ↔ GuardMet r m c) (sym k.every) (met_form (eqb (at r.method_forms m) 0) refl)

  pub met_meets : Met s.every s c ↔ (meets r m (members r c) ≡ true)
  met_meets =
      let e = guard_says r c inside m in
      (λ f. e.0 (same_met.0 f), λ t. same_met.1 (e.1 t))

-- the candidates are the sets that pass
pub candidate_passes : (r : Record) (m a : ℕ) (s : Masks) → Masked r m a s → (c : ℕ) → c < 2 ^ r.principal_count
    → (Candidate s c ↔ (passes r m (λ p. member p a) c ≡ true))
candidate_passes r m a s k c l = (
  λ x. and_both _ _
      (and_both _ _ ((consistent_is r m a s k c l).0 x.consistent) ((met_meets r m a s k c l).0 x.met))
      ((allowed_are r m a s k c l).0 x.allowed),
  λ e.
      let (t, v) = and_cases (consistent r c && meets r m (members r c)) _ e in
      let (u, w) = and_cases (consistent r c) _ t in
      record {
        inside = subst (λ (n : ℕ). c < 2 ^ n) (sym k.count) l;
        allowed = (allowed_are r m a s k c l).1 v;
        consistent = (consistent_is r m a s k c l).1 u;
        met = (met_meets r m a s k c l).1 w;
      },
)

-- the number and set of the search's answer are those of the least set that passes
pub least_masked : (r : Record) (m a : ℕ) (s : Masks) → Masked r m a s → {v : FoundValues} → Least s v
    → v ≡ least_values (least r m (λ p. member p a))
unfolding least_values
least_masked r m a s k {v} h = go h
  where
    among : ℕ → Bool
    among p = member p a

    is_least : (o : Option ℕ) → IsLeast (role_count r) r.principal_count (passes r m among) o
        → least_values o ≡ least_values (least r m among)
    is_least o f =
        ap least_values (only_least (role_count r) r.principal_count (passes r m among) o (least r m among) f (least_is r m among))

    -- the masks and the record order sets alike
    same_order : {x y : ℕ} → x < 2 ^ r.principal_count → y < 2 ^ r.principal_count → Before (role_count_in s) x y
        → Before (role_count r) x y
    same_order {x} {y} l b f =
        before_counts (role_count_in s) (role_count r) (role_count_lem r x l k.role_principals_of) (role_count_lem r y b k.role_principals_of) f

    go : Least s v → v ≡ least_values (least r m (λ p. member p a))
    go (grants c q x) =
        let l = subst (λ (n : ℕ). c < 2 ^ n) k.count x.candidate.inside in
        q
        ∙ is_least (some c) (
          l,
          (candidate_passes r m a s k c l).0 x.candidate,
          λ y b t. same_order l b (x.first y ((candidate_passes r m a s k y b).1 t)),
        )
    go (denies q x) = q ∙ is_least none (λ y b t. x y ((candidate_passes r m a s k y b).1 t))

-- and say which set that is, or that there is none
module _ (o : Option ℕ) {f : Answer ℕ} (e : found_values f ≡ least_values o) where
  pub least_set : {c : ℕ} → f ≡ Some c → some c ≡ o
  unfolding least_values
  least_set {c} a = go o (ap found_values (sym a) ∙ e)
    where
      go : (o : Option ℕ) → granted c ≡ least_values o → some c ≡ o
      go (some d) q = ap (λ (v : FoundValues). some v.set) q
      go none q = let z = ap (λ (v : FoundValues). v.number) q in absurd (omega arith)

  pub least_none : f ≡ None → none ≡ o
  unfolding least_values
  least_none a = go o (ap found_values (sym a) ∙ e)
    where
      go : (o : Option ℕ) → denied ≡ least_values o → none ≡ o
      go (some d) q = let z = ap (λ (v : FoundValues). v.number) q in absurd (omega arith)
      go none q = refl
