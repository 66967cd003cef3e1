-- Privileges gathered as a number: whose they are, and that they meet the guard where the principals do.
use Rattle.std.specs.Prelude.{ℕ, ◌^◌, ◌<◌, ◌≤◌, ◌≡◌, refl, ◌↔◌, Bool, true, false, not, cond, ◌&&◌, List, [], ◌∷◌, eqb}
use Rattle.std.proofs.Common.{◌∙◌, arith}
use Rattle.common.specs.Limits.{most_users, most_demarcations, most_principals, privilege_count}
use Rattle.common.specs.Lists.{at, any, every, below}
use Rattle.common.specs.BoolLaws.{and_cases, and_both, or_left, or_left_only}
use Rattle.common.specs.QuantifierLaws.{any_table, table_any, some_of, all_of_lem}
use Rattle.common.specs.Sets.{member, In}
use Rattle.common.specs.SetLaws.{member_in, in_member, in_lt}
use Rattle.closure.specs.Closure.{reaches}
use Rattle.tables.specs.Loads.{pairs_load}
use Rattle.policy.specs.declared.Record.{Record}
use Rattle.policy.specs.Table.{Kind, rows, user, formula, demarcation, hierarchy, principal, exclusion, prerequisite, method}
use Rattle.policy.specs.Loadable.{table_loads, loadable}
use Rattle.policy.specs.LoadableLaws.{hierarchy_pairs, prerequisite_pairs, table_few, loadable_table}
use Rattle.policy.specs.NamedLaws.{principal_named, exclusion_named}
use Rattle.search.specs.Steps.{MetBy, Gathers}
use Rattle.justification.specs.Justification.{inferior, demarcation_has, have, listed, meets}
use Rattle.justification.specs.Masked.{MasksFit, grounds_of}
use Rattle.justification.specs.declared.Question.{Question}
use Rattle.justification.specs.Predicates.{is_enabled, enabled}
use Rattle.justification.specs.MarkedSets.{Marks, Those}

-- what the things at or below one list, along any pairs, is what some of them lists
pub below_gathers : (pairs : List (List ℕ)) (n : ℕ) (lists : List ℕ) (d s g : ℕ) → Marks n (λ e. reaches pairs e d) s
    → Gathers n s lists g → (k : ℕ) → (In k g ↔ (any (λ e. reaches pairs e d && member k (at lists e)) (below n) ≡ true))
below_gathers pairs n lists d s g marks gathers k = (
  λ i.
      let (e, l, j, q) = gathers.only k i in
      table_any (λ e. reaches pairs e d && member k (at lists e)) (λ (e : ℕ). e) n e l (and_both _ _ (marks.only e j).1 (in_member q)),
  λ t.
      let (e, l, x) = any_table (λ e. reaches pairs e d && member k (at lists e)) (λ (e : ℕ). e) n t in
      let (y, z) = and_cases (reaches pairs e d) _ x in
      gathers.all k e l (marks.all e l y) (member_in z),
)

-- what a demarcation has is what those at or below it list
pub demarcation_gathers : (r : Record) (d s g : ℕ) → Marks r.demarcation_count (λ e. inferior r e d) s
    → Gathers r.demarcation_count s r.demarcation_privileges g → (k : ℕ) → (In k g ↔ (demarcation_has r d k ≡ true))
unfolding demarcation_has
demarcation_gathers r = below_gathers (rows hierarchy r) r.demarcation_count r.demarcation_privileges

-- the columns that privileges are granted by are those of a record that loads
pub grants_fit : (r : Record) → ((j : Kind) → table_loads r j ≡ true)
    → (pairs_load r.demarcation_count r.hierarchy_count r.inferiors r.superiors ≡ true)
    × (r.demarcation_count ≤ most_demarcations) × (r.principal_count ≤ most_principals)
    × ((p : ℕ) → p < r.principal_count → at r.principal_demarcations p < r.demarcation_count)
grants_fit r loads = (
  hierarchy_pairs r ∙ loads hierarchy,
  table_few r demarcation (loads demarcation),
  table_few r principal (loads principal),
  λ p l. (principal_named r loads p l).1,
)

-- and so are those that masks are made of
pub masks_fit : (r : Record) (m : ℕ) → ((j : Kind) → table_loads r j ≡ true) → m < r.method_count → MasksFit (grounds_of r) m
masks_fit r m loads l =
    let (ranked, demarcated, few, holding) = grants_fit r loads in
    record {
      hierarchy = ranked;
      demarcated = demarcated;
      few = few;
      formed = λ p k. omega (arith, (principal_named r loads p k).0, table_few r formula (loads formula));
      holding = holding;
      excluding = table_few r exclusion (loads exclusion);
      excluded = λ i k. exclusion_named r loads i k;
      linked = prerequisite_pairs r ∙ loads prerequisite;
      asked = let n = table_few r method (loads method) in omega arith;
    }

-- the same of one that some bundle loads to, as rules are
module _ (r : Record) (loads : loadable r ≡ true) where
  pub rules_grants_fit : (pairs_load r.demarcation_count r.hierarchy_count r.inferiors r.superiors ≡ true)
      × (r.demarcation_count ≤ most_demarcations) × (r.principal_count ≤ most_principals)
      × ((p : ℕ) → p < r.principal_count → at r.principal_demarcations p < r.demarcation_count)
  rules_grants_fit = grants_fit r (loadable_table r loads)

  pub rules_masks_fit : (m : ℕ) → m < r.method_count → MasksFit (grounds_of r) m
  rules_masks_fit m l = masks_fit r m (loadable_table r loads) l

  pub few_users : r.user_count ≤ most_users
  few_users = table_few r user (loadable_table r loads user)

-- the guard of method m, which lists privileges below that count: g need tell only of those
module _ (r : Record) (m : ℕ) (bounded : at r.method_privileges m < 2 ^ privilege_count) (ps : List ℕ) (g : ℕ)
    (gives : (k : ℕ) → In k (at r.method_privileges m) → (In k g ↔ (have r ps k ≡ true))) where
  by_form : (one : Bool)
      →
      ((cond one (any (have r ps) (listed r m)) (every (have r ps) (listed r m)) ≡ true) ↔ MetBy (not one) (at r.method_privileges m)
      g)
  by_form true =
      let e = some_of (have r ps) (λ j. member j (at r.method_privileges m)) privilege_count in (
        λ t. let (j, l, w, h) = e.0 t in (j, member_in w, (gives j (member_in w)).1 h),
        λ (j, w, i). e.1 (j, in_lt privilege_count w bounded, in_member w, (gives j w).0 i),
      )
  by_form false =
      let e = all_of_lem (have r ps) (λ j. member j (at r.method_privileges m)) privilege_count in (
        λ t j w. (gives j w).1 (e.0 t j (in_lt privilege_count w bounded) (in_member w)),
        λ f. e.1 (λ j l w. (gives j (member_in w)).0 (f j (member_in w))),
      )

  pub guard_met : (meets r m ps ≡ true) ↔ MetBy (not (eqb (at r.method_forms m) 0)) (at r.method_privileges m) g
  unfolding meets
  guard_met = by_form (eqb (at r.method_forms m) 0)

-- what all enabled principals give together, of the privileges w: those of them that give none of w may be left out
pub enabled_gather : (r : Record) (q : Question) (a e g w : ℕ) (grants : List ℕ)
    → Those r.principal_count (λ p. MetBy false w (at grants p)) a
    → Those r.principal_count (λ p. (In p a) × (is_enabled r q p ≡ true)) e
    → ((p k : ℕ) → p < r.principal_count → (In k (at grants p) ↔ (demarcation_has r (at r.principal_demarcations p) k ≡ true)))
    → Gathers r.principal_count e grants g → (k : ℕ) → In k w → (In k g ↔ (have r (enabled r q) k ≡ true))
unfolding have
enabled_gather r q a e g w grants givers those gives gathers k asked =
    let all = some_of (λ p. demarcation_has r (at r.principal_demarcations p) k) (is_enabled r q) r.principal_count in (
      λ i. let (p, l, j, x) = gathers.only k i in all.1 (p, l, (those.only p j).1.1, (gives p k l).0 x),
      λ t.
          let (p, l, x, y) = all.0 t in
          let given = (gives p k l).1 y in
          gathers.all k p l (those.all p l (givers.all p l (k, asked, given), x)) given,
    )

-- what one principal gives alone
pub one_gives : (r : Record) (p g : ℕ) → ((k : ℕ) → (In k g ↔ (demarcation_has r (at r.principal_demarcations p) k ≡ true))) → (k : ℕ)
    → (In k g ↔ (have r (p ∷ []) k ≡ true))
unfolding have
one_gives r p g h k =
    (λ i. or_left _ false ((h k).0 i), λ t. (h k).1 (or_left_only (demarcation_has r (at r.principal_demarcations p) k) false refl t))

-- one enabled principal alone meets the guard: of those that do, one is enabled
pub one_meets_is : (r : Record) (m : ℕ) (q : Question) (a e : ℕ) (grants : List ℕ) → at r.method_privileges m < 2 ^ privilege_count
    → Those r.principal_count (λ p. MetBy (not (eqb (at r.method_forms m) 0)) (at r.method_privileges m) (at grants p)) a
    → Those r.principal_count (λ p. (In p a) × (is_enabled r q p ≡ true)) e
    → ((p k : ℕ) → p < r.principal_count → (In k (at grants p) ↔ (demarcation_has r (at r.principal_demarcations p) k ≡ true)))
    → (any (λ p. meets r m (p ∷ [])) (enabled r q) ≡ true ↔ ((p : ℕ) × In p e))
one_meets_is r m q a e grants bounded able those gives =
    let all = some_of (λ p. meets r m (p ∷ [])) (is_enabled r q) r.principal_count in (
      λ t. let (p, l, x, y) = all.0 t in (p, those.all p l (able.all p l ((alone p l).0 y), x)),
      λ (p, i). let (l, c) = those.only p i in all.1 (p, l, c.1, (alone p l).1 (able.only p c.0).1),
    )
  where
    alone : (p : ℕ) → p < r.principal_count
        → ((meets r m (p ∷ []) ≡ true) ↔ MetBy (not (eqb (at r.method_forms m) 0)) (at r.method_privileges m) (at grants p))
    alone p l = guard_met r m bounded (p ∷ []) (at grants p) (λ k _. one_gives r p (at grants p) (λ j. gives p j l) k)
