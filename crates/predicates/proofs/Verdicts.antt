-- What the code finds of the guard is what liberal and strict say.
use Rattle.std.specs.Prelude.{ℕ, ◌^◌, ◌<◌, ◌≡◌, ◌≢◌, refl, Bool, true, false, not, ◌&&◌, [], ◌∷◌, eqb, Err}
use Rattle.std.proofs.Common.{sym, ◌∙◌, ap, subst, arith}
use Rattle.std.proofs.lemmas.Bool.{false≢true}
use borrow.Author.Tests.{eq-eqb, ne_eqb}
use Rattle.common.specs.Limits.{privilege_count}
use Rattle.common.specs.Lists.{at, any}
use Rattle.common.specs.BoolLaws.{same_test}
use Rattle.common.specs.RefusalNumbers.{number}
use Rattle.common.specs.declared.Refusal.{Refusal}
use Rattle.common.specs.declared.Refusal.TheVariants.{NotLoadable}
use Rattle.common.specs.Sets.{In}
use Rattle.common.specs.SetLaws.{none_in_zero, some_in}
use Rattle.policy.specs.declared.Record.{Record}
use Rattle.policy.specs.Loadable.{loadable}
use Rattle.formula.specs.Formula.{holds}
use Rattle.search.specs.Steps.{Decides, MetBy, Gathers}
use Rattle.justification.specs.Justification.{meets}
use Rattle.justification.specs.declared.Question.{Question}
use Rattle.justification.specs.Predicates.{question_refusal, is_enabled, enabled, verdict_of, liberal, strict}
use Rattle.justification.specs.Verdicts.{verdict_values}
use Rattle.justification.specs.MarkedSets.{Those}
use Rattle.justification.proofs.GuardLaws.{guard_met, enabled_gather, one_meets_is}
use Rattle.predicates.specs.declared.guard.Guard.{Guard}
use Rattle.predicates.specs.Guards.{Guards}

-- ---- what refuses the question: no

-- no refusal has the number 0
some_number : (why : Refusal) → number why ≢ 0
some_number why e = grind arith

verdict_refused : (why : Refusal) {n : ℕ} → number why ≡ n → (b : Bool) → verdict_values (Err why) ≡ verdict_of n b
verdict_refused why {n} e b = λ i. record { number = e i; yes = no i }
  where
    no : false ≡ (eqb n 0 && b)
    no = rw (ne_eqb n 0 (λ z. some_number why (e ∙ z))) refl

module _ (r : Record) (q : Question) where
  pub liberal_refused : (why : Refusal) → number why ≡ question_refusal r q → verdict_values (Err why) ≡ liberal r q
  unfolding liberal
  liberal_refused why e = verdict_refused why e _

  pub strict_refused : (why : Refusal) → number why ≡ question_refusal r q → verdict_values (Err why) ≡ strict r q
  unfolding strict
  strict_refused why e = verdict_refused why e _

  not_loadable_is : loadable r ≡ false → number NotLoadable ≡ question_refusal r q
  unfolding question_refusal
  not_loadable_is e = rw e refl

  pub liberal_unloadable : loadable r ≡ false → verdict_values (Err NotLoadable) ≡ liberal r q
  liberal_unloadable e = liberal_refused NotLoadable (not_loadable_is e)

  pub strict_unloadable : loadable r ≡ false → verdict_values (Err NotLoadable) ≡ strict r q
  strict_unloadable e = strict_refused NotLoadable (not_loadable_is e)

-- ---- the verdicts

-- a set that is not 0 has a member, and the reverse
not_empty : (e : ℕ) → not (eqb e 0) ≡ true → e ≡ 0 → ⊥
not_empty e t z = absurd (false≢true (sym (ap not (eq-eqb e 0 z)) ∙ t))

holding : (e p : ℕ) → In p e → not (eqb e 0) ≡ true
holding e p i = ap not (ne_eqb e 0 (λ z. none_in_zero p (subst (In p) z i)))

decided : {P : Type 0} (b : Bool) → Decides b P → P → b ≡ true
decided true d x = refl
decided false d x = absurd (d.no refl x)

module _ (r : Record) (q : Question) (may : question_refusal r q ≡ 0) (g : Guard) (k : Guards r q.method g) (a e : ℕ)
    (those : Those r.principal_count (λ p. (In p a) × (holds r (at r.principal_formulas p) q.object q.object q.requestor ≡ true)) e) where
  enabled_those : Those r.principal_count (λ p. (In p a) × (is_enabled r q p ≡ true)) e
  unfolding is_enabled
  enabled_those = those

  limit : at r.method_privileges q.method < 2 ^ privilege_count
  limit = rw k.wanted at k.bounded

  pub liberal_yes : Those g.count (λ p. MetBy false g.wanted (at g.grants p)) a → (given : ℕ) (b : Bool)
      → Gathers g.count e g.grants given → Decides b (MetBy g.every g.wanted given) → record { number = 0; yes = b } ≡ liberal r q
  unfolding liberal
  liberal_yes givers given b gathers d =
      let gathered = enabled_gather r q a e given (at r.method_privileges q.method) g.grants (rw (k.count, k.wanted) at givers)
      enabled_those k.gives (rw k.count at gathers) in
      let law = guard_met r q.method limit (enabled r q) given gathered in
      let d' = rw (k.every, k.wanted) at d in
      let is : b ≡ meets r q.method (enabled r q) = same_test b _ (λ t. law.1 (d'.yes t), λ t. decided b d' (law.0 t)) in
      rw (may, is) refl

  pub strict_yes : Those g.count (λ p. MetBy g.every g.wanted (at g.grants p)) a
      → record { number = 0; yes = not (eqb e 0) } ≡ strict r q
  unfolding strict
  strict_yes able =
      let law = one_meets_is r q.method q a e g.grants limit (rw (k.count, k.every, k.wanted) at able) enabled_those k.gives in
      let is : not (eqb e 0) ≡ any (λ p. meets r q.method (p ∷ [])) (enabled r q) = same_test (not (eqb e 0)) _
      (λ t. law.1 (some_in e (not_empty e t)), λ t. let (p, i) = law.0 t in holding e p i) in
      rw (may, is) refl
