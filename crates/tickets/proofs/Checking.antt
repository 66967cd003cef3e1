-- The tests of a ticket say what the definition's tests say.
use Prim.Native.Nat.{ℕ, ◌/◌, ◌^◌, ◌<◌, ◌≤◌}
use mathlib.Core.Path.{◌≡◌, refl, sym, ◌∙◌}
use mathlib.Core.Bool.{Bool, true, false, false≢true, cond, ◌&&◌}
use mathlib.Core.Logic.{◌≢◌, ◌↔◌}
use native.Mathlib.Nat.{div-eq_of_lt, le-div_iff_mul-le}
use native.Mathlib.Omega.{arith}
use lib.Dec.{ltb, eqb}
use lib.Pow.{pow_pos}
use borrow.Author.Tests.{ltb-true, ltb-false, eq-eqb, ne_eqb}
use Rattle.common.specs.Lists.{every}
use Rattle.common.specs.BoolLaws.{and_cases}
use Rattle.common.specs.RefusalNumbers.{number}
use Rattle.common.specs.declared.Refusal.{Refusal}
use Rattle.common.specs.declared.Refusal.TheVariants.{NotLoadable}
use Rattle.common.specs.QuantifierLaws.{all_of_lem}
use Rattle.common.specs.Sets.{member, In}
use Rattle.common.specs.SetLaws.{member_in, in_member}
use Rattle.common.specs.Refusals.{not_loadable, not_enabled, not_consistent, guard_not_met}
use Rattle.policy.specs.declared.Record.{Record}
use Rattle.policy.specs.Loadable.{loadable}
use Rattle.search.specs.Steps.{Decides}
use Rattle.justification.specs.declared.Question.{Question}
use Rattle.justification.specs.Justification.{members, consistent, meets}
use Rattle.justification.specs.Predicates.{question_refusal, is_enabled}
use Rattle.tickets.specs.declared.Ticket.{Ticket}
use Rattle.tickets.specs.Tickets.{constraint_refusal, enabled_for, set_refusal, ticket_refusal}

pub shifted_out : (n c : ℕ) → eqb (c / 2 ^ n) 0 ≡ ltb c (2 ^ n)
shifted_out n c = go (ltb c (2 ^ n)) refl
  where
    go : (b : Bool) → ltb c (2 ^ n) ≡ b → eqb (c / 2 ^ n) 0 ≡ b
    go true e = eq-eqb (c / 2 ^ n) 0 (div-eq_of_lt (ltb-true c (2 ^ n) e))
    go false e =
        let h = ltb-false c (2 ^ n) e in
        let k : 1 ≤ c / 2 ^ n = (le-div_iff_mul-le (pow_pos n)).1 (omega arith) in
        ne_eqb (c / 2 ^ n) 0 (λ z. omega arith)

-- ---- the members

module _ (r : Record) (enabled : ℕ → Bool) (c : ℕ) where
  each : every enabled (members r c) ≡ true ↔ ((p : ℕ) → p < r.principal_count → member p c ≡ true → enabled p ≡ true)
  each = all_of_lem enabled (λ p. member p c) r.principal_count

  pub one_not_enabled : (p : ℕ) → p < r.principal_count → In p c → enabled p ≡ false → false ≡ every enabled (members r c)
  one_not_enabled p l i f = go (every enabled (members r c)) refl
    where
      go : (b : Bool) → every enabled (members r c) ≡ b → false ≡ b
      go true e = absurd (false≢true (sym f ∙ each.0 e p l (in_member i)))
      go false e = refl

  pub all_enabled : ((p : ℕ) → p < r.principal_count → In p c → enabled p ≡ true) → true ≡ every enabled (members r c)
  all_enabled h = sym (each.1 (λ p l i. h p l (member_in i)))

pub ruleset enabling = (one_not_enabled, all_enabled)

-- ---- the constraints

module _ (r : Record) (m c : ℕ) where
  pub not_consistent_lem : consistent r c ≡ false → not_consistent ≡ constraint_refusal r m c
  unfolding constraint_refusal
  not_consistent_lem e = rw e refl

  pub guard_not_met_lem : consistent r c ≡ true → meets r m (members r c) ≡ false → guard_not_met ≡ constraint_refusal r m c
  unfolding constraint_refusal
  guard_not_met_lem e f = rw (e, f) refl

  pub will_do : consistent r c ≡ true → meets r m (members r c) ≡ true → 0 ≡ constraint_refusal r m c
  unfolding constraint_refusal
  will_do e f = rw (e, f) refl

-- a test that decides P says what another says that is true where P holds
pub decided_yes : {P : Type 0} {b t : Bool} → Decides b P → (P ↔ (t ≡ true)) → b ≡ true → t ≡ true
decided_yes d e h = e.0 (d.yes h)

pub decided_no : {P : Type 0} {b : Bool} (t : Bool) → Decides b P → (P ↔ (t ≡ true)) → b ≡ false → t ≡ false
decided_no true d e h = absurd (d.no h (e.1 refl))
decided_no false d e h = refl

-- ---- the ways out of a check

-- no refusal has the number 0
some_number : (why : Refusal) → number why ≢ 0
some_number why e = grind arith

module _ (r : Record) (t : Ticket) where
  abbrev q : Question
  q = t.question

  -- all members are principals and enabled
  abbrev fit : Bool
  fit = ltb t.set (2 ^ r.principal_count) && every (enabled_for (record { rules = r; object = q.object; requestor = q.requestor })) (members r t.set)

  pub refused_question : (why : Refusal) → number why ≡ question_refusal r q → number why ≡ ticket_refusal r t
  unfolding ticket_refusal
  refused_question why e = e ∙ rw (ne_eqb (question_refusal r q) 0 (λ z. some_number why (e ∙ z))) refl

  pub not_loadable_lem : loadable r ≡ false → not_loadable ≡ ticket_refusal r t
  unfolding question_refusal
  not_loadable_lem e = refused_question NotLoadable (rw e refl)

  module _ (may : question_refusal r q ≡ 0) where
    pub refused_members : (why : Refusal) → number why ≡ cond fit 0 not_enabled → number why ≡ ticket_refusal r t
    unfolding ticket_refusal set_refusal is_enabled
    refused_members why e = go fit refl e
      where
        go : (b : Bool) → fit ≡ b → number why ≡ cond b 0 not_enabled → number why ≡ ticket_refusal r t
        go true f h = absurd (some_number why h)
        go false f h = h ∙ rw (may, f) refl

    module _ (e : 0 ≡ cond fit 0 not_enabled) where
      is_fit : fit ≡ true
      is_fit = go fit refl e
        where
          go : (b : Bool) → fit ≡ b → 0 ≡ cond b 0 not_enabled → fit ≡ true
          go true f h = f
          go false f h = absurd (omega (arith, h))

      pub inside : t.set < 2 ^ r.principal_count
      inside = ltb-true _ _ (and_cases (ltb t.set (2 ^ r.principal_count)) _ is_fit).0

      pub constrained : constraint_refusal r q.method t.set ≡ ticket_refusal r t
      unfolding ticket_refusal set_refusal is_enabled
      constrained = rw (may, is_fit) refl
