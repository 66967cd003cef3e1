-- Which tickets are accepted, and which number refuses the others, in quantifiers.
use Rattle.std.specs.Prelude.{ℕ, ◌^◌, ◌<◌, ◌≤◌, ◌≡◌, ◌≢◌, ◌⊎◌, Bool, true, false, not, cond, ◌&&◌, ◌||◌, List, [], ◌∷◌, ltb, leb}
use Rattle.std.proofs.Math.Path.{refl}
use Rattle.std.proofs.Common.{sym, ◌∙◌, ap, inl, inr, arith, ltb-true, ltb-false, eq-eqb, ne_eqb}
use Rattle.std.proofs.lemmas.Bool.{false≢true, not-true}
use Rattle.common.specs.Lists.{any, every}
use Rattle.common.specs.QuantifierLaws.{some_of}
use Rattle.common.specs.BoolLaws.{and_cases}
use Rattle.common.specs.Causes.{cause, first}
use Rattle.common.specs.Refusals.{no_method, no_object, not_user, not_loadable, not_enabled, not_consistent, guard_not_met}
use Rattle.common.specs.Sets.{member}
use Rattle.common.specs.SetLaws.{member_in, in_lt, high_in}
use Rattle.policy.specs.declared.Record.{Record}
use Rattle.policy.specs.declared.Memo.{Memo}
use Rattle.policy.specs.Table.{with_memo}
use Rattle.policy.specs.MemoLaws.{memo_aside}
use Rattle.justification.specs.declared.Question.{Question}
use Rattle.formula.specs.Formula.{is_user, holds_on, holds}
use Rattle.justification.specs.Justification.{members, demarcation_has, have, consistent, meets}
use Rattle.justification.specs.Predicates.{question_refusal, is_enabled}
use Rattle.justification.specs.Satisfying.{IsConsistent, GuardMet, AllEnabled}
use Rattle.justification.specs.SatisfyingLaws.{of_members, consistent_says, guard_says}
use Rattle.tickets.specs.declared.Ticket.{Ticket}
use Rattle.tickets.specs.Tickets.{constraint_refusal, set_refusal, after_question, ticket_refusal, Unfit, SetNumber}

-- ---- the members

any_not : (t : ℕ → Bool) (l : List ℕ) → any (λ p. not (t p)) l ≡ not (every t l)
any_not t [] = refl
any_not t (p ∷ l) = go (t p) (any_not t l)
  where
    go : (b : Bool) → any (λ q. not (t q)) l ≡ not (every t l) → (not b || any (λ q. not (t q)) l) ≡ not (b && every t l)
    go true e = e
    go false e = refl

module _ (r : Record) (enabled : ℕ → Bool) (c : ℕ) where
  abbrev fit : Bool
  fit = ltb c (2 ^ r.principal_count) && every enabled (members r c)

  inside : fit ≡ true → c < 2 ^ r.principal_count
  inside e = ltb-true c (2 ^ r.principal_count) (and_cases (ltb c (2 ^ r.principal_count)) _ e).0

  fit_all : fit ≡ true → AllEnabled r enabled c
  fit_all e p i =
      let l = inside e in
      let t = (and_cases (ltb c (2 ^ r.principal_count)) (every enabled (members r c)) e).1 in
      (in_lt r.principal_count i l, (of_members r c l enabled).0 t p i)

  not_fit : fit ≡ false → Unfit r enabled c
  not_fit e = go (ltb c (2 ^ r.principal_count)) refl e
    where
      go : (b : Bool) → ltb c (2 ^ r.principal_count) ≡ b → (b && every enabled (members r c)) ≡ false → Unfit r enabled c
      go true l e =
          let some = some_of (λ p. not (enabled p)) (λ p. member p c) r.principal_count in
          let (p, k, i, n) = some.0 (any_not enabled (members r c) ∙ ap not e) in
          record { who = p; member = member_in i; why = inr (not-true (enabled p) n) }
      go false l e =
          let (p, i, k) = high_in r.principal_count {c = c} (ltb-false c (2 ^ r.principal_count) l) in
          record { who = p; member = i; why = inl k }

  -- a member that is unfit is not among those that are all enabled
  unfit_not : Unfit r enabled c → AllEnabled r enabled c → ⊥
  unfit_not u all = let (l, e) = all u.who u.member in go l e u.why
    where
      go : u.who < r.principal_count → enabled u.who ≡ true → (r.principal_count ≤ u.who) ⊎ (enabled u.who ≡ false) → ⊥
      go l e (inl k) = omega arith
      go l e (inr f) = false≢true (sym f ∙ e)

-- ---- THE LAW of a proposed set

module _ (r : Record) (enabled : ℕ → Bool) (m c : ℕ) where
  -- by its three tests
  abbrev number : Bool → Bool → Bool → ℕ
  number f k g = cond f (first (cause not_consistent (not k) ∷ cause guard_not_met (not g) ∷ [])) not_enabled

  says : (f k g : Bool) → fit r enabled c ≡ f → consistent r c ≡ k → meets r m (members r c) ≡ g → SetNumber r enabled m c (number f k g)
  says true true true ef ek eg =
      let l = inside r enabled c ef in
      let co = (consistent_says r c l).1 ek in
      let gu = (guard_says r c l m).1 eg in
      let all = fit_all r enabled c ef in
      record {
        accepted = (λ z. record { grounds = all; consistent = co; guard = gu }, λ w. refl);
        unfit = (λ z. absurd (omega arith), λ u. absurd (unfit_not r enabled c u all));
        inconsistent = (λ z. absurd (omega arith), λ x. absurd (x.1 co));
        unmet = (λ z. absurd (omega arith), λ x. absurd (x.2 gu));
      }
  says true true false ef ek eg =
      let l = inside r enabled c ef in
      let co = (consistent_says r c l).1 ek in
      let all = fit_all r enabled c ef in
      let no : GuardMet r m c → ⊥ = λ g. false≢true (sym eg ∙ (guard_says r c l m).0 g) in
      record {
        accepted = (λ z. absurd (omega arith), λ w. absurd (no w.guard));
        unfit = (λ z. absurd (omega arith), λ u. absurd (unfit_not r enabled c u all));
        inconsistent = (λ z. absurd (omega arith), λ x. absurd (x.1 co));
        unmet = (λ z. (all, co, no), λ x. refl);
      }
  says true false g ef ek eg =
      let l = inside r enabled c ef in
      let all = fit_all r enabled c ef in
      let no : IsConsistent r c → ⊥ = λ k. false≢true (sym ek ∙ (consistent_says r c l).0 k) in
      record {
        accepted = (λ z. absurd (omega arith), λ w. absurd (no w.consistent));
        unfit = (λ z. absurd (omega arith), λ u. absurd (unfit_not r enabled c u all));
        inconsistent = (λ z. (all, no), λ x. refl);
        unmet = (λ z. absurd (omega arith), λ x. absurd (no x.1));
      }
  says false k g ef ek eg =
      let u = not_fit r enabled c ef in
      record {
        accepted = (λ z. absurd (omega arith), λ w. absurd (unfit_not r enabled c u w.grounds));
        unfit = (λ z. u, λ x. refl);
        inconsistent = (λ z. absurd (omega arith), λ x. absurd (unfit_not r enabled c u x.0));
        unmet = (λ z. absurd (omega arith), λ x. absurd (unfit_not r enabled c u x.0));
      }

  pub set_number : SetNumber r enabled m c (set_refusal r enabled m c)
  unfolding set_refusal constraint_refusal
  set_number = says (fit r enabled c) (consistent r c) (meets r m (members r c)) refl refl refl

-- ---- THE LAWS of a ticket

module _ (r : Record) (t : Ticket) where
  abbrev q : Question
  q = t.question

  -- a ticket that passes 19 and 14 to 16
  pub ticket_number : question_refusal r q ≡ 0 → SetNumber r (is_enabled r q) q.method t.set (ticket_refusal r t)
  unfolding ticket_refusal
  ticket_number e = rw (eq-eqb (question_refusal r q) 0 e) (set_number r (is_enabled r q) q.method t.set)

  -- "tested in that order after 19 and 14 to 16": one that does not gets the question's number
  pub ticket_after : question_refusal r q ≢ 0 → ticket_refusal r t ≡ question_refusal r q
  unfolding ticket_refusal
  ticket_after n = rw (ne_eqb (question_refusal r q) 0 n) refl

  module _ (memo : Memo) where
    question_fresh : question_refusal (with_memo r memo) q ≡ question_refusal r q
    unfolding question_refusal with_memo
    question_fresh =
        λ i. first (cause not_loadable (not (memo_aside r memo i)) ∷ cause no_method (leb r.method_count q.method)
        ∷ cause no_object (leb r.objects q.object) ∷ cause not_user (not (is_user r q.requestor)) ∷ [])

    -- "evaluates afresh": whatever memo the record has, the number is the same
    pub ticket_fresh : ticket_refusal (with_memo r memo) t ≡ ticket_refusal r t
    unfolding ticket_refusal set_refusal constraint_refusal with_memo consistent meets have demarcation_has is_enabled holds holds_on
    ticket_fresh = λ i. after_question (question_fresh i) (set_refusal r (is_enabled r q) q.method t.set)
