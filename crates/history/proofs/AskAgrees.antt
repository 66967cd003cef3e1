-- A question or a ticket on a record that agrees the book is answered as the book answers it, and leaves a record that agrees the book.
use Rattle.std.specs.Prelude.{ℕ, ◌≡◌, refl, Bool, not, List, [], ◌∷◌, leb}
use Rattle.std.proofs.Common.{sym, ◌∙◌, eq-eqb, ne_eqb}
use native.Mathlib.Decide.{ℕ_discrete}
use Rattle.std.proofs.Math.Path.{ap, subst}
use Rattle.std.proofs.Math.Option.{Option, none, some}
use Rattle.common.specs.Causes.{cause, first}
use Rattle.common.specs.Refusals.{no_method, no_object, not_user, not_loadable}
use Rattle.policy.specs.declared.Record.{Record}
use Rattle.policy.specs.Table.{edge, rows, emptied, changed, with_memo}
use Rattle.policy.specs.LoadableLaws.{loadable_table}
use Rattle.policy.specs.ColumnLengthLaws.{sized_memo}
use Rattle.policy.specs.MemoLaws.{memo_aside}
use Rattle.formula.specs.Formula.{is_user, holds_on, holds}
use Rattle.formula.specs.FormulaLaws.{same_edges}
use Rattle.justification.specs.declared.Question.{Question}
use Rattle.justification.specs.Justification.{demarcation_has, have, meets, consistent, candidates, least}
use Rattle.justification.specs.Predicates.{question_refusal, is_enabled}
use Rattle.memo.specs.Walk.{formula_of}
use Rattle.access.specs.Answers.{Answer}
use Rattle.access.specs.Access.{refused, eager, lazy}
use Rattle.access.specs.CorrectMemo.{number_of, set_of, LeastAnswer}
use Rattle.access.specs.CorrectMemoLaws.{eager_true, lazy_true}
use Rattle.tickets.specs.declared.Ticket.{Ticket}
use Rattle.tickets.specs.Tickets.{constraint_refusal, set_refusal, after_question, ticket_refusal}
use Rattle.history.specs.Book.{Book, ask_refusal, verdict, enabled_in, ask, check_refusal, number_and_set}
use Rattle.history.proofs.Agrees.{Agrees}

-- ---- what stays as the bundle has it

module _ (r b : Record) (rest : changed r [] (emptied 0 0) ≡ changed b [] (emptied 0 0)) where
  same_refusal : (q : Question) → ask_refusal r q ≡ ask_refusal b q
  unfolding changed
  same_refusal q = ap (λ (x : Record). ask_refusal x q) rest

  pub same_least : (m : ℕ) (passes : ℕ → Bool) → least r m passes ≡ least b m passes
  unfolding changed least candidates consistent meets have demarcation_has
  same_least m passes = ap (λ (x : Record). least x m passes) rest

  pub same_set : (enabled : ℕ → Bool) (m c : ℕ) → set_refusal r enabled m c ≡ set_refusal b enabled m c
  unfolding changed set_refusal constraint_refusal consistent meets have demarcation_has
  same_set enabled m c = ap (λ (x : Record). set_refusal x enabled m c) rest

  same_holds : (book : List (List ℕ)) (o s p : ℕ)
      → holds_on r book (formula_of r p) o o s ≡ holds_on b book (formula_of b p) o o s
  unfolding changed holds_on
  same_holds book o s p = ap (λ (x : Record). holds_on x book (formula_of x p) o o s) rest

module _ (b : Record) (book : Book) (r : Record) (h : Agrees b book r) where
  -- ---- the same refusal, the same enabled principals, the same least set

  pub refusal_is : (q : Question) → question_refusal r q ≡ ask_refusal b q
  unfolding question_refusal
  refusal_is q =
      (λ i. first (cause not_loadable (not (h.loads i)) ∷ cause no_method (leb r.method_count q.method)
      ∷ cause no_object (leb r.objects q.object) ∷ cause not_user (not (is_user r q.requestor)) ∷ []))
      ∙ same_refusal r b h.rest q

  pub enabled_is : (q : Question) (p : ℕ) → is_enabled r q p ≡ enabled_in b book q p
  unfolding is_enabled holds
  enabled_is q p =
      same_edges r (rows edge r) book (formula_of r p) q.object q.object q.requestor h.edges
      ∙ same_holds r b h.rest book q.object q.requestor p

  pub least_is : (q : Question) → least r q.method (is_enabled r q) ≡ least b q.method (enabled_in b book q)
  least_is q =
      (λ i. least r q.method (λ p. enabled_is q p i)) ∙ same_least r b h.rest q.method (enabled_in b book q)

  -- a ticket gets the book's number
  pub check_number : (t : Ticket) → ticket_refusal r t ≡ check_refusal b book t
  unfolding ticket_refusal
  check_number t =
      let q = t.question in
      (λ i. after_question (refusal_is q i) (set_refusal r (λ p. enabled_is q p i) q.method t.set))
      ∙ ap (after_question (ask_refusal b q)) (same_set r b h.rest (enabled_in b book q) q.method t.set)

  -- ---- the answer

  verdict_is : (o : Option ℕ) → record { number = number_of o; set = set_of o } ≡ verdict o
  verdict_is none = refl
  verdict_is (some c) = refl

  least_answer_is : (q : Question) (a : Answer) → LeastAnswer r q a → number_and_set a ≡ verdict (least b q.method (enabled_in b book q))
  least_answer_is q a j =
      (λ i. record { number = j.number i; set = j.set i })
      ∙ verdict_is (least r q.method (is_enabled r q))
      ∙ ap verdict (least_is q)

  -- a record that differs in the memo alone, which tells the truth
  left_agrees : (q : Question) (a : Answer) → LeastAnswer r q a → Agrees b book a.rules
  unfolding with_memo changed holds holds_on
  left_agrees q a j =
      subst (Agrees b book) (sym j.left)
      (record {
        loads = memo_aside r j.memo ∙ h.loads;
        edges = h.edges;
        count = h.count;
        once = h.once;
        rest = h.rest;
        sized = sized_memo r j.memo h.sized;
        lengths = j.lengths;
        correct = record { values = j.correct.values };
      })

  module _ (question : Record → Question → Answer) (q : Question)
      (when : question_refusal r q ≡ 0 → LeastAnswer r q (question r q))
      (other : (n : ℕ) → n ≡ question_refusal r q → (n ≡ 0 → ⊥) → question r q ≡ refused n r) where
    pub asked_answer : number_and_set (question r q) ≡ ask b book q
    asked_answer =
        elim (ℕ_discrete (ask_refusal b q) 0) [
          | yes z ↦ least_answer_is q (question r q) (when (refusal_is q ∙ z)) ∙ sym (rw (eq-eqb (ask_refusal b q) 0 z) refl)
          | no z ↦ ap number_and_set (other (ask_refusal b q) (sym (refusal_is q)) z) ∙ sym (rw (ne_eqb (ask_refusal b q) 0 z) refl)
        ]

    pub asked_agrees : Agrees b book (question r q).rules
    asked_agrees =
        elim (ℕ_discrete (question_refusal r q) 0) [
          | yes z ↦ left_agrees q (question r q) (when z)
          | no z ↦ subst (λ (a : Answer). Agrees b book a.rules) (sym (other (question_refusal r q) refl z)) h
        ]

  -- ---- eager and lazy

  module _ (q : Question) where
    pub eager_refused : (n : ℕ) → n ≡ question_refusal r q → (n ≡ 0 → ⊥) → eager r q ≡ refused n r
    unfolding eager
    eager_refused n e z = rw (ne_eqb (question_refusal r q) 0 (λ i. z (e ∙ i))) (ap (λ (k : ℕ). refused k r) (sym e))

    pub lazy_refused : (n : ℕ) → n ≡ question_refusal r q → (n ≡ 0 → ⊥) → lazy r q ≡ refused n r
    unfolding lazy
    lazy_refused n e z = rw (ne_eqb (question_refusal r q) 0 (λ i. z (e ∙ i))) (ap (λ (k : ℕ). refused k r) (sym e))

    eager_least : question_refusal r q ≡ 0 → LeastAnswer r q (eager r q)
    eager_least = eager_true r (loadable_table r h.loads) h.lengths h.correct q

    lazy_least : question_refusal r q ≡ 0 → LeastAnswer r q (lazy r q)
    lazy_least = lazy_true r (loadable_table r h.loads) h.lengths h.correct q

    pub eager_answer : number_and_set (eager r q) ≡ ask b book q
    eager_answer = asked_answer eager q eager_least eager_refused

    pub eager_agrees : Agrees b book (eager r q).rules
    eager_agrees = asked_agrees eager q eager_least eager_refused

    pub lazy_answer : number_and_set (lazy r q) ≡ ask b book q
    lazy_answer = asked_answer lazy q lazy_least lazy_refused

    pub lazy_agrees : Agrees b book (lazy r q).rules
    lazy_agrees = asked_agrees lazy q lazy_least lazy_refused
