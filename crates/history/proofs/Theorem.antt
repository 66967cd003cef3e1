-- THE THEOREM of demand 3, over every loaded text and every list of calls.
use Rattle.std.specs.Prelude.{ℕ, ◌^◌, ◌<◌, ◌≡◌, refl, ◌↔◌, ◌≢◌, Bool, not, cond, List, [], ◌∷◌, leb, eqb, length}
use Rattle.std.proofs.Math.Path.{sym}
use Rattle.std.proofs.Common.{◌∙◌, ap, subst, arith, eq-eqb, ne_eqb, leb-false}
use Rattle.std.proofs.Math.Bool.{true, false, false≢true}
use Rattle.std.proofs.Math.Option.{Option, none, some}
use Rattle.std.proofs.lemmas.Bool.{lt-leb}
use native.Mathlib.Decide.{ℕ_discrete}
use Rattle.common.specs.Limits.{most_edges}
use Rattle.common.specs.Lists.{same}
use Rattle.common.specs.BoolLaws.{or_left}
use Rattle.common.specs.Causes.{cause, first}
use Rattle.common.specs.ListLaws.{length_table, same_self}
use Rattle.common.specs.Refusals.{edge_out_of_range, edge_present, edge_absent, edges_full, no_method, no_object, not_user, no_set}
use Rattle.policy.specs.declared.Record.{Record}
use Rattle.policy.specs.Table.{edge, row}
use Rattle.rows.specs.Checks.{edge_in_range}
use Rattle.policy.specs.Edits.{without, added, removed}
use Rattle.formula.specs.Formula.{is_user}
use Rattle.justification.specs.declared.Question.{Question}
use Rattle.justification.specs.Justification.{role_count, least}
use Rattle.justification.specs.SatisfyingLaws.{passes, passes_satisfies, satisfies_inside, satisfies_passes}
use Rattle.justification.specs.Predicates.{question_refusal}
use Rattle.justification.specs.Order.{IsLeast}
use Rattle.justification.specs.OrderFact as order
use Rattle.reading.specs.Loading.{load}
use Rattle.reading.specs.LoadingLaws.{as_loaded}
use Rattle.access.specs.Answers.{Answer}
use Rattle.access.specs.Access.{refused, eager, lazy}
use Rattle.access.specs.AccessLaws.{eager_counts, lazy_counts, same_always, lazy_at_most}
use Rattle.access.specs.CorrectMemo.{CorrectMemo}
use Rattle.access.specs.CorrectMemoLaws.{emptied_correct}
use Rattle.memo.specs.Memo.{memo_for, newly}
use Rattle.memo.specs.WalkLaws.{MemoLengths}
use Rattle.search.specs.Search.{Before}
use Rattle.search.proofs.SearchLaws.{before_members, before_role_count}
use Rattle.tickets.specs.declared.Ticket.{Ticket}
use Rattle.tickets.specs.Tickets.{ticket_of, ticket_refusal, SetNumber}
use Rattle.tickets.proofs.TicketLaws.{set_number, ticket_after}
use Rattle.history.specs.Book.{Call, add, remove, ask_eagerly, ask_lazily, check_ticket, Book, BookAnswer, first_book, holds_edge}
use Rattle.history.specs.Book.{add_refusal, remove_refusal, check_refusal}
use Rattle.history.specs.Book.{ask_refusal, verdict, enabled_in, ask, book_after_call, book_after, number_and_set, engine_leaves, engine_after}
use Rattle.history.proofs.Agrees.{Distinct, Agrees}
use Rattle.history.proofs.EditAgrees.{distinct_rows, add_number_lem, add_agrees, add_refused, remove_number_lem, remove_agrees, remove_refused}
use Rattle.history.proofs.EditAgrees.{emptied_lengths, without_holds}
use Rattle.history.proofs.AskAgrees.{refusal_is, check_number, eager_answer, eager_agrees, eager_refused, lazy_answer, lazy_agrees, lazy_refused}
use Rattle.history.proofs.FirstBook.{first_edges}
use Rattle.history.specs.Demand3.{Changes, EditHolds, Known, Satisfies, QuestionHolds, BothForms, GrantHolds, NoMoreMembers}
use Rattle.history.specs.Demand3.{TicketHolds, CallHolds, ListHolds, Demand3}

-- ---- edits

-- an edit of a book that is refused leaves it, and one that is accepted changes it
edit_holds : (before after : Book) (n number : ℕ) (r left : Record) → number ≡ n → (n ≡ 0 → Changes before after) → (n ≢ 0 → after ≡ before)
    → (n ≢ 0 → left ≡ r)
    → EditHolds before after number r left
edit_holds before after n number r left e changes stays keeps =
    record {
      accepted = (λ z. changes (sym e ∙ z), λ (d, f). e ∙ decide (λ x. f (ap (λ (k : Book). holds_edge k d) (sym (stays x)))));
      refused = λ x. (keeps (λ z. x (e ∙ z)), stays (λ z. x (e ∙ z)));
    }
  where
    decide : (n ≢ 0 → ⊥) → n ≡ 0
    decide f = elim (ℕ_discrete n 0) [ yes z ↦ z | no z ↦ absurd (f z) ]

-- what an accepted edit says of its edge
absent : (x y z : Bool) → first (cause edge_out_of_range x ∷ cause edge_present y ∷ cause edges_full z ∷ []) ≡ 0 → y ≡ false
absent true y z e = absurd (omega arith)
absent false true z e = absurd (omega arith)
absent false false z e = refl

present : (x y : Bool) → first (cause edge_out_of_range x ∷ cause edge_absent (not y) ∷ []) ≡ 0 → y ≡ true
present true y e = absurd (omega arith)
present false true e = refl
present false false e = absurd (omega arith)

module _ (b : Record) (book : Book) (r : Record) (h : Agrees b book r) where
  module _ (l x y : ℕ) where
    abbrev it : List ℕ
    it = l ∷ x ∷ y ∷ []

    add_holds : CallHolds b book r (add l x y)
    unfolding book_after_call
    add_holds =
        edit_holds book (cond (eqb (add_refusal b book l x y) 0) (it ∷ book) book) (add_refusal b book l x y) (added r l x y).number r
        (added r l x y).rules (add_number_lem b book r h l x y)
        (λ z. (
          it,
          λ e.
              let no : holds_edge book it ≡ false = absent (not (edge_in_range b.objects l x y)) (holds_edge book it)
              (leb most_edges (length book)) z in
              let now : holds_edge (cond (eqb (add_refusal b book l x y) 0) (it ∷ book) book) it ≡ true = rw
              (eq-eqb (add_refusal b book l x y) 0 z) (or_left (same it it) (holds_edge book it) (same_self it)) in
              false≢true (sym no ∙ e ∙ now),
        ))
        (λ z. rw (ne_eqb (add_refusal b book l x y) 0 z) refl)
        (λ z. add_refused b book r h l x y (ne_eqb (add_refusal b book l x y) 0 z))

    remove_holds : CallHolds b book r (remove l x y)
    unfolding book_after_call
    remove_holds =
        edit_holds book (cond (eqb (remove_refusal b book l x y) 0) (without it book) book) (remove_refusal b book l x y)
        (removed r l x y).number r (removed r l x y).rules
        (remove_number_lem b book r h l x y)
        (λ z. (
          it,
          λ e.
              let was : holds_edge book it ≡ true = present (not (edge_in_range b.objects l x y)) (holds_edge book it) z in
              let now : holds_edge (cond (eqb (remove_refusal b book l x y) 0) (without it book) book) it ≡ false = rw
              (eq-eqb (remove_refusal b book l x y) 0 z) (without_holds it it book ∙ rw (same_self it) refl) in
              false≢true (sym now ∙ sym e ∙ was),
        ))
        (λ z. rw (ne_eqb (remove_refusal b book l x y) 0 z) refl)
        (λ z. remove_refused b book r h l x y (ne_eqb (remove_refusal b book l x y) 0 z))

  -- ---- questions

  module _ (q : Question) where
    -- a known method, object and user is what is not refused
    known_asked : Known b q → ask_refusal b q ≡ 0
    known_asked k = rw (lt-leb b.method_count q.method k.method, lt-leb b.objects q.object k.object, k.user) refl

    asked_known : ask_refusal b q ≡ 0 → Known b q
    asked_known z = go (leb b.method_count q.method) (leb b.objects q.object) (is_user b q.requestor) refl refl refl z
      where
        go : (u v w : Bool) → leb b.method_count q.method ≡ u → leb b.objects q.object ≡ v → is_user b q.requestor ≡ w
            → first (cause no_method u ∷ cause no_object v ∷ cause not_user (not w) ∷ []) ≡ 0 → Known b q
        go true v w p i t e = absurd (omega arith)
        go false true w p i t e = absurd (omega arith)
        go false false true p i t e =
            record { method = leb-false b.method_count q.method p; object = leb-false b.objects q.object i; user = t }
        go false false false p i t e = absurd (omega arith)

    -- the sets that will do are those that pass
    abbrev will_do : ℕ → Bool
    will_do c = passes b q.method (enabled_in b book q) c

    does : (c : ℕ) → c < 2 ^ b.principal_count → will_do c ≡ true → Satisfies b book q c
    does = passes_satisfies b q.method (enabled_in b book q)

    least_does : IsLeast (role_count b) b.principal_count will_do (least b q.method (enabled_in b book q))
    least_does = order.least_is b q.method (enabled_in b book q)

    -- such a set, as a number that is looked for
    found_among : {P : Type 0} (c : ℕ) → (c < 2 ^ b.principal_count → will_do c ≡ true → P) → Satisfies b book q c → P
    found_among c f w = f (satisfies_inside b q.method (enabled_in b book q) w) (satisfies_passes b q.method (enabled_in b book q) c w)

    -- what the verdict of a least set says
    verdict_denied : (found : Option ℕ) → IsLeast (role_count b) b.principal_count will_do found
        → (((verdict found).number ≡ no_set) ↔ ((c : ℕ) → Satisfies b book q c → ⊥))
    verdict_denied none n = (λ e c w. found_among c (n c) w, λ f. refl)
    verdict_denied (some c) n = (λ e. absurd (omega arith), λ f. absurd (f c (does c n.0 n.1)))

    verdict_empty : (found : Option ℕ) → (verdict found).number ≡ no_set → (verdict found).set ≡ 0
    verdict_empty none e = refl
    verdict_empty (some c) e = absurd (omega arith)

    verdict_granted : (found : Option ℕ) → IsLeast (role_count b) b.principal_count will_do found → (verdict found).number ≢ no_set
        → ((verdict found).number ≡ 0) × Satisfies b book q (verdict found).set
        × ((c : ℕ) → Satisfies b book q c → Before (role_count b) (verdict found).set c)
    verdict_granted none n x = absurd (x refl)
    verdict_granted (some c) n x = (refl, does c n.0 n.1, λ d w. found_among d (n.2 d) w)

    -- of any answer that is the book's reply
    question_holds : (a : Answer) → number_and_set a ≡ ask b book q
        → (question_refusal r q ≡ 0 → a.evaluations ≡ newly (memo_for r.memo q) a.rules.memo)
        → (ask_refusal b q ≢ 0 → a ≡ refused (ask_refusal b q) r)
        → QuestionHolds b book q r a
    question_holds a e count other =
        record {
          denied =
              λ k. subst (λ (v : BookAnswer). (v.number ≡ no_set) ↔ ((c : ℕ) → Satisfies b book q c → ⊥)) (sym (is_verdict k))
              (verdict_denied (least b q.method (enabled_in b book q)) least_does);
          empty =
              λ k. subst (λ (v : BookAnswer). v.number ≡ no_set → v.set ≡ 0) (sym (is_verdict k))
              (verdict_empty (least b q.method (enabled_in b book q)));
          granted = is_least;
          fewest = λ k n c w. before_members ((is_least k n).2 c w);
          by_relation = λ k n c w e. before_role_count e ((is_least k n).2 c w);
          counted = λ k. count (refusal_is b book r h q ∙ known_asked k);
          refused =
              λ n. (
                ap (λ (x : Answer). x.rules) (turned n),
                ap (λ (x : Answer). x.set) (turned n),
                ap (λ (x : Answer). x.evaluations) (turned n),
                λ z. n
                    (asked_known (sym (ap (λ (x : Answer). x.number) (turned n)) ∙ z)),
              );
        }
      where
        is_verdict : Known b q → number_and_set a ≡ verdict (least b q.method (enabled_in b book q))
        is_verdict k = e ∙ rw (eq-eqb (ask_refusal b q) 0 (known_asked k)) refl

        is_least : Known b q → a.number ≢ no_set
            → (a.number ≡ 0) × Satisfies b book q a.set × ((c : ℕ) → Satisfies b book q c → Before (role_count b) a.set c)
        is_least k =
            subst (λ (v : BookAnswer). v.number ≢ no_set → (v.number ≡ 0) × Satisfies b book q v.set ×
            ((c : ℕ) → Satisfies b book q c → Before (role_count b) v.set c)) (sym (is_verdict k))
            (verdict_granted (least b q.method (enabled_in b book q)) least_does)

        turned : (Known b q → ⊥) → a ≡ refused (ask_refusal b q) r
        turned n = other (λ z. n (asked_known z))

    eager_holds : QuestionHolds b book q r (eager r q)
    eager_holds =
        question_holds (eager r q) (eager_answer b book r h q) (eager_counts r q)
        (λ z. eager_refused b book r h q (ask_refusal b q) (sym (refusal_is b book r h q)) z)

    lazy_holds : QuestionHolds b book q r (lazy r q)
    lazy_holds =
        question_holds (lazy r q) (lazy_answer b book r h q) (lazy_counts r q)
        (λ z. lazy_refused b book r h q (ask_refusal b q) (sym (refusal_is b book r h q)) z)

    -- ---- a question's set as its ticket, and a ticket's question

    -- a ticket is accepted where the book's graph lets its set do
    accepted_book : (c : ℕ) → Known b q → Satisfies b book q c → check_refusal b book (ticket_of q c) ≡ 0
    accepted_book c k w =
        rw (eq-eqb (ask_refusal b q) 0 (known_asked k)) ((set_number b (enabled_in b book q) q.method c).accepted.1 w)

    -- a question that gets the number 0 was known
    granted_known : (a : Answer) → QuestionHolds b book q r a → a.number ≡ 0 → Known b q
    granted_known a hold z =
        elim (ℕ_discrete (ask_refusal b q) 0)
        [ yes u ↦ asked_known u | no u ↦ absurd ((hold.refused (λ k. u (known_asked k))).3 z) ]

    granted_set : (a : Answer) → QuestionHolds b book q r a → a.number ≡ 0 → check_refusal b book (ticket_of q a.set) ≡ 0
    granted_set a hold z =
        let k = granted_known a hold z in
        accepted_book a.set k (hold.granted k (λ n. let x : ⊥ = omega arith in x)).1

    grant_holds : (a : Answer) → QuestionHolds b book q r a → Agrees b book a.rules → GrantHolds q r a
    grant_holds a hold left =
        record {
          before = λ z. check_number b book r h (ticket_of q a.set) ∙ granted_set a hold z;
          after = λ z. check_number b book a.rules left (ticket_of q a.set) ∙ granted_set a hold z;
        }

    -- a set that will do: the question is granted with one that has no more members
    no_more : (c : ℕ) (a : Answer) → QuestionHolds b book q r a → Known b q → Satisfies b book q c → NoMoreMembers (ticket_of q c) a
    no_more c a hold k w =
        let some : a.number ≢ no_set = λ n. (hold.denied k).0 n c w in
        record { granted = (hold.granted k some).0; members = hold.fewest k some c w }

    both_forms : BothForms r q
    both_forms =
        let s = same_always r q in
        record { number = s.number; set = s.set; evaluations = lazy_at_most r q }

  -- ---- tickets

  module _ (t : Ticket) where
    abbrev asks : Question
    asks = t.question

    tested : Known b asks → SetNumber b (enabled_in b book asks) asks.method t.set (ticket_refusal r t)
    tested k =
        subst (SetNumber b (enabled_in b book asks) asks.method t.set)
        (sym (check_number b book r h t ∙ rw (eq-eqb (ask_refusal b asks) 0 (known_asked asks k)) refl))
        (set_number b (enabled_in b book asks) asks.method t.set)

    not_known : (Known b asks → ⊥) → question_refusal r asks ≢ 0
    not_known n z = n (asked_known asks (sym (refusal_is b book r h asks) ∙ z))

    accepted_known : ticket_refusal r t ≡ 0 → Known b asks
    accepted_known z =
        elim (ℕ_discrete (question_refusal r asks) 0)
        [ yes u ↦ asked_known asks (sym (refusal_is b book r h asks) ∙ u) | no u ↦ absurd (u (sym (ticket_after r t u) ∙ z)) ]

    ticket_holds : TicketHolds b book t r (ticket_refusal r t) (engine_leaves r (check_ticket t))
    unfolding engine_leaves
    ticket_holds =
        record {
          tested = tested;
          refused = λ n. let e = ticket_after r t (not_known n) in (λ z. not_known n (sym e ∙ z), e);
          left = refl;
          eagerly = λ z. let k = accepted_known z in no_more asks t.set (eager r asks) (eager_holds asks) k ((tested k).accepted.0 z);
          lazily = λ z. let k = accepted_known z in no_more asks t.set (lazy r asks) (lazy_holds asks) k ((tested k).accepted.0 z);
        }

  pub call_holds : (c : Call) → CallHolds b book r c
  call_holds (add l x y) = add_holds l x y
  call_holds (remove l x y) = remove_holds l x y
  call_holds (ask_eagerly q) =
      (eager_holds q, both_forms q, grant_holds q (eager r q) (eager_holds q) (eager_agrees b book r h q))
  call_holds (ask_lazily q) = (lazy_holds q, both_forms q, grant_holds q (lazy r q) (lazy_holds q) (lazy_agrees b book r h q))
  call_holds (check_ticket t) = ticket_holds t

  pub call_agrees : (c : Call) → Agrees b (book_after_call b book c) (engine_leaves r c)
  unfolding book_after_call engine_leaves
  call_agrees (add l x y) = add_agrees b book r h l x y
  call_agrees (remove l x y) = remove_agrees b book r h l x y
  call_agrees (ask_eagerly q) = eager_agrees b book r h q
  call_agrees (ask_lazily q) = lazy_agrees b book r h q
  call_agrees (check_ticket t) = h

-- ---- whole lists

pub list_holds : (b : Record) (cs : List Call) (book : Book) (r : Record) → Agrees b book r → ListHolds b book r cs
list_holds b [] book r h = tt
list_holds b (c ∷ cs) book r h =
    (call_holds b book r h c, list_holds b cs (book_after_call b book c) (engine_leaves r c) (call_agrees b book r h c))

-- and the record that a list leaves agrees the book that it leaves
pub list_agrees : (b : Record) (cs : List Call) (book : Book) (r : Record) → Agrees b book r → Agrees b (book_after b book cs) (engine_after r cs)
unfolding book_after engine_after
list_agrees b [] book r h = h
list_agrees b (c ∷ cs) book r h = list_agrees b cs (book_after_call b book c) (engine_leaves r c) (call_agrees b book r h c)

-- a record just loaded agrees the book of its edge lines
pub start : (text : List ℕ) → (load text).number ≡ 0 → Agrees (load text).rules (first_book text) (load text).rules
start text e =
    let g = as_loaded text e in
    let r = (load text).rules in
    let same = first_edges text e in
    record {
      loads = g.loads;
      edges = λ d. ap (λ (es : Book). holds_edge es d) same;
      count = sym (length_table r.edge_count (λ i. row edge i r)) ∙ ap length same;
      once = subst Distinct same (distinct_rows r g.loads);
      rest = refl;
      sized = g.sized;
      lengths = subst MemoLengths (sym g.memo) emptied_lengths;
      correct = subst (CorrectMemo r) (sym g.memo) (emptied_correct r 0 0);
    }

pub demand_3 : Demand3
demand_3 text e calls = list_holds (load text).rules calls (first_book text) (load text).rules (start text e)
