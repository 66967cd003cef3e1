-- What replaying has to do with demand 3: its calls are a list of calls, between which predicates and unknown kinds change
-- nothing.
use Rattle.std.specs.Prelude.{ℕ, zero, suc, ◌<◌, ◌≡◌, refl, List, [], ◌∷◌, ◌++◌}
use Rattle.std.proofs.Common.{sym, ◌∙◌, ap, subst, arith}
use Rattle.policy.specs.declared.Record.{Record}
use Rattle.reading.specs.Loading.{load}
use Rattle.tickets.specs.declared.Ticket.{Ticket}
use Rattle.history.specs.Book.{Call, add, remove, ask_eagerly, ask_lazily, check_ticket, Book, plain, first_book}
use Rattle.history.specs.Book.{book_answer, number_and_set, engine_leaves, engine_after}
use Rattle.history.proofs.Agrees.{Agrees}
use Rattle.history.proofs.EditAgrees.{add_number_lem, remove_number_lem}
use Rattle.history.proofs.AskAgrees.{eager_answer, lazy_answer, check_number}
use Rattle.history.specs.Demand3.{CallHolds}
use Rattle.history.proofs.Theorem.{call_holds, list_agrees, start}
use Rattle.replay.specs.Replay.{ListedCall, call, liberally, strictly, unknown, answer_to, listed_call_at, left_after}
use Rattle.replay.specs.BookCalls.{book_calls_of, calls_before, book}

after_append : (r : Record) (cs ds : List Call) → engine_after r (cs ++ ds) ≡ engine_after (engine_after r cs) ds
unfolding engine_after
after_append r [] ds = refl
after_append r (c ∷ cs) ds = after_append (engine_leaves r c) cs ds

leaves : (r : Record) (x : ListedCall) → (answer_to r x).rules ≡ engine_after r (book_calls_of x)
unfolding answer_to engine_after engine_leaves
leaves r (call (add l x y)) = refl
leaves r (call (remove l x y)) = refl
leaves r (call (ask_eagerly q)) = refl
leaves r (call (ask_lazily q)) = refl
leaves r (call (check_ticket t)) = refl
leaves r (liberally q) = refl
leaves r (strictly q) = refl
leaves r unknown = refl

-- the record left is the engine's after those calls
pub left_is : (r : Record) (calls : List ℕ) (n : ℕ) → left_after r calls n ≡ engine_after r (calls_before calls n)
unfolding left_after calls_before engine_after
left_is r calls zero = refl
left_is r calls (suc n) =
    leaves (left_after r calls n) (listed_call_at calls n)
    ∙ ap (λ (x : Record). engine_after x (book_calls_of (listed_call_at calls n))) (left_is r calls n)
    ∙ sym (after_append r (calls_before calls n) (book_calls_of (listed_call_at calls n)))

-- tickets alone leave the record, memo included
pub tickets_leave : (r : Record) (calls : List ℕ) (n : ℕ)
    → ((i : ℕ) → i < n → (t : Ticket) × (listed_call_at calls i ≡ call (check_ticket t))) → left_after r calls n ≡ r
unfolding left_after answer_to
tickets_leave r calls zero all = refl
tickets_leave r calls (suc n) all =
    let (t, e) = all n (omega arith) in
    ap (λ (x : ListedCall). (answer_to (left_after r calls n) x).rules) e ∙ tickets_leave r calls n (λ i l. all i (omega arith))

-- the book's reply is answered
answer_is : (b : Record) (book : Book) (r : Record) → Agrees b book r → (c : Call)
    → number_and_set (answer_to r (call c)) ≡ book_answer b book c
unfolding answer_to book_answer
answer_is b book r h (add l x y) = ap (λ (k : ℕ). plain k) (add_number_lem b book r h l x y)
answer_is b book r h (remove l x y) = ap (λ (k : ℕ). plain k) (remove_number_lem b book r h l x y)
answer_is b book r h (ask_eagerly q) = eager_answer b book r h q
answer_is b book r h (ask_lazily q) = lazy_answer b book r h q
answer_is b book r h (check_ticket t) = ap (λ (k : ℕ). plain k) (check_number b book r h t)

-- ---- a record just loaded, and any octets of calls

module _ (text : List ℕ) (loads : (load text).number ≡ 0) (calls : List ℕ) (n : ℕ) where
  abbrev b : Record
  b = (load text).rules

  agrees : Agrees b (book text loads calls n) (left_after b calls n)
  agrees = subst (Agrees b (book text loads calls n)) (sym (left_is b calls n)) (list_agrees b (calls_before calls n) (first_book text) b (start text loads))

  -- what demand 3 says of any call put at that point
  pub point_holds : (c : Call) → CallHolds b (book text loads calls n) (left_after b calls n) c
  point_holds c = call_holds b (book text loads calls n) (left_after b calls n) agrees c

  -- and its answer's number and set are the book's
  pub point_answers : (c : Call) → listed_call_at calls n ≡ call c
      → number_and_set (answer_to (left_after b calls n) (listed_call_at calls n)) ≡ book_answer b (book text loads calls n) c
  point_answers c e =
      ap (λ (x : ListedCall). number_and_set (answer_to (left_after b calls n) x)) e ∙ answer_is b (book text loads calls n) (left_after b calls n) agrees c
