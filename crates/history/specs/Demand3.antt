-- Demand 3, word by word. A record just loaded from a bundle, and any list of edge additions, edge removals, eager and lazy
-- questions and tickets, refused ones included: each call gets the record that the calls before it left. Beside the engine goes
-- the edge book, which starts with the text's edge lines and is given the bundle's record and each call's kind and arguments, and
-- nothing that the engine answers or holds.
use Rattle.std.specs.Prelude.{ℕ, ◌≤◌, ◌<◌, ◌≡◌, ◌↔◌, ◌≢◌, true, List, [], ◌∷◌}
use Rattle.std.specs.Int.Count.{ones}
use Rattle.common.specs.Refusals.{no_set}
use Rattle.policy.specs.declared.Record.{Record}
use Rattle.policy.specs.Edits.{added, removed}
use Rattle.formula.specs.Formula.{is_user}
use Rattle.search.specs.Search.{Before}
use Rattle.justification.specs.declared.Question.{Question}
use Rattle.justification.specs.Justification.{role_count}
use Rattle.justification.specs.Satisfying as satisfying
use Rattle.justification.specs.Predicates.{question_refusal}
use Rattle.memo.specs.Memo.{memo_for, newly}
use Rattle.reading.specs.Loading.{load}
use Rattle.access.specs.Answers.{Answer}
use Rattle.access.specs.Access.{eager, lazy}
use Rattle.tickets.specs.declared.Ticket.{Ticket}
use Rattle.tickets.specs.Tickets.{ticket_of, ticket_refusal, SetNumber}
use Rattle.history.specs.Book.{Call, add, remove, ask_eagerly, ask_lazily, check_ticket, Book, first_book, holds_edge, enabled_in}
use Rattle.history.specs.Book.{book_after_call, engine_leaves}

-- the book changes: some edge is in the one and not in the other
abbrev pub Changes : Book → Book → Type 0
Changes before after = (e : List ℕ) × (holds_edge before e ≢ holds_edge after e)

-- "each edit is accepted exactly when it changes the documents' edge book"; a refused one changes nothing
pub record EditHolds (before after : Book) (number : ℕ) (r left : Record) : Type 0 where
  pub accepted : (number ≡ 0) ↔ Changes before after
  pub refused : number ≢ 0 → (left ≡ r) × (after ≡ before)

-- "a known method, object and user"
pub record Known (b : Record) (q : Question) : Type 0 where
  pub method : q.method < b.method_count
  pub object : q.object < b.objects
  pub user : is_user b q.requestor ≡ true

-- "[a] set of grounds enabled in the graph of that book at that point [that] is consistent and meets the guard": the principals
-- that are members of c
abbrev pub Satisfies : Record → Book → Question → ℕ → Type 0
Satisfies b book q c = satisfying.Satisfies b (enabled_in b book q) q.method c

-- "Each question with a known method, object and user is denied exactly when no set .. will do. Otherwise it returns such a set,
-- the least in the documents' order: every other such set has at least as many members." The order is `Before`: by members, since 2026-06
-- then by role principals, then by number. A question that is refused changes nothing.
pub record QuestionHolds (b : Record) (book : Book) (q : Question) (r : Record) (a : Answer) : Type 0 where
  pub denied : Known b q → ((a.number ≡ no_set) ↔ ((c : ℕ) → Satisfies b book q c → ⊥))
  pub empty : Known b q → a.number ≡ no_set → a.set ≡ 0
  pub granted : Known b q → a.number ≢ no_set
      → (a.number ≡ 0) × Satisfies b book q a.set × ((c : ℕ) → Satisfies b book q c → Before (role_count b) a.set c)
  -- "every other such set has at least as many members", whatever the order among these is
  pub fewest : Known b q → a.number ≢ no_set → (c : ℕ) → Satisfies b book q c → ones a.set ≤ ones c
  -- 2026-06: "a grant shown by relation where one exists": no other such set with equally few members has fewer role principals
  pub by_relation : Known b q → a.number ≢ no_set → (c : ℕ) → Satisfies b book q c → ones a.set ≡ ones c
      → role_count b a.set ≤ role_count b c
  -- "the documents' count": "the number of formulas known after and not known before (before is counted after the emptying)"
  pub counted : Known b q → a.evaluations ≡ newly (memo_for r.memo q) a.rules.memo
  pub refused : (Known b q → ⊥) → (a.rules ≡ r) × (a.set ≡ 0) × (a.evaluations ≡ 0) × (a.number ≢ 0)

pub record BothForms (r : Record) (q : Question) : Type 0 where
  -- "Eager and lazy forms of one question, put at the same point, return the same set."
  pub number : (eager r q).number ≡ (lazy r q).number
  pub set : (eager r q).set ≡ (lazy r q).set
  -- "From equal records the lazy form of a question returns at most as many evaluations as the eager form of the same question, both
  -- by the documents' count."
  pub evaluations : (lazy r q).evaluations ≤ (eager r q).evaluations

-- the set that a question grants is accepted as its ticket, before the question and after it
pub record GrantHolds (q : Question) (r : Record) (a : Answer) : Type 0 where
  pub before : a.number ≡ 0 → ticket_refusal r (ticket_of q a.set) ≡ 0
  pub after : a.number ≡ 0 → ticket_refusal a.rules (ticket_of q a.set) ≡ 0

-- a form of the ticket's question is granted, with a set that has no more members
pub record NoMoreMembers (t : Ticket) (a : Answer) : Type 0 where
  pub granted : a.number ≡ 0
  pub members : ones a.set ≤ ones t.set

-- 2026-01: "The server must accept a ticket that passes 19 and 14 to 16 exactly when every member is a principal and enabled, the set is
-- consistent, and it meets the guard .. 20 for a member that is no principal or isn't enabled, 21 for a set that isn't consistent, 22 for
-- a guard not met, tested in that order after 19 and 14 to 16" (`SetNumber`), by the book's graph; it "leaves the record, memo included".
pub record TicketHolds (b : Record) (book : Book) (t : Ticket) (r : Record) (number : ℕ) (after : Record) : Type 0 where
  pub tested : Known b t.question → SetNumber b (enabled_in b book t.question) t.question.method t.set number
  pub refused : (Known b t.question → ⊥) → (number ≢ 0) × (number ≡ question_refusal r t.question)
  pub left : after ≡ r
  -- an accepted ticket's question is granted with no more members, in either form
  pub eagerly : number ≡ 0 → NoMoreMembers t (eager r t.question)
  pub lazily : number ≡ 0 → NoMoreMembers t (lazy r t.question)

-- what is said of one call, put to the record r beside the book
abbrev pub CallHolds : Record → Book → Record → Call → Type 0
CallHolds b book r (add l x y) = EditHolds book (book_after_call b book (add l x y)) (added r l x y).number r (added r l x y).rules
CallHolds b book r (remove l x y) =
    EditHolds book (book_after_call b book (remove l x y)) (removed r l x y).number r (removed r l x y).rules
CallHolds b book r (ask_eagerly q) = QuestionHolds b book q r (eager r q) × BothForms r q × GrantHolds q r (eager r q)
CallHolds b book r (ask_lazily q) = QuestionHolds b book q r (lazy r q) × BothForms r q × GrantHolds q r (lazy r q)
CallHolds b book r (check_ticket t) = TicketHolds b book t r (ticket_refusal r t) (engine_leaves r (check_ticket t))

-- of a whole list: of its first call, and of the others on the record that it left, beside the book after it
abbrev pub ListHolds : Record → Book → Record → List Call → Type 0
ListHolds b book r [] = Unit {0}
ListHolds b book r (c ∷ cs) = CallHolds b book r c × ListHolds b (book_after_call b book c) (engine_leaves r c) cs

-- of every text that loads, and every list of calls: "Its state is a set of edges, at first those of the edge lines."
abbrev pub Demand3 : Type 0
Demand3 =
    (text : List ℕ) → (load text).number ≡ 0 → (calls : List Call)
    → ListHolds (load text).rules (first_book text) (load text).rules calls
