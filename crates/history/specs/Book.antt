-- The edge book (document 01, "The edge book"), and the engine beside it, over any list of calls.
use Rattle.std.specs.Prelude.{ℕ, Bool, not, cond, List, [], ◌∷◌, length, leb, eqb}
use Rattle.std.proofs.Math.Option.{Option, none, some}
use Rattle.common.specs.Limits.{most_edges}
use Rattle.common.specs.Lists.{at, any, those, same}
use Rattle.common.specs.Causes.{cause, first}
use Rattle.common.specs.Refusals.{edge_out_of_range, edge_present, edge_absent, edges_full, no_method, no_object, not_user, no_set}
use Rattle.octets.specs.Line.{Framed, refused, octets, kind_octet, body_of, lines}
use Rattle.rows.specs.Checks.{edge_in_range}
use Rattle.policy.specs.declared.Record.{Record}
use Rattle.policy.specs.EditAnswers.{Edited}
use Rattle.policy.specs.Edits.{added, removed}
use Rattle.formula.specs.Formula.{is_user, holds_on}
use Rattle.justification.specs.declared.Question.{Question}
use Rattle.justification.specs.Justification.{least}
use Rattle.memo.specs.Walk.{formula_of}
use Rattle.access.specs.Answers.{Answer}
use Rattle.access.specs.Access.{eager, lazy}
use Rattle.tickets.specs.declared.Ticket.{Ticket}
use Rattle.tickets.specs.Tickets.{set_refusal, after_question, ticket_refusal}

-- a call's kind and its arguments other than the record
pub data Call : Type 0 where
  add remove : ℕ → ℕ → ℕ → Call
  ask_eagerly ask_lazily : Question → Call
  check_ticket : Ticket → Call

-- what a call answers: its number, and the set (empty for an edit and a ticket)
pub record BookAnswer : Type 0 where
  pub number : ℕ
  pub set : ℕ

abbrev pub plain : ℕ → BookAnswer
plain n = record { number = n; set = 0 }

-- ---- the book: a set of edges (label, from, to), beside the bundle's record b, of which all but the edges stays

abbrev pub Book : Type 0
Book = List (List ℕ)

-- "at first those of the edge lines": label, from and to of the lines of kind 03, which are the octets of their bodies
abbrev pub edge_lines : List Framed → Book
edge_lines [] = []
edge_lines (refused n ∷ ls) = edge_lines ls
edge_lines (octets os ∷ ls) =
    cond (eqb (kind_octet os) 0x03) ((at (body_of os) 0 ∷ at (body_of os) 1 ∷ at (body_of os) 2 ∷ []) ∷ edge_lines ls) (edge_lines ls)

abbrev pub first_book : List ℕ → Book
first_book text = edge_lines (lines text)

abbrev pub holds_edge : Book → List ℕ → Bool
holds_edge book e = any (same e) book

-- add: 10 the label is above 15 or an object isn't below N; 11 the edge is in the book; 13 the book has 512 edges
abbrev pub add_refusal : Record → Book → ℕ → ℕ → ℕ → ℕ
add_refusal b book l x y =
    first (cause edge_out_of_range (not (edge_in_range b.objects l x y)) ∷ cause edge_present (holds_edge book (l ∷ x ∷ y ∷ []))
    ∷ cause edges_full (leb most_edges (length book)) ∷ [])

-- remove: 10; 12 the edge isn't in the book
abbrev pub remove_refusal : Record → Book → ℕ → ℕ → ℕ → ℕ
remove_refusal b book l x y =
    first (cause edge_out_of_range (not (edge_in_range b.objects l x y)) ∷ cause edge_absent (not (holds_edge book (l ∷ x ∷ y ∷ []))) ∷ [])

abbrev pub ask_refusal : Record → Question → ℕ
ask_refusal b q =
    first
    (cause no_method (leb b.method_count q.method)
    ∷ cause no_object (leb b.objects q.object)
    ∷ cause not_user (not (is_user b q.requestor))
    ∷ [])

-- with none denied: 17, empty set; otherwise granted: 0 and the least of them
abbrev pub verdict : Option ℕ → BookAnswer
verdict none = plain no_set
verdict (some c) = record { number = 0; set = c }

-- principal p is enabled in the book's graph, its formula evaluated afresh
abbrev pub enabled_in : Record → Book → Question → ℕ → Bool
enabled_in b book q p = holds_on b book (formula_of b p) q.object q.object q.requestor

-- the least consistent set of principals enabled in the book's graph that meets the guard
abbrev pub ask : Record → Book → Question → BookAnswer
ask b book q = cond (eqb (ask_refusal b q) 0) (verdict (least b q.method (enabled_in b book q))) (plain (ask_refusal b q))

-- a ticket: 20, 21 or 22 by the principals enabled in the book's graph, after 14 to 16
abbrev pub check_refusal : Record → Book → Ticket → ℕ
check_refusal b book t =
    let q = t.question in
    after_question (ask_refusal b q) (set_refusal b (enabled_in b book q) q.method t.set)

-- the edge goes in, or out, unless the edit is refused; a question and a ticket leave the book
unfoldable pub book_after_call : Record → Book → Call → Book
book_after_call b book (add l x y) = cond (eqb (add_refusal b book l x y) 0) ((l ∷ x ∷ y ∷ []) ∷ book) book
book_after_call b book (remove l x y) = cond (eqb (remove_refusal b book l x y) 0) (those (λ e. not (same (l ∷ x ∷ y ∷ []) e)) book) book
book_after_call b book (ask_eagerly q) = book
book_after_call b book (ask_lazily q) = book
book_after_call b book (check_ticket t) = book

unfoldable pub book_answer : Record → Book → Call → BookAnswer
book_answer b book (add l x y) = plain (add_refusal b book l x y)
book_answer b book (remove l x y) = plain (remove_refusal b book l x y)
book_answer b book (ask_eagerly q) = ask b book q
book_answer b book (ask_lazily q) = ask b book q
book_answer b book (check_ticket t) = plain (check_refusal b book t)

-- the book after a list of calls
unfoldable pub book_after : Record → Book → List Call → Book
book_after b book [] = book
book_after b book (c ∷ cs) = book_after b (book_after_call b book c) cs

-- ---- the engine: each call goes to the record that the call before it left

abbrev pub edit_number : Edited → BookAnswer
edit_number a = plain a.number

abbrev pub number_and_set : Answer → BookAnswer
number_and_set a = record { number = a.number; set = a.set }

unfoldable pub engine_leaves : Record → Call → Record
engine_leaves r (add l x y) = (added r l x y).rules
engine_leaves r (remove l x y) = (removed r l x y).rules
engine_leaves r (ask_eagerly q) = (eager r q).rules
engine_leaves r (ask_lazily q) = (lazy r q).rules
engine_leaves r (check_ticket t) = r

unfoldable pub engine_answer : Record → Call → BookAnswer
engine_answer r (add l x y) = edit_number (added r l x y)
engine_answer r (remove l x y) = edit_number (removed r l x y)
engine_answer r (ask_eagerly q) = number_and_set (eager r q)
engine_answer r (ask_lazily q) = number_and_set (lazy r q)
engine_answer r (check_ticket t) = plain (ticket_refusal r t)

unfoldable pub engine_after : Record → List Call → Record
engine_after r [] = r
engine_after r (c ∷ cs) = engine_after (engine_leaves r c) cs
