-- Lists of calls as octets, and what answering them one after another comes to: the octets of the answers, and the record left.
use Rattle.std.specs.Prelude.{ℕ, zero, suc, ◌+◌, ◌*◌, ◌/◌, min, cond, List, [], ◌∷◌, ◌++◌, length, drop, eqb}
use Rattle.common.specs.Lists.{at}
use Rattle.common.specs.Refusals.{wrong_kind}
use Rattle.octets.specs.Number.{number, in_octets}
use Rattle.policy.specs.declared.Record.{Record}
use Rattle.policy.specs.EditAnswers.{Edited}
use Rattle.policy.specs.Edits.{added, removed}
use Rattle.justification.specs.declared.Question.{Question}
use Rattle.justification.specs.Verdicts.{Verdict}
use Rattle.justification.specs.Predicates.{liberal, strict}
use Rattle.access.specs.Answers.{Answer}
use Rattle.access.specs.Access.{eager, lazy}
use Rattle.tickets.specs.Tickets.{ticket_of, ticket_refusal}
use Rattle.history.specs.Book.{Call, add, remove, ask_eagerly, ask_lazily, check_ticket}

-- a call as it is listed: a call of demand 3, one of the predicates, or no kind that there is
pub data ListedCall : Type 0 where
  call : Call → ListedCall
  liberally strictly : Question → ListedCall
  unknown : ListedCall

-- a call is so many octets: kind, three numbers, and the set number in 4 octets, the high one first
abbrev pub call_octets : ℕ
call_octets = 8

pub record CallFields : Type 0 where
  pub kind : ℕ
  pub first : ℕ
  pub second : ℕ
  pub third : ℕ
  pub set : ℕ

abbrev pub call_fields : (ℕ → ℕ) → CallFields
call_fields octet =
    record {
      kind = octet 0;
      first = octet 1;
      second = octet 2;
      third = octet 3;
      set = number (octet 4 ∷ octet 5 ∷ octet 6 ∷ octet 7 ∷ []);
    }

-- the call whose octets begin at a place
abbrev pub call_fields_at : List ℕ → ℕ → CallFields
call_fields_at calls place = call_fields (λ i. at calls (place + i))

abbrev pub question_of : CallFields → Question
question_of f = record { method = f.first; object = f.second; requestor = f.third }

-- by its kind octet: 0 add, 1 remove, 2 eager, 3 lazy, 4 liberal, 5 strict, 6 ticket; octets that a kind has no use for are ignored
abbrev pub of_kind : ℕ → CallFields → ListedCall
of_kind kind f =
    cond (eqb kind 0) (call (add f.first f.second f.third))
    (cond (eqb kind 1) (call (remove f.first f.second f.third))
    (cond (eqb kind 2) (call (ask_eagerly (question_of f)))
    (cond (eqb kind 3) (call (ask_lazily (question_of f)))
    (cond (eqb kind 4) (liberally (question_of f))
    (cond (eqb kind 5) (strictly (question_of f))
    (cond (eqb kind 6) (call (check_ticket (ticket_of (question_of f) f.set)))
    unknown))))))

abbrev pub listed_call_of : CallFields → ListedCall
listed_call_of f = of_kind f.kind f

-- a number alone: no set, no evaluation, the very record
abbrev pub number_answer : Record → ℕ → Answer
number_answer r n = record { number = n; set = 0; evaluations = 0; rules = r }

abbrev pub edit_answer : Edited → Answer
edit_answer e = record { number = e.number; set = 0; evaluations = 0; rules = e.rules }

-- 1 for yes
abbrev pub verdict_answer : Record → Verdict → Answer
verdict_answer r v = record { number = v.number; set = cond v.yes 1 0; evaluations = 0; rules = r }

-- what a call answers, and the record that it leaves; a kind above 6 is answered with 4 and changes nothing
unfoldable pub answer_to : Record → ListedCall → Answer
answer_to r (call (add l x y)) = edit_answer (added r l x y)
answer_to r (call (remove l x y)) = edit_answer (removed r l x y)
answer_to r (call (ask_eagerly q)) = eager r q
answer_to r (call (ask_lazily q)) = lazy r q
answer_to r (call (check_ticket t)) = number_answer r (ticket_refusal r t)
answer_to r (liberally q) = verdict_answer r (liberal r q)
answer_to r (strictly q) = verdict_answer r (strict r q)
answer_to r unknown = number_answer r wrong_kind

-- an answer's octets: number, set in 3 octets, evaluations
abbrev pub answer_octets : Answer → List ℕ
answer_octets a = (a.number ∷ []) ++ (in_octets 3 a.set ++ (a.evaluations ∷ []))

-- call i of the octets
abbrev pub listed_call_at : List ℕ → ℕ → ListedCall
listed_call_at calls i = listed_call_of (call_fields_at calls (call_octets * i))

-- the record after the first n calls, and the octets of their answers
unfoldable pub left_after : Record → List ℕ → ℕ → Record
left_after r calls zero = r
left_after r calls (suc n) = (answer_to (left_after r calls n) (listed_call_at calls n)).rules

unfoldable pub replies : Record → List ℕ → ℕ → List ℕ
replies r calls zero = []
replies r calls (suc n) = replies r calls n ++ answer_octets (answer_to (left_after r calls n) (listed_call_at calls n))

-- as many calls are answered as are whole and fit; bytes past the answers stay
abbrev pub answered_count : List ℕ → List ℕ → ℕ
answered_count calls buffer = min (length calls / call_octets) (length buffer / 5)

unfoldable pub buffer_after : Record → List ℕ → List ℕ → List ℕ
buffer_after r calls buffer = replies r calls (answered_count calls buffer) ++ drop (5 * answered_count calls buffer) buffer

-- how many are answered, and the record that the last of them leaves
pub record Replayed : Type 0 where
  pub count : ℕ
  pub rules : Record

abbrev pub replayed : Record → List ℕ → List ℕ → Replayed
replayed r calls buffer = record { count = answered_count calls buffer; rules = left_after r calls (answered_count calls buffer) }
