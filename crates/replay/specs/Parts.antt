-- Calls given in parts: each part is answered on the record that the parts before it left, as `access_answer` does on a lent record.
use Rattle.std.specs.Prelude.{ℕ, ◌+◌, ◌*◌, ◌<◌, ◌≡◌, List, [], ◌∷◌, ◌++◌, take, drop}
use Rattle.policy.specs.declared.Record.{Record}
use Rattle.reading.specs.Loading.{load}
use Rattle.history.specs.Book.{Call, Book, book_answer, number_and_set, engine_after}
use Rattle.history.specs.Demand3.{CallHolds}
use Rattle.replay.specs.Replay.{call_octets, call, listed_call_at, answer_to, answer_octets, answered_count, left_after, replies, buffer_after}
use Rattle.replay.specs.BookCalls.{calls_before, book}

-- what is given at once: octets of calls, and a buffer for their answers
pub record Part : Type 0 where
  pub calls : List ℕ
  pub buffer : List ℕ

-- how many of its calls are answered: as many as are whole and fit
abbrev pub count_in : Part → ℕ
count_in p = answered_count p.calls p.buffer

-- the record that the last part left, and the octets of the answers to all parts
unfoldable pub left_after_parts : Record → List Part → Record
left_after_parts r [] = r
left_after_parts r (p ∷ ps) = left_after_parts (left_after r p.calls (count_in p)) ps

unfoldable pub parts_replies : Record → List Part → List ℕ
parts_replies r [] = []
parts_replies r (p ∷ ps) = replies r p.calls (count_in p) ++ parts_replies (left_after r p.calls (count_in p)) ps

-- the calls that the parts answer, in one list, and how many they are
unfoldable pub parts_calls : List Part → List ℕ
parts_calls [] = []
parts_calls (p ∷ ps) = take (call_octets * count_in p) p.calls ++ parts_calls ps

unfoldable pub parts_count : List Part → ℕ
parts_count [] = 0
parts_count (p ∷ ps) = count_in p + parts_count ps

-- ---- demand 3, of any parts given on a record just loaded

module _ (text : List ℕ) (loads : (load text).number ≡ 0) (ps : List Part) where
  abbrev b : Record
  b = (load text).rules

  -- at call i of the part p, given after the parts ps: the record that it is put to, and the book after all calls before it
  module _ (p : Part) (i : ℕ) where
    abbrev pub record_at : Record
    record_at = left_after (left_after_parts b ps) p.calls i

    abbrev pub book_at : Book
    book_at = book text loads (parts_calls ps ++ p.calls) (parts_count ps + i)

  -- what demand 3 says of the call; number and set are the book's; and the octets of its answer stand in the buffer `after`
  pub record PointHolds (p : Part) (i : ℕ) (c : Call) (after : List ℕ) : Type 0 where
    pub holds : CallHolds b (book_at p i) (record_at p i) c
    pub answers : number_and_set (answer_to (record_at p i) (call c)) ≡ book_answer b (book_at p i) c
    pub octets : take 5 (drop (5 * i) after) ≡ answer_octets (answer_to (record_at p i) (call c))

  -- the record that the parts leave is the engine's after all their calls, and every call of a part given next holds
  pub record PartsHold : Type 0 where
    pub left : left_after_parts b ps ≡ engine_after b (calls_before (parts_calls ps) (parts_count ps))
    pub next : (p : Part) (i : ℕ) → i < count_in p → (c : Call) → listed_call_at p.calls i ≡ call c
        → PointHolds p i c (buffer_after (left_after_parts b ps) p.calls p.buffer)
