-- Calls given in parts are answered as in one list, and leave the same record; so demand 3 holds of them at every point.
use Prim.Native.Nat.{ℕ, zero, suc, ◌+◌, ◌*◌, ◌≤◌, ◌<◌}
use Rattle.std.specs.Prelude.{◌≡◌, take}
use Rattle.std.proofs.Math.Path.{refl, sym, ap}
use Rattle.std.proofs.Common.{◌∙◌, subst, length-append, take-append-drop, get_or-append-add, length-take-le}
use mathlib.Core.List.{List, [], ◌∷◌, ◌++◌, append_assoc, append-nil}
use native.Mathlib.Omega.{arith}
use Rattle.std.proofs.Math.ListN.{length, drop, get_or-append}
use Rattle.std.proofs.Math.Seq.{drop-append-add, drop-length}
use Rattle.common.specs.Lists.{at}
use Rattle.policy.specs.declared.Record.{Record}
use Rattle.reading.specs.Loading.{load}
use Rattle.history.specs.Book.{Call, number_and_set, engine_after}
use Rattle.history.specs.Demand3.{CallHolds}
use Rattle.replay.specs.Replay.{call_octets, ListedCall, call, listed_call_at, answer_to, answer_octets}
use Rattle.replay.specs.Replay.{left_after, replies, answered_count, buffer_after}
use Rattle.replay.specs.AnswerLaws.{whole_fit, answer_at_lem}
use Rattle.replay.specs.BookCalls.{book_calls_of, calls_before}
use Rattle.replay.proofs.Listed.{same_octets}
use Rattle.replay.proofs.ReplayLaws.{left_is, point_holds, point_answers}
use Rattle.replay.specs.Parts.{Part, count_in, left_after_parts, parts_replies, parts_calls, parts_count}
use Rattle.replay.specs.Parts.{record_at, book_at, PointHolds, PartsHold}

-- ---- two parts: a is n whole calls

module _ (a b : List ℕ) (n : ℕ) (whole : length a ≡ call_octets * n) where
  at_first : (k : ℕ) → k < call_octets * n → at (a ++ b) k ≡ at a k
  at_first k l = get_or-append a b 0 k (omega arith)

  at_later : (k : ℕ) → at (a ++ b) (call_octets * n + k) ≡ at b k
  at_later k = ap (λ (m : ℕ). at (a ++ b) (m + k)) (sym whole) ∙ get_or-append-add a b k 0

  -- the calls of a, then those of b
  first_call : (i : ℕ) → i < n → listed_call_at (a ++ b) i ≡ listed_call_at a i
  first_call i l = same_octets (λ d. at (a ++ b) (call_octets * i + d)) (λ d. at a (call_octets * i + d)) (λ d k. at_first (call_octets * i + d) (omega arith))

  later_at : (i k : ℕ) → at (a ++ b) (call_octets * (n + i) + k) ≡ at b (call_octets * i + k)
  later_at i k =
      let e : call_octets * (n + i) + k ≡ call_octets * n + (call_octets * i + k) = omega arith in
      ap (at (a ++ b)) e ∙ at_later (call_octets * i + k)

  pub later_call : (i : ℕ) → listed_call_at (a ++ b) (n + i) ≡ listed_call_at b i
  later_call i = same_octets (λ d. at (a ++ b) (call_octets * (n + i) + d)) (λ d. at b (call_octets * i + d)) (λ d k. later_at i d)

  first_calls : (i : ℕ) → i ≤ n → calls_before (a ++ b) i ≡ calls_before a i
  unfolding calls_before
  first_calls zero l = refl
  first_calls (suc i) l = λ j. first_calls i (omega arith) j ++ book_calls_of (first_call i (omega arith) j)

  -- the calls of demand 3 among them: those of a, then those of b
  pub joined_calls : (m : ℕ) → calls_before (a ++ b) (n + m) ≡ calls_before a n ++ calls_before b m
  unfolding calls_before
  joined_calls zero =
      let e : n + 0 ≡ n = omega arith in
      ap (calls_before (a ++ b)) e ∙ first_calls n (omega arith) ∙ sym (append-nil (calls_before a n))
  joined_calls (suc m) =
      let e : n + suc m ≡ suc (n + m) = omega arith in
      ap (calls_before (a ++ b)) e
      ∙ (λ j. joined_calls m j ++ book_calls_of (later_call m j))
      ∙ append_assoc (calls_before a n) (calls_before b m) (book_calls_of (listed_call_at b m))

  module _ (r : Record) where
    first_left : (i : ℕ) → i ≤ n → left_after r (a ++ b) i ≡ left_after r a i
    unfolding left_after
    first_left zero l = refl
    first_left (suc i) l = λ j. (answer_to (first_left i (omega arith) j) (first_call i (omega arith) j)).rules

    first_replies : (i : ℕ) → i ≤ n → replies r (a ++ b) i ≡ replies r a i
    unfolding replies
    first_replies zero l = refl
    first_replies (suc i) l =
        λ j. first_replies i (omega arith) j ++ answer_octets (answer_to (first_left i (omega arith) j) (first_call i (omega arith) j))

    -- the record: b is answered on the one that a left
    pub joined_left : (m : ℕ) → left_after r (a ++ b) (n + m) ≡ left_after (left_after r a n) b m
    unfolding left_after
    joined_left zero = let e : n + 0 ≡ n = omega arith in ap (left_after r (a ++ b)) e ∙ first_left n (omega arith)
    joined_left (suc m) =
        let e : n + suc m ≡ suc (n + m) = omega arith in
        ap (left_after r (a ++ b)) e ∙ (λ j. (answer_to (joined_left m j) (later_call m j)).rules)

    -- the answers: those to a, then those to b
    pub joined_replies : (m : ℕ) → replies r (a ++ b) (n + m) ≡ replies r a n ++ replies (left_after r a n) b m
    unfolding replies
    joined_replies zero =
        let e : n + 0 ≡ n = omega arith in
        ap (replies r (a ++ b)) e ∙ first_replies n (omega arith) ∙ sym (append-nil (replies r a n))
    joined_replies (suc m) =
        let e : n + suc m ≡ suc (n + m) = omega arith in
        ap (replies r (a ++ b)) e
        ∙ (λ j. joined_replies m j ++ answer_octets (answer_to (joined_left m j) (later_call m j)))
        ∙ append_assoc (replies r a n) (replies (left_after r a n) b m) _

    -- the buffers: p has room for the answers to a, and no more
    module _ (p q : List ℕ) (room : length p ≡ 5 * n) where
      count_first : answered_count a p ≡ n
      count_first = omega arith

      pub joined_count : answered_count (a ++ b) (p ++ q) ≡ n + answered_count b q
      joined_count = omega (arith, length-append a b, length-append p q)

      pub joined_buffer : buffer_after r (a ++ b) (p ++ q) ≡ buffer_after r a p ++ buffer_after (left_after r a n) b q
      unfolding buffer_after
      joined_buffer =
          let m = answered_count b q in
          (λ j. replies r (a ++ b) (joined_count j) ++ drop (5 * joined_count j) (p ++ q))
          ∙ (λ j. joined_replies m j ++ later j)
          ∙ append_assoc (replies r a n) (replies (left_after r a n) b m) (drop (5 * m) q)
          ∙ (λ j. sym first j ++ (replies (left_after r a n) b m ++ drop (5 * m) q))
        where
          later : drop (5 * (n + answered_count b q)) (p ++ q) ≡ drop (5 * answered_count b q) q
          later =
              let e : 5 * (n + answered_count b q) ≡ length p + 5 * answered_count b q = omega arith in
              ap (λ (k : ℕ). drop k (p ++ q)) e ∙ drop-append-add p q (5 * answered_count b q)

          first : replies r a (answered_count a p) ++ drop (5 * answered_count a p) p ≡ replies r a n
          first =
              (λ j. replies r a (count_first j) ++ drop (5 * count_first j) p)
              ∙ ap (λ (k : ℕ). replies r a n ++ drop k p) (sym room)
              ∙ ap (λ (os : List ℕ). replies r a n ++ os) (drop-length p)
              ∙ append-nil (replies r a n)

-- ---- any parts

-- the calls that a part answers are whole
whole_calls : (p : Part) → length (take (call_octets * count_in p) p.calls) ≡ call_octets * count_in p
whole_calls p = length-take-le (call_octets * count_in p) p.calls (whole_fit (length p.calls) (length p.buffer) (count_in p) refl).0

module _ (r : Record) (p : Part) where
  abbrev cut : List ℕ
  cut = take (call_octets * count_in p) p.calls

  -- what is past them does not matter
  cut_left : left_after r p.calls (count_in p) ≡ left_after r cut (count_in p)
  cut_left =
      ap (λ (os : List ℕ). left_after r os (count_in p)) (sym (take-append-drop (call_octets * count_in p) p.calls))
      ∙ first_left cut (drop (call_octets * count_in p) p.calls) (count_in p) (whole_calls p) r (count_in p) (omega arith)

  cut_replies : replies r p.calls (count_in p) ≡ replies r cut (count_in p)
  cut_replies =
      ap (λ (os : List ℕ). replies r os (count_in p)) (sym (take-append-drop (call_octets * count_in p) p.calls))
      ∙ first_replies cut (drop (call_octets * count_in p) p.calls) (count_in p) (whole_calls p) r (count_in p) (omega arith)

pub whole_parts : (ps : List Part) → length (parts_calls ps) ≡ call_octets * parts_count ps
unfolding parts_calls parts_count
whole_parts [] = refl
whole_parts (p ∷ ps) = omega (arith, length-append (take (call_octets * count_in p) p.calls) (parts_calls ps), whole_calls p, whole_parts ps)

-- the parts leave the record, and get the answers, of the one list
pub parts_left : (r : Record) (ps : List Part) → left_after_parts r ps ≡ left_after r (parts_calls ps) (parts_count ps)
unfolding left_after_parts parts_calls parts_count left_after
parts_left r [] = refl
parts_left r (p ∷ ps) =
    parts_left (left_after r p.calls (count_in p)) ps
    ∙ ap (λ (x : Record). left_after x (parts_calls ps) (parts_count ps)) (cut_left r p)
    ∙ sym (joined_left (take (call_octets * count_in p) p.calls) (parts_calls ps) (count_in p) (whole_calls p) r (parts_count ps))

pub parts_replies_lem : (r : Record) (ps : List Part) → parts_replies r ps ≡ replies r (parts_calls ps) (parts_count ps)
unfolding parts_replies parts_calls parts_count replies
parts_replies_lem r [] = refl
parts_replies_lem r (p ∷ ps) =
    (λ j. cut_replies r p j ++ (parts_replies_lem (left_after r p.calls (count_in p)) ps
    ∙ ap (λ (x : Record). replies x (parts_calls ps) (parts_count ps)) (cut_left r p)) j)
    ∙ sym (joined_replies (take (call_octets * count_in p) p.calls) (parts_calls ps) (count_in p) (whole_calls p) r (parts_count ps))

-- the record left is the engine's after all calls of the parts
pub parts_engine : (r : Record) (ps : List Part) → left_after_parts r ps ≡ engine_after r (calls_before (parts_calls ps) (parts_count ps))
parts_engine r ps = parts_left r ps ∙ left_is r (parts_calls ps) (parts_count ps)

-- ---- a record just loaded: demand 3 holds of any parts

module _ (text : List ℕ) (loads : (load text).number ≡ 0) (ps : List Part) where
  abbrev b : Record
  b = (load text).rules

  module _ (p : Part) (i : ℕ) where
    -- that point in the one list
    same_record_lem : left_after b (parts_calls ps ++ p.calls) (parts_count ps + i) ≡ record_at text loads ps p i
    same_record_lem =
        joined_left (parts_calls ps) p.calls (parts_count ps) (whole_parts ps) b i
        ∙ ap (λ (x : Record). left_after x p.calls i) (sym (parts_left b ps))

    same_call : listed_call_at (parts_calls ps ++ p.calls) (parts_count ps + i) ≡ listed_call_at p.calls i
    same_call = later_call (parts_calls ps) p.calls (parts_count ps) (whole_parts ps) i

    point : i < count_in p → (c : Call) → listed_call_at p.calls i ≡ call c
        → PointHolds text loads ps p i c (buffer_after (left_after_parts b ps) p.calls p.buffer)
    point l c e =
        let one = parts_calls ps ++ p.calls in
        let n = parts_count ps + i in
        record {
          holds = subst (λ (x : Record). CallHolds b (book_at text loads ps p i) x c) same_record_lem (point_holds text loads one n c);
          answers =
              (λ j. number_and_set (answer_to (sym same_record_lem j) (sym (same_call ∙ e) j)))
              ∙ point_answers text loads one n c (same_call ∙ e);
          octets =
              answer_at_lem (left_after_parts b ps) p.calls p.buffer i l
              ∙ ap (λ (x : ListedCall). answer_octets (answer_to (record_at text loads ps p i) x)) e;
        }

  pub parts_hold : PartsHold text loads ps
  parts_hold = record { left = parts_engine b ps; next = point }
