-- Partway through the lines of one kind, for any kind that has a table: what a line more, a refused line and a line of another kind make of
-- it.
use Rattle.std.specs.Prelude.{ℕ, ◌+◌, ◌≤◌, ◌<◌, ◌≡◌, refl, ◌≢◌, true, false, List, drop, Ok, Err}
use Rattle.std.proofs.Common.{sym, ◌∙◌, ap, arith, ne_eqb}
use Rattle.std.proofs.Math.Decide.{ℕ_discrete}
use Rattle.common.specs.RefusalNumbers.{number}
use Rattle.common.specs.declared.Refusal.{Refusal}
use Rattle.octets.specs.Line.{octets, kind_octet, frame, lines}
use Rattle.octets.proofs.LineLaws.{accepted}
use Rattle.policy.specs.declared.Record.{Record}
use Rattle.policy.specs.Table.{Kind, head, end, code, is_kind, count, room, appended, kind_of}
use Rattle.policy.specs.LinesBefore.{lines_before, following, lines_following, lines_most, none_between, code_rises}
use Rattle.policy.specs.Rows.{row_refusal}
use Rattle.policy.specs.LoadableLaws.{table_few}
use Rattle.policy.specs.RoomLaws.{room_left}
use Rattle.policy.specs.GrowthLaws.{tables_more}
use Rattle.policy.specs.TableLaws.{sized_appended, count_other, count_same, kind_of_code}
use Rattle.lines.specs.declared.Cursor.{Cursor}
use Rattle.lines.specs.NextLine.{no_line, refused_line, next_of}
use Rattle.lines.specs.Judging.{size_of, CursorBound, moved_past}
use Rattle.lines.proofs.FoundLine.{FoundLine, found_sum, other_kind, refused_line_lem}
use Rattle.lines.proofs.RefusalSome.{some_number}
use Rattle.reading.specs.declared.BadLine.{BadLine}
use Rattle.reading.specs.declared.Stage.{Stage}
use Rattle.reading.specs.Body.{numbers}
use Rattle.reading.specs.Loading.{misplaced, line_refusal, after_line, not_loaded, read}
use Rattle.reading.specs.Stages.{reading, loaded_from, refused_at, Begun, Ready, Reads}
use Rattle.reading.proofs.OneLine.{misplaced_other, misplaced_below, well_placed, refused_row, read_not, read_on, body_length}
use Rattle.reading.proofs.OneLine.{refused_reading}

-- a stage of the cursor and the record
abbrev pub stage : Cursor → Record → Stage
stage c r = record { cursor = c; rules = r }

-- neither head nor end
pub record HasTable (k : Kind) : Type 0 where
  pub low : 1 < code k
  pub high : code k < 0xFF

-- lines of kind k are being read: none has been refused, and so many have been taken
pub record Partway (text : List ℕ) (k : Kind) (start : Stage) (c : Cursor) (r : Record) : Type 0 where
  pub same : loaded_from text (Ok (stage c r)) ≡ loaded_from text (Ok start)
  pub begun : Begun (lines_before k + count k r) (stage c r)
  pub last : c.last ≤ code k
  pub empty : (j : Kind) → code k < code j → count j r ≡ 0
  pub others : (os : List ℕ) → frame (drop c.offset text) ≡ octets os → kind_octet os < code k
      → misplaced (reading (stage c r)) (kind_of (kind_octet os)) os ≡ true

pub partway_start : (text : List ℕ) (k : Kind) (s : Stage) → Ready text k s → Partway text k s s.cursor s.rules
partway_start text k s r =
    let e : count k s.rules ≡ 0 = r.empty k (omega arith) in
    let b = r.begun in
    record {
      same = refl;
      begun = record { some = b.some; few = (let f = b.few in omega arith); sum = b.sum; sized = b.sized; loads = b.loads };
      last = (let l = r.last in omega arith);
      empty = λ j l. r.empty j (omega arith);
      others = r.others;
    }

-- what is loaded from a stage that goes on, and where the line at the cursor is refused
pub from_on : (text : List ℕ) (s : Stage) → loaded_from text (Ok s) ≡ read (reading s) (lines (drop s.cursor.offset text))
unfolding loaded_from
from_on text s = refl

pub from_refused : (text : List ℕ) (bad : BadLine) → loaded_from text (Err bad) ≡ not_loaded (number bad.refusal) bad.line
unfolding loaded_from
from_refused text bad = refl

module _ (text : List ℕ) (k : Kind) (p : HasTable k) (start : Stage) (c : Cursor) (r : Record) (g : Partway text k start c r) where
  not_head : is_kind k head ≡ false
  not_head = ne_eqb (code k) 1 (λ e. let l = p.low in omega arith)

  not_end : is_kind k end ≡ false
  not_end = ne_eqb (code k) 0xFF (λ e. let l = p.high in omega arith)

  not_last : c.last ≢ 0xFF
  not_last e = let l = g.last in let h = p.high in omega arith

  on : loaded_from text (Ok start) ≡ read (reading (stage c r)) (lines (drop c.offset text))
  on = sym g.same ∙ from_on text (stage c r)

  -- the line is refused
  not_read : (why : Refusal) → read (reading (stage c r)) (lines (drop c.offset text)) ≡ not_loaded (number why) (c.lines + 1)
      → Reads text k start (Err (refused_at c why))
  not_read why q = record { same = from_refused text (refused_at c why) ∙ sym (on ∙ q); ready = tt }

  -- the line is refused as one of its kind
  pub partway_unread : (why : Refusal) → next_of text c.offset (code k) (size_of k) ≡ refused_line (number why)
      → Reads text k start (Err (refused_at c why))
  partway_unread why e =
      not_read why
      (refused_reading (reading (stage c r)) text c.offset k (size_of k) (number why) refl
      (refused_line_lem text c.offset (code k) (size_of k) e)).1

  -- no line of kind k, or the text's end: the reader is done
  pub partway_done : next_of text c.offset (code k) (size_of k) ≡ no_line → Reads text k start (Ok (stage c r))
  partway_done e =
      let b = g.begun in
      let up = code_rises k p.high in
      record {
        same = g.same;
        ready = record {
          begun = record {
            some = b.some;
            few = (let f = b.few in let m = table_few r k (b.loads k) in omega (arith, lines_following k));
            sum = b.sum;
            sized = b.sized;
            loads = b.loads;
          };
          last = (let l = g.last in omega arith);
          empty = λ j l. g.empty j (omega arith);
          others = λ os f l. other os f l (ℕ_discrete (kind_octet os) (code k)) (ℕ_discrete (kind_octet os) (code (kind_of (kind_octet os))));
        };
      }
    where
      -- of another kind than k: one before it, or of no kind
      other : (os : List ℕ) → frame (drop c.offset text) ≡ octets os → kind_octet os < code (following k) → Dec (kind_octet os ≡ code k)
          → Dec (kind_octet os ≡ code (kind_of (kind_octet os))) → misplaced (reading (stage c r)) (kind_of (kind_octet os)) os ≡ true
      other os f l (yes q) y = absurd (other_kind text c.offset (code k) (size_of k) e f q)
      other os f l (no h) (yes q) = g.others os f (let m = none_between k (kind_of (kind_octet os)) (omega arith) in omega arith)
      other os f l (no h) (no q) = misplaced_other (reading (stage c r)) (kind_of (kind_octet os)) os q

  -- ---- a line of kind k

  module _ {next sum : ℕ} (f : FoundLine text c.offset (code k) (size_of k) next sum) where
    known : kind_of (kind_octet f.os) ≡ k
    known = ap kind_of f.ours ∙ kind_of_code k

    placed : misplaced (reading (stage c r)) k f.os ≡ false
    placed =
        let h = (accepted f.framed).long in
        let u = body_length f.os (omega arith) in
        well_placed (reading (stage c r)) k f.os f.ours not_last not_head g.begun.some g.last (let z = f.sized in omega arith)

    refusal : line_refusal (reading (stage c r)) k f.os ≡ row_refusal k (count k r) r (numbers k f.os)
    refusal = refused_row (reading (stage c r)) k f.os placed not_end

    -- its numbers are refused
    pub partway_refused : (why : Refusal) → number why ≡ row_refusal k (count k r) r (numbers k f.os)
        → Reads text k start (Err (refused_at c why))
    partway_refused why e =
        not_read why
        (read_not (reading (stage c r)) text c.offset f.within f.framed k known (refusal ∙ sym e) (some_number why))

    -- and there is room for it
    pub has_room_lem : row_refusal k (count k r) r (numbers k f.os) ≡ 0 → count k r < room k
    has_room_lem e = room_left k r (numbers k f.os) p.low p.high g.begun.loads e

    -- its numbers are taken
    pub partway_more : 0 ≡ row_refusal k (count k r) r (numbers k f.os)
        → Partway text k start (moved_past c (code k) next sum) (appended k r (numbers k f.os))
    unfolding after_line
    partway_more e =
        let few = has_room_lem (sym e) in
        let v = numbers k f.os in
        let low : 1 < code k = p.low in
        let high : code k < 0xFF = p.high in
        let one : count k (appended k r v) ≡ count k r + 1 = count_same k r v low high in
        let b = g.begun in
        let m = found_sum f in
        record {
          same = from_on text (stage (moved_past c (code k) next sum) (appended k r v)) ∙ sym moved ∙ sym on;
          begun = record {
            some = omega arith;
            few = (let c = b.few in omega arith);
            sum = (let c = b.sum in omega arith);
            sized = sized_appended k v b.sized;
            loads = tables_more k r v low high b.sized b.loads g.empty (sym e);
          };
          last = omega arith;
          empty = λ j l. count_other k j r v (ne_eqb (code k) (code j) (λ z. omega arith)) ∙ g.empty j l;
          others =
              λ os q l. misplaced_below (reading (stage (moved_past c (code k) next sum) (appended k r v))) (kind_of (kind_octet os)) os l;
        }
      where
        moved :
            read (reading (stage c r)) (lines (drop c.offset text))
            ≡ read (reading (stage (moved_past c (code k) next sum) (appended k r (numbers k f.os)))) (lines (drop next text))
        moved =
            read_on (reading (stage c r)) text c.offset f.within f.framed k known (refusal ∙ sym e)
            ∙ (λ i. read
            (record { lines = c.lines + 1; last = code k; sum = c.sum + sym f.summed i; rules = appended k r (numbers k f.os) })
            (lines (drop (sym f.follows i) text)))

-- the counts of the cursor have room for one line more
pub cursor_bound : (text : List ℕ) (k : Kind) {start : Stage} {c : Cursor} {r : Record} → Partway text k start c r → CursorBound c
cursor_bound text k {r = r} g =
    let b = g.begun.few in
    let m = lines_most k in
    let t = table_few r k (g.begun.loads k) in
    let s = g.begun.sum in
    record { few = omega arith; sum = omega arith }
