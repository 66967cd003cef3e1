-- How far loading has come: the notions that the contracts of the readers cite.
use Rattle.std.specs.Prelude.{ℕ, ◌+◌, ◌*◌, ◌≤◌, ◌<◌, ◌≡◌, true, cond, ◌||◌, List, [], ◌∷◌, drop, Result, Ok, Err, IfOk}
use Rattle.common.specs.RefusalNumbers.{number}
use Rattle.common.specs.declared.Refusal.{Refusal}
use Rattle.common.specs.Refusals.{wrong_kind}
use Rattle.common.specs.Refusals as refusals
use Rattle.closure.specs.Closure.{circular}
use Rattle.octets.specs.Line.{Framed, refused, octets, kind_octet, frame, lines}
use Rattle.policy.specs.declared.Record.{Record}
use Rattle.policy.specs.Table.{Kind, user, hierarchy, prerequisite, code, count, rows, indexed, kind_of}
use Rattle.policy.specs.LinesBefore.{lines_before, following}
use Rattle.policy.specs.TableLaws.{ColumnLengths}
use Rattle.policy.specs.Loadable.{table_loads}
use Rattle.lines.specs.declared.Cursor.{Cursor}
use Rattle.lines.specs.Judging.{most_line_sum}
use Rattle.reading.specs.Loaded.{Loaded}
use Rattle.reading.specs.declared.BadLine.{BadLine}
use Rattle.reading.specs.declared.Stage.{Stage}
use Rattle.reading.specs.Loading.{Reading, misplaced, not_loaded, read, load}

abbrev pub reading : Stage → Reading
reading s = record { lines = s.cursor.lines; last = s.cursor.last; sum = s.cursor.sum; rules = s.rules }

-- what loading answers from the answer of a reader on: a line was refused, or the lines from the stage's offset on are read
unfoldable pub loaded_from : List ℕ → Result Stage BadLine → Loaded
loaded_from text (Ok s) = read (reading s) (lines (drop s.cursor.offset text))
loaded_from text (Err bad) = not_loaded (number bad.refusal) bad.line

-- the line at the cursor, refused
abbrev pub refused_at : Cursor → Refusal → BadLine
refused_at c why = record { refusal = why; line = c.lines + 1 }

-- what loading answers after an end line, the last of n lines: a further line is refused; else circles are looked for, and the index is
-- built
abbrev pub after_end : ℕ → Record → List Framed → Loaded
after_end n r [] =
    cond (circular (rows hierarchy r) || circular (rows prerequisite r)) (not_loaded refusals.circle n)
    (record { number = 0; line = 0; rules = indexed r })
after_end n r (refused k ∷ ls) = not_loaded k (n + 1)
after_end n r (octets os ∷ ls) = not_loaded wrong_kind (n + 1)

unfoldable pub ended_at : List ℕ → ℕ → ℕ → Record → Loaded
ended_at text offset n r = after_end n r (lines (drop offset text))

-- the tables that circles are looked for in load
pub record CirclesReady (r : Record) : Type 0 where
  pub loads : (j : Kind) → table_loads r j ≡ true

-- some lines have been read, at most so many, and every table so far is one that loading makes
pub record Begun (most : ℕ) (s : Stage) : Type 0 where
  pub some : 1 ≤ s.cursor.lines
  pub few : s.cursor.lines ≤ most
  pub sum : s.cursor.sum ≤ most_line_sum * s.cursor.lines
  pub sized : ColumnLengths s.rules
  pub loads : (j : Kind) → table_loads s.rules j ≡ true

-- the lines of the kinds before k have been read: there is none of a kind from k on yet, and a line of a kind before k would be misplaced
pub record Ready (text : List ℕ) (k : Kind) (s : Stage) : Type 0 where
  pub begun : Begun (lines_before k) s
  pub last : s.cursor.last < code k
  pub empty : (j : Kind) → code k ≤ code j → count j s.rules ≡ 0
  pub others : (os : List ℕ) → frame (drop s.cursor.offset text) ≡ octets os → kind_octet os < code k
      → misplaced (reading s) (kind_of (kind_octet os)) os ≡ true

-- the head's reader
pub record Starts (text : List ℕ) (answer : Result Stage BadLine) : Type 0 where
  pub same : loaded_from text answer ≡ load text
  pub ready : IfOk answer (Ready text user)

-- the reader of kind k takes a stage to one from which loading answers the same, and is done with its kind, unless a line is refused
pub record Reads (text : List ℕ) (k : Kind) (s : Stage) (answer : Result Stage BadLine) : Type 0 where
  pub same : loaded_from text answer ≡ loaded_from text (Ok s)
  pub ready : IfOk answer (Ready text (following k))
