-- How far writing has come: what the contracts of the writers of lines cite.
use Rattle.std.specs.Prelude.{ℕ, ◌+◌, ◌*◌, ◌≤◌, ◌<◌, ◌≡◌, List, ◌++◌, length, take, drop}
use Rattle.common.specs.Limits.{most_lines}
use Rattle.octets.specs.Line.{framed, text_of, totals}
use Rattle.writing.specs.declared.Draft.{Draft}

-- the longest body is a method's: form and privileges
abbrev pub longest_body : ℕ
longest_body = 9

-- what the octets of a line add up to at most: length, kind, body and check
abbrev pub greatest_total : ℕ
greatest_total = 255 * (longest_body + 3)

-- the rest of the buffer has room for so many lines of so many bytes each, and a bundle has no more lines
pub record RoomFor (buffer : List ℕ) (d : Draft) (count size : ℕ) : Type 0 where
  pub room : d.offset + count * size ≤ length buffer
  pub few : d.lines + count ≤ most_lines + 1
  pub fair : d.sum ≤ greatest_total * d.lines

-- the lines ls were written: the buffer has them from the offset on, and is as it was before and past them
pub record Put (before after : List ℕ) (d e : Draft) (ls : List (List ℕ)) : Type 0 where
  pub bytes : after ≡ take d.offset before ++ (text_of ls ++ drop e.offset before)
  pub offset : e.offset ≡ d.offset + length (text_of ls)
  pub lines : e.lines ≡ d.lines + length ls
  pub sum : e.sum ≡ d.sum + totals ls
  pub fair : totals ls ≤ greatest_total * length ls

-- so many lines of so many bytes each were written
pub record Grown (before after : List ℕ) (d e : Draft) (count size : ℕ) : Type 0 where
  pub offset : e.offset ≡ d.offset + count * size
  pub lines : e.lines ≡ d.lines + count
  pub fair : e.sum ≤ greatest_total * e.lines
  pub long : length after ≡ length before

-- ---- the lines of a table

-- what a closure gives for each row below a count has these octets
abbrev pub Gives : {B : Type 0} → (B → List ℕ) → (ℕ → B → Type 0) → ℕ → (ℕ → List ℕ) → Type 0
Gives octets post count bodies = (i : ℕ) (b : _) → i < count → post i b → octets b ≡ bodies i

-- the line of row i, with its body
abbrev pub lines_of : ℕ → (ℕ → List ℕ) → ℕ → List ℕ
lines_of kind bodies i = framed kind (bodies i)
