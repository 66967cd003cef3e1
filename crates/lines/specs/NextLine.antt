-- What stands at an offset of a text, for a reader of lines of one kind, and the numbers there.
use Rattle.std.specs.Prelude.{ℕ, ◌+◌, ◌*◌, Bool, true, false, cond, List, [], length, drop, ltb, eqb, Option, None, Some, Result, Ok, Err}
use Rattle.common.specs.Lists.{at, table}
use Rattle.common.specs.RefusalNumbers as refusal
use Rattle.common.specs.declared.Refusal.{Refusal}
use Rattle.common.specs.Refusals.{wrong_kind}
use Rattle.octets.specs.Line.{Framed, refused, octets, kind_octet, total, frame}
use Rattle.octets.specs.Number.{number}
use Rattle.lines.specs.declared.Line.{Line}

-- document 01's number and values of what stands at an offset, for a reader of lines of one kind
pub record NextValues : Type 0 where
  -- whether a line is read there: not at the text's end, and not one of another kind, which is left to another reader
  pub read : Bool
  -- 1, 2, 3 or 4 of a refused line, else 0
  pub number : ℕ
  -- of a line of this kind where the next one starts, and the plain sum of its octets; else 0
  pub next : ℕ
  pub total : ℕ

abbrev pub no_line : NextValues
no_line = record { read = false; number = 0; next = 0; total = 0 }

abbrev pub refused_line : ℕ → NextValues
refused_line k = record { read = true; number = k; next = 0; total = 0 }

abbrev pub body_line : ℕ → ℕ → NextValues
body_line next total = record { read = true; number = 0; next = next; total = total }

-- of each case of an answer of `next_line`
abbrev pub next_values : Result (Option Line) Refusal → NextValues
next_values (Ok None) = no_line
next_values (Err why) = refused_line (refusal.number why)
next_values (Ok (Some line)) = body_line line.next line.total

-- of a framed line at an offset, whose kind's lines have so many octets
abbrev pub next_is : ℕ → ℕ → ℕ → Framed → NextValues
next_is offset kind size (refused k) = refused_line k
next_is offset kind size (octets os) =
    cond (eqb (kind_octet os) kind)
    (cond (eqb (length os) size) (body_line (offset + 2 * length os + 1) (total os)) (refused_line wrong_kind))
    no_line

-- of what stands at an offset of a text
unfoldable pub next_of : List ℕ → ℕ → ℕ → ℕ → NextValues
next_of text offset kind size = cond (ltb offset (length text)) (next_is offset kind size (frame (drop offset text))) no_line

-- what refuses a line that is not of a kind and its size: 1, 2 or 3, or, being of the kind, 4; 0 of one that is left to another reader
abbrev pub other_is : ℕ → Framed → ℕ
other_is kind (refused k) = k
other_is kind (octets os) = cond (eqb (kind_octet os) kind) wrong_kind 0

-- of what stands at an offset of a text
unfoldable pub other_refusal : List ℕ → ℕ → ℕ → ℕ
other_refusal text offset kind = cond (ltb offset (length text)) (other_is kind (frame (drop offset text))) 0

-- the octets of a framed line, and of the line at an offset of a text
abbrev pub octets_in : Framed → List ℕ
octets_in (refused k) = []
octets_in (octets os) = os

abbrev pub octets_at : List ℕ → ℕ → List ℕ
octets_at text offset = octets_in (frame (drop offset text))

-- the number that n octets make, from the k-th on
unfoldable pub number_at : List ℕ → ℕ → ℕ → ℕ
number_at os k n = number (table n (λ i. at os (k + i)))
