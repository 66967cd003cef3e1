-- What the functions of this crate answer, by the definitions of `Line`.
use Rattle.std.specs.Prelude.{◌≡◌, ℕ, ◌+◌, ◌*◌, ◌/◌, ◌%◌, ◌≤◌, Bool, cond, ◌&&◌, List, [], ◌∷◌, ◌++◌, length, drop, ◌==◌, nat_le, slice_set, Option, Some, None, Result, Ok, Err}
use Rattle.common.specs.Lists.{at}
use Rattle.common.specs.Limits.{line_room}
use Rattle.common.specs.Refusals.{wrong_characters, wrong_length, wrong_sum}
use Rattle.octets.specs.Line.{Framed, refused, octets, total, is_digit, octet, digit, framed, line_bytes}
use Rattle.common.specs.RefusalNumbers.{number}
use Rattle.common.specs.declared.Refusal.{Refusal}
use Rattle.octets.specs.declared.FramedLine.{FramedLine}

-- "a definition gives this paper's number and values for each of the enum's cases": of an answer of `read_line`
pub record LineValues : Type 0 where
  -- 1, 2 or 3 of a refused line, 0 of an accepted one
  pub number : ℕ
  -- how many octets it has, the offset at which the next line starts, and the plain sum of the octets; 0 of a refused line
  pub count : ℕ
  pub next : ℕ
  pub total : ℕ

abbrev pub refused_with : ℕ → LineValues
refused_with k = record { number = k; count = 0; next = 0; total = 0 }

abbrev pub accepted_with : ℕ → ℕ → ℕ → LineValues
accepted_with count next total = record { number = 0; count = count; next = next; total = total }

-- of each case
abbrev pub line_values : Result FramedLine Refusal → LineValues
line_values (Ok line) = accepted_with line.count line.next line.total
line_values (Err refusal) = refused_with (number refusal)

-- of the line at an offset, as it is framed
abbrev pub framed_values : ℕ → Framed → LineValues
framed_values offset (refused k) = refused_with k
framed_values offset (octets os) = accepted_with (length os) (offset + 2 * length os + 1) (total os)

-- the same at the line's end, from the count of octets, the first octet, the sum of all modulo 256, the next offset, the plain sum
unfoldable pub values_at_end : ℕ → ℕ → ℕ → ℕ → ℕ → LineValues
values_at_end count first sum next plain =
    cond (count == 0)
    (refused_with wrong_characters)
    (cond (first + 3 == count) (cond (sum == 0) (accepted_with count next plain) (refused_with wrong_sum)) (refused_with wrong_length))

-- the plain sum of the octets of a framed line, where it has the size that its reader asks for
abbrev pub total_of_size : ℕ → Framed → Option ℕ
total_of_size size (refused k) = None
total_of_size size (octets os) = cond (length os == size) (Some (total os)) None

-- the same at the end of a line of the size, from the first octet, the sum of all modulo 256, and the plain sum
abbrev pub sized_at_end : ℕ → ℕ → ℕ → ℕ → Option ℕ
sized_at_end size first sum plain = cond (first + 3 == size) (cond (sum == 0) (Some plain) None) None

-- a room for the octets of a line, which the size does not pass
pub record RoomFor (size : ℕ) (room : List ℕ) : Type 0 where
  pub whole : length room ≡ line_room
  pub fits : size ≤ line_room

-- where a framed line is of the size, its octets stand first in a room, and the rest is as before
abbrev pub HoldsLine : ℕ → Framed → List ℕ → List ℕ → Type 0
HoldsLine size f before after = (os : List ℕ) → f ≡ octets os → length os ≡ size → after ≡ os ++ drop size before

-- the octet of a pair of digits; none of another list of bytes
abbrev pub pair_octet : List ℕ → Option ℕ
pair_octet (a ∷ b ∷ []) = cond (is_digit a && is_digit b) (Some (octet a b)) None
pair_octet [] = None
pair_octet (a ∷ []) = None
pair_octet (a ∷ b ∷ c ∷ l) = None

-- the octet of two bytes; 0 where one of them is no digit
unfoldable pub octet_of : ℕ → ℕ → ℕ
octet_of a b = cond (is_digit a && is_digit b) (octet a b) 0

-- the k-th pair of a text as an octet; 0 where no two digits stand there
unfoldable pub octet_at : List ℕ → ℕ → ℕ
octet_at t k = octet_of (at t (2 * k)) (at t (2 * k + 1))

-- the two digits of an octet put at an offset of a buffer
abbrev pub placed : List ℕ → ℕ → ℕ → List ℕ
placed buffer offset o = slice_set (slice_set buffer offset (digit (o / 16))) (offset + 1) (digit (o % 16))

-- one octet can say the body's length, and the buffer has room for its line
abbrev pub has_room : ℕ → List ℕ → List ℕ → Bool
has_room kind body buffer = nat_le (length body) 255 && nat_le (length (line_bytes (framed kind body))) (length buffer)

-- how many bytes are written: the line's; 0 where there is no room
unfoldable pub written_length : ℕ → List ℕ → List ℕ → ℕ
written_length kind body buffer = cond (has_room kind body buffer) (length (line_bytes (framed kind body))) 0

-- what the buffer then holds: the line, and the bytes past it as they were; untouched where there is no room
unfoldable pub written_buffer : ℕ → List ℕ → List ℕ → List ℕ
written_buffer kind body buffer =
    cond (has_room kind body buffer) (line_bytes (framed kind body) ++ drop (length (line_bytes (framed kind body))) buffer) buffer
