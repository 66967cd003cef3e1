-- What a line is (document 01, "The bundle", first paragraph; refusals 1, 2 and 3). A text is a list of bytes.
use Rattle.std.specs.Prelude.{ℕ, ◌+◌, ◌-◌, ◌*◌, ◌/◌, ◌%◌, Bool, true, false, cond, ◌&&◌, List, [], ◌∷◌, ◌++◌, length, take, drop, ◌==◌, nat_le, nat_lt}
use Rattle.common.specs.Lists.{at}
use Rattle.common.specs.Refusals.{wrong_characters, wrong_length, wrong_sum}

-- ---- digits and octets

-- the value of a digit 0-9 or A-F, capitals only; 16: the byte is no digit
unfoldable pub digit_value : ℕ → ℕ
digit_value c = cond (nat_le 48 c && nat_le c 57) (c - 48) (cond (nat_le 65 c && nat_le c 70) (c - 55) 16)

abbrev pub is_digit : ℕ → Bool
is_digit c = nat_lt (digit_value c) 16

-- the octet of a pair of digits
abbrev pub octet : ℕ → ℕ → ℕ
octet a b = digit_value a * 16 + digit_value b

-- pairs of digits, and nothing else
abbrev pub pairs : List ℕ → Bool
pairs [] = true
pairs (a ∷ []) = false
pairs (a ∷ b ∷ l) = is_digit a && (is_digit b && pairs l)

-- the octets of the pairs
abbrev pub octets_of : List ℕ → List ℕ
octets_of [] = []
octets_of (a ∷ []) = []
octets_of (a ∷ b ∷ l) = octet a b ∷ octets_of l

-- the plain sum of octets
abbrev pub total : List ℕ → ℕ
total [] = 0
total (o ∷ os) = o + total os

-- ---- lines: each is ended by one byte 0A

-- the first line of a text, without its end
abbrev pub line_of : List ℕ → List ℕ
line_of [] = []
line_of (b ∷ t) = cond (b == 0x0A) [] (b ∷ line_of t)

-- what follows the first line
abbrev pub rest_of : List ℕ → List ℕ
rest_of [] = []
rest_of (b ∷ t) = cond (b == 0x0A) t (rest_of t)

-- whether the first line has its end
abbrev pub ended : List ℕ → Bool
ended [] = false
ended (b ∷ t) = cond (b == 0x0A) true (ended t)

-- a line is refused with a number, or is so many octets: length n, kind, n body octets, check octet
pub data Framed : Type 0 where
  refused : ℕ → Framed
  octets : List ℕ → Framed

-- "The octets of a line, the check octet included, add to zero modulo 256": of every line, the end line too
abbrev pub adds_to_zero : List ℕ → Bool
adds_to_zero os = total os % 256 == 0

-- 2: under 3 octets, or the length octet is not the count of body octets. 3: the octets do not add to zero
abbrev pub judged : List ℕ → Framed
judged os = cond (at os 0 + 3 == length os) (cond (adds_to_zero os) (octets os) (refused wrong_sum)) (refused wrong_length)

-- the first line of a text. 1: it is empty, has an odd number of characters, another character, or no end
unfoldable pub frame : List ℕ → Framed
frame t = cond (ended t && (nat_lt 0 (length (line_of t)) && pairs (line_of t))) (judged (octets_of (line_of t))) (refused wrong_characters)

-- the kind octet of a framed line, and its body
abbrev pub kind_octet : List ℕ → ℕ
kind_octet os = at os 1

abbrev pub body_of : List ℕ → List ℕ
body_of os = take (length os - 3) (drop 2 os)

-- ---- all lines of a text, from the top

-- a line starts here, unless the text is at its end
abbrev pub starts : List ℕ → List Framed → List Framed
starts [] later = []
starts (b ∷ t) later = frame (b ∷ t) ∷ later

-- the lines after the first
abbrev pub later_lines : List ℕ → List Framed
later_lines [] = []
later_lines (b ∷ t) = cond (b == 0x0A) (starts t (later_lines t)) (later_lines t)

unfoldable pub lines : List ℕ → List Framed
lines t = starts t (later_lines t)

-- ---- writing

-- the digit of a value below 16
abbrev pub digit : ℕ → ℕ
digit d = cond (nat_lt d 10) (48 + d) (55 + d)

-- octets as pairs of digits
abbrev pub digits : List ℕ → List ℕ
digits [] = []
digits (o ∷ os) = digit (o / 16) ∷ digit (o % 16) ∷ digits os

-- the octet that makes a sum zero modulo 256
abbrev pub check : ℕ → ℕ
check sum = (256 - sum % 256) % 256

-- the octets of a line: length, kind, body, check
unfoldable pub framed : ℕ → List ℕ → List ℕ
framed kind body = (length body ∷ kind ∷ body) ++ (check (total (length body ∷ kind ∷ body)) ∷ [])

-- octets as the bytes of a line
abbrev pub line_bytes : List ℕ → List ℕ
line_bytes os = digits os ++ (0x0A ∷ [])

-- lines as bytes
abbrev pub text_of : List (List ℕ) → List ℕ
text_of [] = []
text_of (os ∷ ls) = line_bytes os ++ text_of ls

-- the plain sum of all octets of lines
abbrev pub totals : List (List ℕ) → ℕ
totals [] = 0
totals (os ∷ ls) = total os + totals ls
