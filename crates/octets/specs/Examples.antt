-- Worked lines, computed: the smallest line there is, the first line of the smallest bundle, and a line for each refusal.
use Rattle.std.specs.Prelude.{◌≡◌, [], ◌∷◌, refl}
use Rattle.octets.specs.Line.{digit_value, frame, refused, octets, lines, framed, line_bytes}

pub record Worked : Type 0 where
  -- 0001FF: kind 01 with no body
  pub smallest : frame (48 ∷ 48 ∷ 48 ∷ 49 ∷ 70 ∷ 70 ∷ 10 ∷ []) ≡ octets (0x00 ∷ 0x01 ∷ 0xFF ∷ [])
  -- 02010101FB: the smallest bundle's head, read and written
  pub head : frame (48 ∷ 50 ∷ 48 ∷ 49 ∷ 48 ∷ 49 ∷ 48 ∷ 49 ∷ 70 ∷ 66 ∷ 10 ∷ []) ≡ octets (0x02 ∷ 0x01 ∷ 0x01 ∷ 0x01 ∷ 0xFB ∷ [])
  pub head_written : line_bytes (framed 0x01 (0x01 ∷ 0x01 ∷ [])) ≡ 48 ∷ 50 ∷ 48 ∷ 49 ∷ 48 ∷ 49 ∷ 48 ∷ 49 ∷ 70 ∷ 66 ∷ 10 ∷ []
  -- an empty line, an odd one, a lower-case digit, no end
  pub empty : frame (10 ∷ 48 ∷ []) ≡ refused 1
  pub odd : frame (48 ∷ 48 ∷ 48 ∷ 10 ∷ []) ≡ refused 1
  pub lower_case : frame (48 ∷ 48 ∷ 48 ∷ 49 ∷ 102 ∷ 70 ∷ 10 ∷ []) ≡ refused 1
  pub no_end : frame (48 ∷ 48 ∷ 48 ∷ 49 ∷ 70 ∷ 70 ∷ []) ≡ refused 1
  -- 0000: two octets; 0101FE: the length says one body octet, and there is none
  pub two_octets_lem : frame (48 ∷ 48 ∷ 48 ∷ 48 ∷ 10 ∷ []) ≡ refused 2
  pub wrong_length_lem : frame (48 ∷ 49 ∷ 48 ∷ 49 ∷ 70 ∷ 69 ∷ 10 ∷ []) ≡ refused 2
  -- 0001FE
  pub wrong_sum_lem : frame (48 ∷ 48 ∷ 48 ∷ 49 ∷ 70 ∷ 69 ∷ 10 ∷ []) ≡ refused 3
  -- three lines: accepted, empty, without end
  pub three_lines : lines (48 ∷ 48 ∷ 48 ∷ 49 ∷ 70 ∷ 70 ∷ 10 ∷ 10 ∷ 48 ∷ []) ≡ octets (0x00 ∷ 0x01 ∷ 0xFF ∷ []) ∷ refused 1 ∷ refused 1 ∷ []

pub worked : Worked
unfolding frame digit_value lines framed
worked =
    record {
      smallest = refl;
      head = refl;
      head_written = refl;
      empty = refl;
      odd = refl;
      lower_case = refl;
      no_end = refl;
      two_octets_lem = refl;
      wrong_length_lem = refl;
      wrong_sum_lem = refl;
      three_lines = refl;
    }
