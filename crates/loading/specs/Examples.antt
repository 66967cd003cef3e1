-- Worked refusals of loading: number and line, one or more for each number 1 to 9, and what is just not refused, computed. Octets are
-- hexadecimal.
use Rattle.std.specs.Prelude.{ℕ, ◌-◌, ◌≡◌, refl, List, [], ◌∷◌, ◌++◌, replicate}
use Rattle.octets.specs.Line.{digit_value, frame, lines, digits, text_of}
use Rattle.closure.specs.Closure.{reaches, circular}
use Rattle.edge_index.specs.Index.{index_in}
use Rattle.policy.specs.Table.{no_index, blank, emptied, appended, with_index}
use Rattle.policy.specs.Height.{height_in}
use Rattle.policy.specs.Rows.{in_range, row_causes, row_refusal}
use Rattle.reading.specs.Loading.{misplaced, end_wrong, line_refusal, after_line, after_last_line, read, load}

-- what a proof by computation opens, of lines and tables, and of loading
unfoldable pub computing_tables : Unit {0}
unfolding digit_value frame lines no_index blank emptied appended with_index index_in height_in reaches circular in_range row_causes row_refusal
computing_tables = tt

unfoldable pub computing : Unit {0}
unfolding computing_tables misplaced end_wrong line_refusal after_line after_last_line read load
computing = tt

-- a text's number and line
abbrev number_and_line : List ℕ → List ℕ
number_and_line text = (load text).number ∷ (load text).line ∷ []

-- a head with one object, and the smallest bundle's end
abbrev head1 : List ℕ
head1 = 0x02 ∷ 0x01 ∷ 0x01 ∷ 0x01 ∷ 0xFB ∷ []

abbrev end1 : List ℕ
end1 = 0x06 ∷ 0xFF ∷ 0x00 ∷ 0x01 ∷ 0x00 ∷ 0x00 ∷ 0x01 ∷ 0x00 ∷ 0xF9 ∷ []

abbrev smallest : List ℕ
smallest = text_of (head1 ∷ end1 ∷ [])

-- a user line of object 0; a demarcation without privileges
abbrev user0 : List ℕ
user0 = 0x03 ∷ 0x02 ∷ 0x00 ∷ 0x00 ∷ 0x00 ∷ 0xFB ∷ []

abbrev bare : List ℕ
bare = 0x08 ∷ 0x05 ∷ 0x00 ∷ 0x00 ∷ 0x00 ∷ 0x00 ∷ 0x00 ∷ 0x00 ∷ 0x00 ∷ 0x00 ∷ 0xF3 ∷ []

-- the formula "always", and the negation of formula n; then formula 5, five negations above the first: a height of 5
abbrev always0 : List ℕ
always0 = 0x03 ∷ 0x04 ∷ 0x00 ∷ 0x00 ∷ 0x00 ∷ 0xF9 ∷ []

abbrev not_of : ℕ → List ℕ
not_of n = 0x03 ∷ 0x04 ∷ 0x04 ∷ n ∷ 0x00 ∷ (0xF5 - n) ∷ []

abbrev to_height5 : List (List ℕ)
to_height5 = head1 ∷ always0 ∷ not_of 0 ∷ not_of 1 ∷ not_of 2 ∷ not_of 3 ∷ not_of 4 ∷ []

pub record Worked : Type 0 where
  pub success : load smallest ≡ record { number = 0; line = 0; rules = blank }
  pub empty_line : number_and_line (0x0A ∷ smallest) ≡ 1 ∷ 1 ∷ []
  pub no_final_0_a : number_and_line (text_of (head1 ∷ []) ++ digits end1) ≡ 1 ∷ 2 ∷ []
  pub length_wrong : number_and_line (text_of (head1 ∷ (0x02 ∷ 0xFF ∷ 0x00 ∷ 0xFF ∷ []) ∷ [])) ≡ 2 ∷ 2 ∷ []
  pub sum_wrong : number_and_line (text_of ((0x02 ∷ 0x01 ∷ 0x01 ∷ 0x01 ∷ 0xFC ∷ []) ∷ end1 ∷ [])) ≡ 3 ∷ 1 ∷ []
  pub second_head : number_and_line (text_of (head1 ∷ head1 ∷ end1 ∷ [])) ≡ 4 ∷ 2 ∷ []
  pub after_end_lem : number_and_line (text_of (head1 ∷ end1 ∷ end1 ∷ [])) ≡ 4 ∷ 3 ∷ []
  pub one_over : number_and_line (text_of (head1 ∷ replicate 21 bare)) ≡ 5 ∷ 22 ∷ []
  pub no_object_1 : number_and_line (text_of (head1 ∷ (0x03 ∷ 0x02 ∷ 0x01 ∷ 0x00 ∷ 0x00 ∷ 0xFA ∷ []) ∷ end1 ∷ [])) ≡ 6 ∷ 2 ∷ []
  pub height_5 : number_and_line (text_of (to_height5 ++ ((0x06 ∷ 0xFF ∷ 0x00 ∷ 0x07 ∷ 0x00 ∷ 0x00 ∷ 0x07 ∷ 0x00 ∷ 0xED ∷ []) ∷ []))) ≡ 0 ∷ 0 ∷ []
  pub height_6 : number_and_line (text_of (to_height5 ++ (not_of 5 ∷ []))) ≡ 6 ∷ 8 ∷ []
  pub not_rising_lem : number_and_line (text_of (head1 ∷ user0 ∷ user0 ∷ end1 ∷ [])) ≡ 7 ∷ 3 ∷ []
  pub empty_file : number_and_line [] ≡ 8 ∷ 1 ∷ []
  pub end_wrong_lem : number_and_line (text_of (head1 ∷ user0 ∷ end1 ∷ [])) ≡ 8 ∷ 3 ∷ []
  pub circle :
      number_and_line
      (text_of
      (head1 ∷ bare ∷ bare ∷ (0x02 ∷ 0x06 ∷ 0x00 ∷ 0x01 ∷ 0xF7 ∷ []) ∷ (0x02 ∷ 0x06 ∷ 0x01 ∷ 0x00 ∷ 0xF7 ∷ [])
      ∷ (0x06 ∷ 0xFF ∷ 0x00 ∷ 0x05 ∷ 0x00 ∷ 0x00 ∷ 0x05 ∷ 0x00 ∷ 0xF1 ∷ []) ∷ []))
      ≡ 9 ∷ 6 ∷ []

pub worked : Worked
unfolding computing
worked =
    record {
      success = refl;
      empty_line = refl;
      no_final_0_a = refl;
      length_wrong = refl;
      sum_wrong = refl;
      second_head = refl;
      after_end_lem = refl;
      one_over = refl;
      no_object_1 = refl;
      height_5 = refl;
      height_6 = refl;
      not_rising_lem = refl;
      empty_file = refl;
      end_wrong_lem = refl;
      circle = refl;
    }
