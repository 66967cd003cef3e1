-- The parts in which the writer writes a record's lines.
use Rattle.std.specs.Prelude.{ℕ, ◌+◌, ◌*◌, ◌≤◌, ◌≡◌, List, [], ◌∷◌, length}
use Rattle.common.specs.Limits.{most_lines}
use Rattle.octets.specs.Line.{text_of}
use Rattle.policy.specs.declared.Record.{Record}
use Rattle.policy.specs.Table.{head, user, edge, formula, demarcation, hierarchy, principal, exclusion, prerequisite, method}
use Rattle.writing.specs.declared.Draft.{Draft}
use Rattle.writing.specs.Drafts.{greatest_total}
use Rattle.bundle.specs.Written.{Written}
use Rattle.bundle.specs.Writing.{rule_lines, written, buffer_after}
use Rattle.policy.specs.Typed.{Typed}

-- kinds 01 to 05, and 06 to 0A
abbrev pub graph_lines : Record → List (List ℕ)
graph_lines r = rule_lines (head ∷ user ∷ edge ∷ formula ∷ demarcation ∷ []) r

abbrev pub ground_lines : Record → List (List ℕ)
ground_lines r = rule_lines (hierarchy ∷ principal ∷ exclusion ∷ prerequisite ∷ method ∷ []) r

abbrev pub start : Draft
start = record { offset = 0; lines = 0; sum = 0 }

-- there is room for the lines, and a bundle has no more, its end line with them
pub record Room (buffer : List ℕ) (d : Draft) (ls : List (List ℕ)) : Type 0 where
  pub room : d.offset + length (text_of ls) ≤ length buffer
  pub few : d.lines + length ls ≤ most_lines + 1
  pub fair : d.sum ≤ greatest_total * d.lines

-- what the writer does: its answer, the buffer afterwards, and that the record is one of its type (so that the laws of round trips
-- speak of it)
pub record Writes (r : Record) (before after : List ℕ) (answer : Written) : Type 0 where
  pub answers : answer ≡ written r before
  pub buffer : after ≡ buffer_after r before
  pub typed : Typed r
