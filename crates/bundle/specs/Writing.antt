-- Writing a record: the lines of its tables in the order of the kinds, then the end line. The memo and the index aren't written.
use Rattle.std.specs.Prelude.{ℕ, not, cond, List, [], ◌∷◌, ◌++◌, map, length, drop, ltb, eqb}
use Rattle.common.specs.Lists.{at}
use Rattle.common.specs.Causes.{cause, first}
use Rattle.common.specs.Refusals.{short_buffer, not_loadable}
use Rattle.octets.specs.Line.{framed, text_of, totals}
use Rattle.octets.specs.Number.{in_octets}
use Rattle.policy.specs.declared.Record.{Record}
use Rattle.policy.specs.Table.{Kind, end, code, kinds, row, rows}
use Rattle.policy.specs.Loadable.{loadable}
use Rattle.bundle.specs.Written.{Written}
use Rattle.policy.specs.Table.{widths}

-- numbers as octets, by how many octets each has
abbrev pub body : List ℕ → List ℕ → List ℕ
body [] v = []
body (w ∷ ws) v = in_octets w (at v 0) ++ body ws (drop 1 v)

-- the body of row i of kind k's table
abbrev pub row_body : Kind → ℕ → Record → List ℕ
row_body k i r = body (widths k) (row k i r)

-- the octets of a line of kind k with the numbers v
abbrev pub line_octets : Kind → List ℕ → List ℕ
line_octets k v = framed (code k) (body (widths k) v)

-- the lines of a kind's table, and of several kinds' tables in turn
abbrev pub table_lines : Kind → Record → List (List ℕ)
table_lines k r = map (line_octets k) (rows k r)

abbrev pub rule_lines : List Kind → Record → List (List ℕ)
rule_lines [] r = []
rule_lines (k ∷ ks) r = table_lines k r ++ rule_lines ks r

-- lines, and after them the end line: their count, and the plain sum of all their octets
abbrev pub with_end : List (List ℕ) → List (List ℕ)
with_end ls = ls ++ (line_octets end (length ls ∷ totals ls ∷ []) ∷ [])

-- the bundle of a record
unfoldable pub bundle_of : Record → List ℕ
bundle_of r = text_of (with_end (rule_lines kinds r))

-- ---- the writer, lent a buffer

-- 19, then 18: the buffer is too short
unfoldable pub write_refusal : Record → List ℕ → ℕ
write_refusal r buffer = first (cause not_loadable (not (loadable r)) ∷ cause short_buffer (ltb (length buffer) (length (bundle_of r))) ∷ [])

-- the length needed; 0 with 19
unfoldable pub length_needed : Record → ℕ
length_needed r = cond (loadable r) (length (bundle_of r)) 0

-- number and length: the bundle's, with 18 too
unfoldable pub written : Record → List ℕ → Written
written r buffer = record { number = write_refusal r buffer; length = length_needed r }

-- what the buffer then holds: the bundle, and the bytes past it as they were; a refusal leaves it
unfoldable pub buffer_after : Record → List ℕ → List ℕ
buffer_after r buffer = cond (eqb (write_refusal r buffer) 0) (bundle_of r ++ drop (length (bundle_of r)) buffer) buffer

-- the length without writing: 19 with length 0, or the length
unfoldable pub measured : Record → Written
measured r = record { number = first (cause not_loadable (not (loadable r)) ∷ []); length = length_needed r }
