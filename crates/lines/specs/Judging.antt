-- A line of any kind that has a table, by the numbers that its body may hold (`Row`): what refuses it, and what comes after it.
use Rattle.std.specs.Prelude.{ℕ, ◌+◌, ◌-◌, ◌*◌, ◌≤◌, ◌<◌, ◌≡◌, Bool, true, false, not, cond, ◌&&◌, List, [], ◌∷◌, ltb, leb, eqb, Option, None, Some, Result, Ok, Err}
use Rattle.common.specs.Lists.{at}
use Rattle.common.specs.Limits.{most_edges, most_formulas, most_demarcations, most_principals, most_methods, most_lines}
use Rattle.common.specs.Causes.{first}
use Rattle.common.specs.RefusalNumbers as refusal
use Rattle.common.specs.declared.Refusal.{Refusal}
use Rattle.octets.specs.Line.{total}
use Rattle.policy.specs.Table.{Kind, code, widths}
use Rattle.policy.specs.Table.{user, edge, formula, demarcation, hierarchy, principal, exclusion, prerequisite, method}
use Rattle.policy.specs.Rows.{key}
use Rattle.rows.specs.Op.{op_of, height_of, formula_in_range}
use Rattle.rows.specs.Checks.{edge_in_range, pair_in_range, edge_key, pair_key, causes}
use Rattle.lines.specs.declared.TableKind.{TableKind}
use Rattle.lines.specs.declared.TableKind.TheVariants.{Users, Edges, Formulas, Demarcations, Hierarchy, Principals, Exclusions, Prerequisites, Methods}
use Rattle.lines.specs.declared.Row.{Row}
use Rattle.lines.specs.declared.Row.TheVariants.{User, Edge, Formula, Demarcation, Principal, Exclusion, Prerequisite, Method}
use Rattle.lines.specs.declared.Row.TheVariants as rows
use Rattle.lines.specs.declared.Bounds.{Bounds}
use Rattle.lines.specs.declared.Cursor.{Cursor}
use Rattle.lines.specs.declared.Taken.{Taken}
use Rattle.lines.specs.NextLine.{NextValues, next_of, octets_at, number_at}

-- the kinds that have a table, among all kinds
abbrev pub table_of : TableKind → Kind
table_of Users = user
table_of Edges = edge
table_of Formulas = formula
table_of Demarcations = demarcation
table_of Hierarchy = hierarchy
table_of Principals = principal
table_of Exclusions = exclusion
table_of Prerequisites = prerequisite
table_of Methods = method

-- how many octets a line of a kind has: its body's, and the length, kind and check octets
abbrev pub size_of : Kind → ℕ
size_of k = total (widths k) + 3

-- ---- the numbers of a line

-- the eight octets before the check octet of a line that has so many
abbrev pub privileges_at : ℕ → List ℕ → ℕ
privileges_at size os = cond (ltb 10 size) (number_at os (size - 9) 8) 0

-- of the octets of a line of a kind, so many
abbrev pub row_at : TableKind → ℕ → List ℕ → Row
row_at Users size os = User (at os 2) (at os 3 * 256 + at os 4)
row_at Edges size os = Edge (at os 2) (at os 3) (at os 4)
row_at Formulas size os = Formula (at os 2) (at os 3) (at os 4)
row_at Demarcations size os = Demarcation (privileges_at size os)
row_at Hierarchy size os = rows.Hierarchy (at os 2) (at os 3)
row_at Principals size os = Principal (at os 2) (at os 3)
row_at Exclusions size os = Exclusion (at os 2) (at os 3)
row_at Prerequisites size os = Prerequisite (at os 2) (at os 3)
row_at Methods size os = Method (at os 2) (privileges_at size os)

-- the kind of the table that they stand in, and themselves as the numbers of the kind's body
abbrev pub kind_in : Row → Kind
kind_in (User o w) = user
kind_in (Edge l x y) = edge
kind_in (Formula op a b) = formula
kind_in (Demarcation w) = demarcation
kind_in (rows.Hierarchy a b) = hierarchy
kind_in (Principal f d) = principal
kind_in (Exclusion p q) = exclusion
kind_in (Prerequisite p q) = prerequisite
kind_in (Method f w) = method

abbrev pub fields_of : Row → List ℕ
fields_of (User o w) = o ∷ w ∷ []
fields_of (Edge l x y) = l ∷ x ∷ y ∷ []
fields_of (Formula op a b) = op ∷ a ∷ b ∷ []
fields_of (Demarcation w) = w ∷ []
fields_of (rows.Hierarchy a b) = a ∷ b ∷ []
fields_of (Principal f d) = f ∷ d ∷ []
fields_of (Exclusion p q) = p ∷ q ∷ []
fields_of (Prerequisite p q) = p ∷ q ∷ []
fields_of (Method f w) = f ∷ w ∷ []

-- ---- what refuses them

-- a formula's height, from those of the formulas before it
abbrev pub height_by : Row → (ℕ → ℕ) → ℕ
height_by (User o w) heights = 0
height_by (Edge l x y) heights = 0
height_by (Formula op a b) heights = height_of (op_of op) a b heights
height_by (Demarcation w) heights = 0
height_by (rows.Hierarchy a b) heights = 0
height_by (Principal f d) heights = 0
height_by (Exclusion p q) heights = 0
height_by (Prerequisite p q) heights = 0
height_by (Method f w) heights = 0

-- 5, 6 and 7: over the kind's limit, out of range, not rising
abbrev pub refusal_by : Bounds → ℕ → Row → ℕ
refusal_by m h (User o w) = first (causes false (not (ltb o m.objects)) (ltb o m.least_key))
refusal_by m h (Edge l x y) =
    first (causes (leb most_edges m.row) (not (edge_in_range m.objects l x y)) (ltb (edge_key l x y) m.least_key))
refusal_by m h (Formula op a b) = first (causes (leb most_formulas m.row) (not (formula_in_range m.row op a b h)) false)
refusal_by m h (Demarcation w) = first (causes (leb most_demarcations m.row) false false)
refusal_by m h (rows.Hierarchy a b) = first (causes false (not (pair_in_range m.demarcations a b)) (ltb (pair_key a b) m.least_key))
refusal_by m h (Principal f d) =
    first (causes (leb most_principals m.row) (not (ltb f m.formulas && ltb d m.demarcations)) false)
refusal_by m h (Exclusion p q) =
    first (causes false (not (ltb p q && ltb q m.principals)) (ltb (pair_key p q) m.least_key))
refusal_by m h (Prerequisite p q) = first (causes false (not (pair_in_range m.principals p q)) (ltb (pair_key p q) m.least_key))
refusal_by m h (Method f w) = first (causes (leb most_methods m.row) (not (leb f 1)) false)

-- the heights of formulas that a formula's line is judged by are small; of another kind's line none is read
abbrev pub HeightsLow : Kind → List ℕ → Type 0
HeightsLow k heights = k ≡ formula → (g : ℕ) → at heights g < 255

-- ---- the line at a cursor

-- the most that the octets of a line add to: 258 octets of 255
abbrev pub most_line_sum : ℕ
most_line_sum = 258 * 255

-- a cursor within a bundle's lines before its end line
pub record CursorBound (c : Cursor) : Type 0 where
  pub few : c.lines ≤ most_lines
  pub sum : c.sum ≤ most_line_sum * most_lines

abbrev pub moved_past : Cursor → ℕ → ℕ → ℕ → Cursor
moved_past c kind next sum = record { offset = next; lines = c.lines + 1; last = kind; sum = c.sum + sum }

-- document 01's number and values of what a reader of lines of one kind makes of the line at its cursor
pub record JudgedValues : Type 0 where
  -- whether a line is read there, as in `NextValues`
  pub read : Bool
  -- 1 to 7 of a refused line, else 0
  pub number : ℕ
  pub taken : Option Taken

abbrev pub not_taken : Bool → ℕ → JudgedValues
not_taken read number = record { read = read; number = number; taken = None }

abbrev pub taken_with : Taken → JudgedValues
taken_with t = record { read = true; number = 0; taken = Some t }

-- of each case of an answer of `judged_line`
abbrev pub judged_values : Result (Option Taken) Refusal → JudgedValues
judged_values (Ok None) = not_taken false 0
judged_values (Err why) = not_taken true (refusal.number why)
judged_values (Ok (Some t)) = taken_with t

-- of a line with the numbers v, held to the bounds m and the heights of the formulas before it; the cursor past it
abbrev pub judged_row : Bounds → (ℕ → ℕ) → Cursor → Row → JudgedValues
judged_row m heights further v =
    cond (eqb (refusal_by m (height_by v heights) v) 0)
    (taken_with
    (record { row = v; height = height_by v heights; least_key = key (kind_in v) (fields_of v) + 1; cursor = further }))
    (not_taken true (refusal_by m (height_by v heights) v))

-- of the line at a cursor, as one of a kind and size
module _ (text : List ℕ) (c : Cursor) (kind : TableKind) (size : ℕ) (m : Bounds) (heights : ℕ → ℕ) where
  abbrev pub judged_next : NextValues → JudgedValues
  judged_next line =
      cond (line.read && eqb line.number 0)
      (judged_row m heights (moved_past c (code (table_of kind)) line.next line.total) (row_at kind size (octets_at text c.offset)))
      (not_taken line.read line.number)

  unfoldable pub judged_of : JudgedValues
  judged_of = judged_next (next_of text c.offset (code (table_of kind)) size)
