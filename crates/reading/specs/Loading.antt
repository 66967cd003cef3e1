-- Loading a bundle: lines from the top, within a line 1 to 7 in order, then 8 at an end line; 9 when all lines passed.
use Rattle.std.specs.Prelude.{ℕ, ◌+◌, Bool, not, cond, ◌&&◌, ◌||◌, List, [], ◌∷◌, ◌++◌, length, ltb, eqb}
use Rattle.common.specs.Lists.{at}
use Rattle.common.specs.Causes.{cause, first}
use Rattle.common.specs.Refusals.{wrong_kind, wrong_end}
use Rattle.common.specs.Refusals as refusals
use Rattle.closure.specs.Closure.{circular}
use Rattle.octets.specs.Line.{Framed, refused, octets, kind_octet, body_of, total, lines}
use Rattle.policy.specs.declared.Record.{Record}
use Rattle.policy.specs.Table.{Kind, head, hierarchy, prerequisite, end, code, is_kind, count, rows, blank, appended, indexed, kind_of}
use Rattle.policy.specs.Rows.{row_causes}
use Rattle.reading.specs.Loaded.{Loaded}
use Rattle.policy.specs.Table.{widths}
use Rattle.reading.specs.Body.{numbers}

-- how many lines were read, the last one's kind octet, the plain sum of their octets, and what they say
pub record Reading : Type 0 where
  pub lines : ℕ
  pub last : ℕ
  pub sum : ℕ
  pub rules : Record

abbrev pub at_top : Reading
at_top = record { lines = 0; last = 0; sum = 0; rules = blank }

-- a line of kind k: its kind octet is no kind's; it stands after the end; it is a head elsewhere than first, or another kind first;
-- its kind falls; its body has another length
unfoldable pub misplaced : Reading → Kind → List ℕ → Bool
misplaced t k os =
    not (eqb (kind_octet os) (code k))
    || (eqb t.last 0xFF
    || (not (eqb (cond (is_kind k head) 1 0) (cond (eqb t.lines 0) 1 0))
    || (ltb (code k) t.last
    || not (eqb (length (body_of os)) (total (widths k))))))

-- the end line's numbers: the count of earlier lines, the plain sum of all their octets
unfoldable pub end_wrong : Reading → Kind → List ℕ → Bool
end_wrong t k v = is_kind k end && not (eqb (at v 0) t.lines && eqb (at v 1) t.sum)

-- 4, then 5 to 7, then 8 at an end line (1 to 3 are `frame`'s)
unfoldable pub line_refusal : Reading → Kind → List ℕ → ℕ
line_refusal t k os =
    first
    (cause wrong_kind (misplaced t k os)
    ∷ (row_causes k (count k t.rules) t.rules (numbers k os)
    ++ (cause wrong_end (end_wrong t k (numbers k os)) ∷ [])))

-- one line more was read
unfoldable pub after_line : Reading → Kind → List ℕ → Reading
after_line t k os =
    record { lines = t.lines + 1; last = code k; sum = t.sum + total os; rules = appended k t.rules (numbers k os) }

-- refused: the number, the line, the blank record
abbrev pub not_loaded : ℕ → ℕ → Loaded
not_loaded n line = record { number = n; line = line; rules = blank }

-- all lines passed. 8: the end line is missing (line: one past the last). 9: a circle, in the hierarchy or the prerequisites.
-- Request 2026-04, "Loading builds this": the record has the index of its edges
unfoldable pub after_last_line : Reading → Loaded
after_last_line t =
    cond (not (eqb t.last 0xFF)) (not_loaded wrong_end (t.lines + 1))
    (cond (circular (rows hierarchy t.rules) || circular (rows prerequisite t.rules)) (not_loaded refusals.circle t.lines)
    (record { number = 0; line = 0; rules = indexed t.rules }))

unfoldable pub read : Reading → List Framed → Loaded
read t [] = after_last_line t
read t (refused n ∷ ls) = not_loaded n (t.lines + 1)
read t (octets os ∷ ls) =
    cond (eqb (line_refusal t (kind_of (kind_octet os)) os) 0)
    (read (after_line t (kind_of (kind_octet os)) os) ls)
    (not_loaded (line_refusal t (kind_of (kind_octet os)) os) (t.lines + 1))

unfoldable pub load : List ℕ → Loaded
load text = read at_top (lines text)
