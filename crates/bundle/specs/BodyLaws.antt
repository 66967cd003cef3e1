-- A written line's kind octet, body and numbers are those it was written with, and a line is that of its numbers; the lines of a
-- table, one by one.
use Rattle.std.specs.Prelude.{ℕ, zero, suc, ◌-◌, ◌<◌, ◌≡◌, List, [], ◌∷◌, ◌++◌, length, take, drop}
use Rattle.std.proofs.Math.Path.{refl}
use Rattle.std.proofs.Common.{sym, ◌∙◌, ap, arith, length-append, length-drop, take-append-drop, take_at, drop_at, length-take-le}
use Rattle.common.specs.Lists.{at, table}
use Rattle.common.specs.ListLaws.{map_table}
use Rattle.octets.specs.Line.{kind_octet, body_of, total, check, framed}
use Rattle.octets.specs.Number.{number, in_octets}
use Rattle.octets.proofs.NumberLaws.{length_in_octets, octets_in_octets, number_in_octets, in_octets_number}
use Rattle.octets.proofs.WritingLaws.{Octets, octets_append, octets_take, length_framed, framed_again}
use Rattle.policy.specs.declared.Record.{Record}
use Rattle.policy.specs.Table.{Kind, head, user, edge, formula, demarcation, hierarchy, principal, exclusion, prerequisite, method, end}
use Rattle.policy.specs.Table.{code, count, row}
use Rattle.policy.specs.Table.{widths}
use Rattle.reading.specs.Body.{values, numbers}
use Rattle.bundle.specs.Writing.{body, line_octets, table_lines}
use Rattle.policy.specs.Typed.{Fit, Typed}
use Rattle.reading.specs.FramedLaws.{Fine}

-- ---- bodies

pub length_body : (ws v : List ℕ) → length (body ws v) ≡ total ws
length_body [] v = refl
length_body (w ∷ ws) v =
    omega (arith, length-append (in_octets w (at v 0)) (body ws (drop 1 v)), length_in_octets w (at v 0), length_body ws (drop 1 v))

pub octets_body : (ws v : List ℕ) → Octets (body ws v)
octets_body [] v = tt
octets_body (w ∷ ws) v = octets_append (in_octets w (at v 0)) (body ws (drop 1 v)) (octets_in_octets w (at v 0)) (octets_body ws (drop 1 v))

-- as many numbers as there are widths, each of which fits, come back
values_body : (ws v : List ℕ) → length v ≡ length ws → Fit ws v → values ws (body ws v) ≡ v
values_body [] [] e f = refl
values_body [] (x ∷ v) e f = absurd (omega arith)
values_body (w ∷ ws) [] e f = absurd (omega arith)
values_body (w ∷ ws) (x ∷ v) e f =
    let size = length_in_octets w x in
    let first : number (take w (in_octets w x ++ body ws v)) ≡ x = ap number (take_at (in_octets w x) (body ws v) w size) ∙ number_in_octets w
    x f.0 in
    let rest : values ws (drop w (in_octets w x ++ body ws v)) ≡ v = ap (values ws) (drop_at (in_octets w x) (body ws v) w size) ∙ values_body
    ws v (omega arith) f.1 in
    λ j. first j ∷ rest j

-- ---- octets as numbers, and the numbers as octets again

octets_drop : (n : ℕ) (os : List ℕ) → Octets os → Octets (drop n os)
octets_drop zero os p = p
octets_drop (suc n) [] p = tt
octets_drop (suc n) (o ∷ os) p = octets_drop n os p.1

body_values : (ws b : List ℕ) → length b ≡ total ws → Octets b → body ws (values ws b) ≡ b
body_values [] [] e p = refl
body_values [] (o ∷ b) e p = absurd (omega arith)
body_values (w ∷ ws) b e p =
    let first = in_octets_number w (take w b) (length-take-le w b (omega arith)) (octets_take w b p) in
    let rest = body_values ws (drop w b) (omega (arith, length-drop w b)) (octets_drop w b p) in
    (λ i. first i ++ rest i) ∙ take-append-drop w b

-- ---- lines

body_framed : (k : ℕ) (b : List ℕ) → body_of (framed k b) ≡ b
unfolding framed
body_framed k b =
    let size : length (framed k b) - 3 ≡ length b = omega (arith, length_framed k b) in
    ap (λ (n : ℕ). take n (drop 2 (framed k b))) size ∙ take_at b (check (total (length b ∷ k ∷ b)) ∷ []) (length b) refl

module _ (k : Kind) (v : List ℕ) where
  pub line_kind : kind_octet (line_octets k v) ≡ code k
  unfolding framed
  line_kind = refl

  line_body : body_of (line_octets k v) ≡ body (widths k) v
  line_body = body_framed (code k) (body (widths k) v)

  pub line_size_lem : length (body_of (line_octets k v)) ≡ total (widths k)
  line_size_lem = ap length line_body ∙ length_body (widths k) v

  pub line_numbers : length v ≡ length (widths k) → Fit (widths k) v → numbers k (line_octets k v) ≡ v
  line_numbers e f = ap (values (widths k)) line_body ∙ values_body (widths k) v e f

-- THE LAW: an accepted line of kind k, of that kind's size, is the line of its numbers
pub line_again : (k : Kind) (os : List ℕ) → kind_octet os ≡ code k → length (body_of os) ≡ total (widths k) → Fine os
    → line_octets k (numbers k os) ≡ os
line_again k os e size p =
    let b = body_values (widths k) (body_of os) size (octets_take (length os - 3) (drop 2 os) (octets_drop 2 os p.small)) in
    (λ i. framed (sym e i) (b i)) ∙ sym (framed_again os p.small p.long p.adds)

-- ---- the lines of a table

-- the octets of the line at place i of kind k's table
abbrev pub row_line : Kind → ℕ → Record → List ℕ
row_line k i r = line_octets k (row k i r)

pub table_lines_lem : (k : Kind) (r : Record) → table_lines k r ≡ table (count k r) (λ i. row_line k i r)
table_lines_lem k r = map_table (line_octets k) (count k r) (λ i. row k i r)

-- a table's line has as many numbers as a body of its kind
length_row : (k : Kind) (i : ℕ) (r : Record) → code k < code end → length (row k i r) ≡ length (widths k)
length_row head i r h = refl
length_row user i r h = refl
length_row edge i r h = refl
length_row formula i r h = refl
length_row demarcation i r h = refl
length_row hierarchy i r h = refl
length_row principal i r h = refl
length_row exclusion i r h = refl
length_row prerequisite i r h = refl
length_row method i r h = refl
length_row end i r h = absurd (omega arith)

pub row_numbers : (r : Record) → Typed r → (k : Kind) (i : ℕ) → code k < code end → numbers k (row_line k i r) ≡ row k i r
row_numbers r typed k i h = line_numbers k (row k i r) (length_row k i r h) (typed.fits k i)
