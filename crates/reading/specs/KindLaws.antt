-- The tables of a loaded record are the lines of the text, kind by kind and in order.
use Rattle.std.specs.Prelude.{ℕ, ◌<◌, ◌≡◌, Bool, true, false, eqb}
use Rattle.std.proofs.Math.Path.{refl, sym, ap}
use Rattle.std.proofs.Common.{◌∙◌, subst, arith, add-one, eqb-true, ne_eqb}
use Rattle.std.proofs.Math.Bool.{false≢true, cond}
use mathlib.Core.List.{List, [], ◌∷◌, ◌++◌, map, append_assoc, append-nil}
use Rattle.common.specs.Lists.{at, table}
use Rattle.common.specs.ListLaws.{table_same}
use Rattle.octets.specs.Line.{Framed, kind_octet, body_of, lines}
use Rattle.policy.specs.declared.Record.{Record}
use Rattle.policy.specs.Table.{Kind, head, user, edge, formula, demarcation, hierarchy, principal, exclusion, prerequisite, method, end}
use Rattle.policy.specs.Table.{code, kind_of, is_kind, count, columns, room, row, rows, blank, appended}
use Rattle.policy.specs.TableLaws.{same_kind, ColumnLengths, count_other, columns_other, count_same, row_kept, new_row}
use Rattle.policy.specs.TableLaws as tables
use Rattle.policy.specs.GrowthLaws.{blank_empty}
use Rattle.policy.specs.RoomLaws.{room_left}
use Rattle.policy.specs.MemoLaws.{rows_indexed}
use Rattle.reading.specs.Loaded.{Loaded}
use Rattle.policy.specs.Table.{widths}
use Rattle.reading.specs.Body.{values, numbers, lines_of}
use Rattle.reading.specs.Loading.{Reading, at_top, after_line, read, load}
use Rattle.reading.specs.LoadingLaws.{Taken, taken, Sound, sound_top, sound_more}
use Rattle.reading.specs.FramedLaws.{Lines, lines_checked}
use Rattle.reading.specs.FramedLaws.Lines.{none, more}
use Rattle.reading.specs.FramedLaws.Checked.{refused_line_lem, octets_line}
use Rattle.reading.specs.TakenLaws.{read_taken, end_taken}

-- ---- one line more

-- a line's body has as many numbers as its kind has columns
pub as_many : (k : Kind) (r : Record) (b : List ℕ) → code k < 0xFF
    → tables.values (columns k r) (values (widths k) b) 0 ≡ values (widths k) b
as_many head r b l = refl
as_many user r b l = refl
as_many edge r b l = refl
as_many formula r b l = refl
as_many demarcation r b l = refl
as_many hierarchy r b l = refl
as_many principal r b l = refl
as_many exclusion r b l = refl
as_many prerequisite r b l = refl
as_many method r b l = refl
as_many end r b l = absurd (omega arith)

-- kind k's own rows
pub rows_more : (k : Kind) (r : Record) (v : List ℕ) → 1 < code k → code k < 0xFF → ColumnLengths r → count k r < room k
    → tables.values (columns k r) v 0 ≡ v
    → rows k (appended k r v) ≡ rows k r ++ (v ∷ [])
rows_more k r v low high s few all =
    ap (λ (n : ℕ). table n (λ i. row k i (appended k r v))) (count_same k r v low high ∙ add-one (count k r))
    ∙ (λ t. table_same (count k r) (λ i. row k i (appended k r v)) (λ i. row k i r) (λ i l. row_kept k r v low k i l) t ++
    ((new_row k r v low high s few ∙ all) t ∷ []))

-- another kind's rows stay
rows_other : (k j : Kind) (r : Record) (v : List ℕ) → is_kind k j ≡ false → rows j (appended k r v) ≡ rows j r
rows_other k j r v e = λ t. table (count_other k j r v e t) (λ i. map (λ c. at c i) (columns_other k j r v e t))

-- ---- the lines of kind j, between head and end

module _ (j : Kind) (low : 1 < code j) (high : code j < 0xFF) where
  -- those that a line of kind k adds
  abbrev added : Bool → List ℕ → List (List ℕ)
  added b os = cond b (numbers j os ∷ []) []

  taken_rows : (t : Reading) (k : Kind) (os : List ℕ) → Taken t k os → Sound t
      → rows j (after_line t k os).rules ≡ rows j t.rules ++ added (is_kind k j) os
  unfolding after_line
  taken_rows t k os w s = go (is_kind k j) refl
    where
      own : Taken t j os → rows j (appended j t.rules (numbers j os)) ≡ rows j t.rules ++ (numbers j os ∷ [])
      own u =
          rows_more j t.rules (numbers j os) low high s.sized
          (room_left j t.rules (numbers j os) low high
          (s.loads (λ z. false≢true (sym (ne_eqb (code j) 1 (λ q. omega arith)) ∙ u.head_first z))) u.passes)
          (as_many j t.rules (body_of os) high)

      go : (b : Bool) → is_kind k j ≡ b → rows j (appended k t.rules (numbers k os)) ≡ rows j t.rules ++ added b os
      go true e =
          subst (λ (i : Kind). Taken t i os → rows j (appended i t.rules (numbers i os)) ≡ rows j t.rules ++ (numbers j os ∷ []))
          (sym (same_kind k j (eqb-true (code k) (code j) e))) own w
      go false e = rows_other k j t.rules (numbers k os) e ∙ sym (append-nil (rows j t.rules))

  joined : (b : Bool) (os : List ℕ) (es ls : List (List ℕ)) → (es ++ added b os) ++ ls ≡ es ++ cond b (numbers j os ∷ ls) ls
  joined true os es ls = append_assoc es (numbers j os ∷ []) ls
  joined false os es ls = append_assoc es [] ls

  read_rows : {ls : List Framed} → Lines ls → (t : Reading) → Sound t → (read t ls).number ≡ 0
      → rows j (read t ls).rules ≡ rows j t.rules ++ lines_of j ls
  unfolding read
  read_rows none t s e = ap (rows j) (end_taken t e).1 ∙ rows_indexed t.rules j ∙ sym (append-nil (rows j t.rules))
  read_rows (more (refused_line_lem l u) p) t s e = absurd (omega arith)
  read_rows (more {ls = ls} (octets_line {os} f) p) t s e =
      let k = kind_of (kind_octet os) in
      let (z, q) = read_taken t os ls e in
      let w = taken t k os z in
      ap (λ (l : Loaded). rows j l.rules) q
      ∙ read_rows p (after_line t k os) (sound_more t k os w s) (ap (λ (l : Loaded). l.number) (sym q) ∙ e)
      ∙ ap (λ (es : List (List ℕ)). es ++ lines_of j ls) (taken_rows t k os w s)
      ∙ joined (is_kind k j) os (rows j t.rules) (lines_of j ls)
      ∙ ap (λ (c : ℕ). rows j t.rules ++ cond (eqb c (code j)) (numbers j os ∷ lines_of j ls) (lines_of j ls)) (sym w.kind)

  -- THE LAW: a loaded record's rows are the lines of the text
  pub rows_loaded : (text : List ℕ) → (load text).number ≡ 0 → rows j (load text).rules ≡ lines_of j (lines text)
  unfolding load
  rows_loaded text e =
      read_rows (lines_checked text) at_top sound_top e
      ∙ ap (λ (n : ℕ). table n (λ i. row j i blank) ++ lines_of j (lines text)) (blank_empty j low)
