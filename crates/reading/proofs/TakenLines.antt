-- The lines that `read_kind` has taken: what its loop keeps, for any kind that has a table.
use Prim.Native.Nat.{zero, suc}
use Rattle.std.specs.Prelude.{ℕ, ◌+◌, ◌-◌, ◌≤◌, ◌<◌, ◌≡◌, refl, Bool, true, false, not, List, [], ◌∷◌, length, set, replicate, leb, None, Some, Ok, Err}
use Rattle.std.proofs.Common.{sym, ◌∙◌, ap, subst, arith}
use mathlib.Core.Path.{subst₂}
use borrow.Author.Tests.{leb-true}
use Rattle.common.specs.Lists.{at}
use Rattle.common.specs.ListLaws.{zero_at}
use Rattle.common.specs.BoolLaws.{and_cases}
use Rattle.common.specs.Causes.{first}
use Rattle.common.specs.Limits.{most_formulas, most_lines, greatest_height}
use Rattle.common.specs.RefusalNumbers.{number}
use Rattle.common.specs.declared.Refusal.{Refusal}
use Rattle.octets.specs.Line.{Framed, total}
use Rattle.policy.specs.declared.Record.{Record}
use Rattle.policy.specs.Table.{Kind, formula}
use Rattle.policy.specs.Table.{code, count, room, appended, widths}
use Rattle.policy.specs.LinesBefore.{lines_most}
use Rattle.policy.specs.Height.{height}
use Rattle.policy.specs.HeightLaws.{Heights, heights_start, heights_appended, heights_low}
use Rattle.policy.specs.HeightLaws as laws
use Rattle.policy.specs.LoadableLaws.{table_few}
use Rattle.policy.specs.TableLaws.{ColumnLengths, count_same, least_appended}
use Rattle.policy.specs.Rows.{key, minimum_key, row_refusal}
use Rattle.policy.specs.RowLaws.{user_values, edge_values, formula_values, demarcation_values, hierarchy_values, principal_values}
use Rattle.policy.specs.RowLaws.{exclusion_values, prerequisite_values, method_values}
use Rattle.rows.specs.Op.{op_of, height_of, parts_in_range, formula_in_range}
use Rattle.rows.specs.Checks.{causes}
use Rattle.lines.specs.declared.TableKind.{TableKind}
use Rattle.lines.specs.declared.TableKind.TheVariants.{Users, Edges, Formulas, Demarcations, Hierarchy, Principals, Exclusions, Prerequisites, Methods}
use Rattle.lines.specs.declared.Row.{Row}
use Rattle.lines.specs.declared.Row.TheVariants.{User, Edge, Formula, Demarcation, Principal, Exclusion, Prerequisite, Method}
use Rattle.lines.specs.declared.Row.TheVariants as rows
use Rattle.lines.specs.declared.Bounds.{Bounds}
use Rattle.lines.specs.declared.Cursor.{Cursor}
use Rattle.lines.specs.declared.Taken.{Taken}
use Rattle.lines.specs.NextLine.{no_line, body_line, next_of, octets_in, octets_at}
use Rattle.lines.specs.Judging.{table_of, size_of, row_at, kind_in, fields_of, height_by, refusal_by, CursorBound, HeightsLow, judged_values, judged_of}
use Rattle.lines.proofs.JudgedLine.{Refuses, Takes, refusal_here, values_say}
use Rattle.lines.proofs.JudgedLine.Refuses.{as_line, by_numbers}
use Rattle.lines.proofs.FoundLine.{FoundLine, found_line, row_kind}
use Rattle.reading.specs.declared.Stage.{Stage}
use Rattle.reading.specs.Body.{numbers}
use Rattle.reading.specs.Stages.{refused_at, Ready, Reads}
use Rattle.reading.proofs.Bodies.{fields_at, one_octet, two_octets_lem, numbers_are}
use Rattle.reading.proofs.Partway.{stage, HasTable, Partway, partway_start, partway_unread, partway_done, partway_refused, has_room_lem}
use Rattle.reading.proofs.Partway.{partway_more, cursor_bound}

-- ---- kind by kind

two : (os : List ℕ) → fields_at os (1 ∷ 1 ∷ []) 2 ≡ at os 2 ∷ at os 3 ∷ []
two os = sym (λ i. one_octet os 2 i ∷ one_octet os 3 i ∷ [])

three : (os : List ℕ) → fields_at os (1 ∷ 1 ∷ 1 ∷ []) 2 ≡ at os 2 ∷ at os 3 ∷ at os 4 ∷ []
three os = sym (λ i. one_octet os 2 i ∷ one_octet os 3 i ∷ one_octet os 4 i ∷ [])

-- the numbers of a line's body
row_numbers : (kind : TableKind) (os : List ℕ) → fields_at os (widths (table_of kind)) 2 ≡ fields_of (row_at kind (size_of (table_of kind)) os)
row_numbers Users os = sym (λ i. one_octet os 2 i ∷ two_octets_lem os 3 i ∷ [])
row_numbers Edges os = three os
row_numbers Formulas os = three os
row_numbers Demarcations os = refl
row_numbers Hierarchy os = two os
row_numbers Principals os = two os
row_numbers Exclusions os = two os
row_numbers Prerequisites os = two os
row_numbers Methods os = sym (λ i. one_octet os 2 i ∷ fields_at os (8 ∷ []) 3)

-- what refuses them, held to the counts of a record
abbrev pub bounds_of : Record → ℕ → ℕ → Bounds
bounds_of r row least =
    record {
      row = row;
      least_key = least;
      objects = r.objects;
      formulas = r.formula_count;
      demarcations = r.demarcation_count;
      principals =
          r.principal_count;
    }

row_refused : (r : Record) (i : ℕ) {least : ℕ} (h : ℕ) (v : Row) → least ≡ minimum_key (kind_in v) i r → h ≡ height_by v (height r i)
    → refusal_by (bounds_of r i least) h v ≡ row_refusal (kind_in v) i r (fields_of v)
row_refused r i h (User o w) e q = user_values r i o w e
row_refused r i h (Edge l x y) e q = edge_values r i l x y e
row_refused r i h (Formula op a b) e q = formula_values r i op a b q
row_refused r i h (Demarcation w) e q = demarcation_values r i w
row_refused r i h (rows.Hierarchy a b) e q = hierarchy_values r i a b e
row_refused r i h (Principal f d) e q = principal_values r i f d
row_refused r i h (Exclusion p q) e z = exclusion_values r i p q e
row_refused r i h (Prerequisite p q) e z = prerequisite_values r i p q e
row_refused r i h (Method f w) e q = method_values r i f w

-- a formula that passes is not too high
in_range_passes : (over fine : Bool) → first (causes over (not fine) false) ≡ 0 → fine ≡ true
in_range_passes true fine e = absurd (omega arith)
in_range_passes false true e = refl
in_range_passes false false e = absurd (omega arith)

height_low : (m : Bounds) (heights : ℕ → ℕ) (v : Row) → refusal_by m (height_by v heights) v ≡ 0 → height_by v heights ≤ greatest_height
height_low m heights (User o w) e = omega arith
height_low m heights (Edge l x y) e = omega arith
height_low m heights (Formula op a b) e =
    let h = height_of (op_of op) a b heights in
    let fine = in_range_passes (leb most_formulas m.row) (formula_in_range m.row op a b h) e in
    leb-true h greatest_height (and_cases (parts_in_range (op_of op) m.row a b) (leb h greatest_height) fine).1
height_low m heights (Demarcation w) e = omega arith
height_low m heights (rows.Hierarchy a b) e = omega arith
height_low m heights (Principal f d) e = omega arith
height_low m heights (Exclusion p q) e = omega arith
height_low m heights (Prerequisite p q) e = omega arith
height_low m heights (Method f w) e = omega arith

-- the height that a line says is the same by the heights kept, and by those of the record
height_same : (r : Record) (heights : List ℕ) (v : Row) → (kind_in v ≡ formula → Heights r heights (count formula r))
    → height_by v (at heights) ≡ height_by v (height r (count (kind_in v) r))
height_same r heights (User o w) h = refl
height_same r heights (Edge l x y) h = refl
height_same r heights (Formula op a b) h = laws.height_here (h refl) op a b refl
height_same r heights (Demarcation w) h = refl
height_same r heights (rows.Hierarchy a b) h = refl
height_same r heights (Principal f d) h = refl
height_same r heights (Exclusion p q) h = refl
height_same r heights (Prerequisite p q) h = refl
height_same r heights (Method f w) h = refl

-- a formula more, with its height
formula_more : (r : Record) (heights : List ℕ) (v : Row) → ColumnLengths r → kind_in v ≡ formula → count formula r < most_formulas
    → Heights r heights (count formula r)
    → Heights (appended formula r (fields_of v)) (set heights (count formula r) (height_by v (at heights))) (count formula r + 1)
formula_more r heights (User o w) s e l h = absurd cc
formula_more r heights (Edge x y z) s e l h = absurd cc
formula_more r heights (Formula op a b) s e l h = heights_appended op a b s l h refl
formula_more r heights (Demarcation w) s e l h = absurd cc
formula_more r heights (rows.Hierarchy a b) s e l h = absurd cc
formula_more r heights (Principal f d) s e l h = absurd cc
formula_more r heights (Exclusion p q) s e l h = absurd cc
formula_more r heights (Prerequisite p q) s e l h = absurd cc
formula_more r heights (Method f w) s e l h = absurd cc

-- ---- for any kind

has_table : (kind : TableKind) → HasTable (table_of kind)
has_table Users = record { low = omega arith; high = omega arith }
has_table Edges = record { low = omega arith; high = omega arith }
has_table Formulas = record { low = omega arith; high = omega arith }
has_table Demarcations = record { low = omega arith; high = omega arith }
has_table Hierarchy = record { low = omega arith; high = omega arith }
has_table Principals = record { low = omega arith; high = omega arith }
has_table Exclusions = record { low = omega arith; high = omega arith }
has_table Prerequisites = record { low = omega arith; high = omega arith }
has_table Methods = record { low = omega arith; high = omega arith }

-- the formulas' table is no other kind's
pub only_formulas : (kind : TableKind) → table_of kind ≡ formula → kind ≡ Formulas
only_formulas Formulas e = refl
only_formulas Users e = absurd cc
only_formulas Edges e = absurd cc
only_formulas Demarcations e = absurd cc
only_formulas Hierarchy e = absurd cc
only_formulas Principals e = absurd cc
only_formulas Exclusions e = absurd cc
only_formulas Prerequisites e = absurd cc
only_formulas Methods e = absurd cc

-- the heights kept are those of formulas in range, whatever the kind
abbrev pub Small : List ℕ → Type 0
Small heights = (g : ℕ) → at heights g ≤ greatest_height

pub small_none : Small (replicate most_formulas 0)
small_none g = rw (zero_at most_formulas g) (omega arith)

pub small_kept : (heights : List ℕ) (n : ℕ) {height : ℕ} → Small heights → height ≤ greatest_height → Small (set heights n height)
small_kept [] n h low g = h g
small_kept (x ∷ l) zero h low zero = low
small_kept (x ∷ l) zero h low (suc g) = h (suc g)
small_kept (x ∷ l) (suc n) h low zero = h zero
small_kept (x ∷ l) (suc n) h low (suc g) = small_kept l n (λ j. h (suc j)) low g

-- n lines of the kind have been taken, with the least key that may follow and, of formulas, their heights
pub record TakenLines (text : List ℕ) (k : Kind) (start : Stage) (c : Cursor) (r : Record) (n least : ℕ) (heights : List ℕ) : Type 0 where
  pub partway : Partway text k start c r
  pub counted : n ≡ count k r
  pub lowest : least ≡ minimum_key k (count k r) r
  pub high : k ≡ formula → Heights r heights (count formula r)

module _ (kind : TableKind) where
  abbrev k : Kind
  k = table_of kind

  pub taken_start : (text : List ℕ) (s : Stage) → Ready text k s → TakenLines text k s s.cursor s.rules 0 0 (replicate most_formulas 0)
  taken_start text s r =
      let e : count k s.rules ≡ 0 = r.empty k (omega arith) in
      record {
        partway = partway_start text k s r;
        counted = sym e;
        lowest = ap (λ (n : ℕ). minimum_key k n s.rules) (sym e);
        high = λ q. heights_start s.rules (ap (λ (j : Kind). count j s.rules) (sym q) ∙ e);
      }

  module _ {text : List ℕ} {start : Stage} {c : Cursor} {r : Record} {n least : ℕ} {heights : List ℕ} (g : TakenLines text k start c r n least heights) where
    pub taken_bound : CursorBound c
    taken_bound = cursor_bound text k g.partway

    -- the heights kept of formulas are small
    pub taken_heights : HeightsLow k heights
    taken_heights = λ f. heights_low (g.high f) (table_few r formula (g.partway.begun.loads formula))

    -- no line of the kind is left
    pub taken_all : next_of text c.offset (code k) (size_of k) ≡ no_line → Reads text k start (Ok (stage c r))
    taken_all e = partway_done text k (has_table kind) start c r g.partway e

    -- ---- a line of the kind

    module _ {next sum : ℕ} (e : next_of text c.offset (code k) (size_of k) ≡ body_line next sum) where
      found : FoundLine text c.offset (code k) (size_of k) next sum
      found = found_line text c.offset (code k) (size_of k) e

      v : Row
      v = row_at kind (size_of k) (octets_at text c.offset)

      of_kind : kind_in v ≡ k
      unfolding v
      of_kind = row_kind kind (size_of k) (octets_at text c.offset)

      fields : numbers k found.os ≡ fields_of v
      unfolding v
      fields =
          numbers_are found.os (total (widths k)) found.sized k refl
          ∙ row_numbers kind found.os
          ∙ ap (λ (f : Framed). fields_of (row_at kind (size_of k) (octets_in f))) (sym found.framed)

      refusal :
          refusal_here text c kind (size_of k) (bounds_of r n least) (at heights) ≡ row_refusal k (count k r) r (numbers k found.os)
      unfolding v
      refusal =
          ap (λ (m : ℕ). refusal_by (bounds_of r m least) (height_by v (at heights)) v) g.counted
          ∙ row_refused r (count k r) (height_by v (at heights)) v (g.lowest ∙ ap (λ (j : Kind). minimum_key j (count k r) r) (sym of_kind))
          (height_same r heights v (λ f. g.high (sym of_kind ∙ f)) ∙ ap (λ (j : Kind). height_by v (height r (count j r))) of_kind)
          ∙ (λ i. row_refusal (of_kind i) (count k r) r (sym fields i))

    -- it is refused
    pub taken_refused : (why : Refusal) → judged_values (Err why) ≡ judged_of text c kind (size_of k) (bounds_of r n least) (at heights)
        → Reads text k start (Err (refused_at c why))
    taken_refused why e = go (values_say text c kind (size_of k) (bounds_of r n least) (at heights) (Err why) e)
      where
        go : Refuses text c kind (size_of k) (bounds_of r n least) (at heights) (number why) → Reads text k start (Err (refused_at c why))
        go (as_line f) = partway_unread text k (has_table kind) start c r g.partway why f
        go (by_numbers f z h) = partway_refused text k (has_table kind) start c r g.partway (found f) why (z ∙ refusal f)

    -- there is none
    pub taken_none : judged_values (Ok None) ≡ judged_of text c kind (size_of k) (bounds_of r n least) (at heights) → Reads text k start (Ok (stage c r))
    taken_none e = taken_all (values_say text c kind (size_of k) (bounds_of r n least) (at heights) (Ok None) e)

    -- it is taken
    pub taken_one : {t : Taken} → judged_values (Ok (Some t)) ≡ judged_of text c kind (size_of k) (bounds_of r n least) (at heights)
        → Takes text c kind (size_of k) (bounds_of r n least) (at heights) t
    taken_one {t} e = values_say text c kind (size_of k) (bounds_of r n least) (at heights) (Ok (Some t)) e

    module _ {t : Taken} (takes : Takes text c kind (size_of k) (bounds_of r n least) (at heights) t) where
      passes : row_refusal k (count k r) r (numbers k (found takes.found).os) ≡ 0
      passes = sym (refusal takes.found) ∙ takes.passes

      -- its numbers
      row_taken : v takes.found ≡ t.row
      unfolding v
      row_taken = ap (λ (o : Taken). o.row) (sym takes.same)

      kind_taken : kind_in t.row ≡ k
      kind_taken = ap kind_in (sym row_taken) ∙ of_kind takes.found

      few : count k r < room k
      few = has_room_lem text k (has_table kind) start c r g.partway (found takes.found) passes

      -- there is room for it
      pub taken_room : count (kind_in t.row) r < room (kind_in t.row)
      taken_room = rw kind_taken few

      pub taken_few : n < most_lines
      taken_few = let f = few in let m = lines_most k in omega (arith, g.counted)

      pub taken_less : length text - t.cursor.offset < length text - c.offset
      taken_less =
          let f = found takes.found in
          let m = ap (λ (o : Taken). o.cursor.offset) takes.same in omega (arith, f.within, f.follows)

      -- a formula has a place, and its height is small
      pub taken_place : k ≡ formula → n < most_formulas
      taken_place f = let l = few in subst (λ (j : Kind). n < room j) f (omega (arith, g.counted))

      height_taken : t.height ≡ height_by t.row (at heights)
      unfolding v
      height_taken = ap (λ (o : Taken). o.height) takes.same ∙ ap (λ (x : Row). height_by x (at heights)) row_taken

      pub taken_height : t.height ≤ greatest_height
      taken_height =
          rw (ap (λ (o : Taken). o.height) takes.same)
          (height_low (bounds_of r n least) (at heights) (row_at kind (size_of k) (octets_at text c.offset)) takes.passes)

      pub taken_more : {after : Record} → after ≡ appended (kind_in t.row) r (fields_of t.row)
          → {tall : List ℕ} → (k ≡ formula → tall ≡ set heights n t.height)
          → TakenLines text k start t.cursor after (n + 1) t.least_key tall
      unfolding v
      taken_more {after} y {tall} z =
          let low = (has_table kind).low in
          let high = (has_table kind).high in
          let w = fields_of t.row in
          record {
            partway =
                subst₂ (Partway text k start)
                (ap (λ (o : Taken). o.cursor) (sym takes.same))
                (ap (appended k r) (fields takes.found ∙ ap fields_of row_taken) ∙ grown)
                (partway_more text k (has_table kind) start c r g.partway (found takes.found) (sym passes));
            counted = ap (λ (m : ℕ). m + 1) g.counted ∙ sym (count_same k r w low high) ∙ ap (count k) grown;
            lowest =
                ap (λ (o : Taken). o.least_key) takes.same
                ∙ ap (λ (x : Row). key (kind_in x) (fields_of x) + 1) row_taken
                ∙ ap (λ (j : Kind). key j w + 1) kind_taken
                ∙ sym (least_appended k r w low high g.partway.begun.sized few)
                ∙ ap (λ (s : Record). minimum_key k (count k s) s) grown;
            high = λ f. taller f (z f);
          }
        where
          grown : appended k r (fields_of t.row) ≡ after
          grown = ap (λ (j : Kind). appended j r (fields_of t.row)) (sym kind_taken) ∙ sym y

          -- a formula more, with its height
          taller : k ≡ formula → tall ≡ set heights n t.height → Heights after tall (count formula after)
          taller f z =
              let same : n ≡ count formula r = g.counted ∙ ap (λ (j : Kind). count j r) f in
              let l : count formula r < most_formulas = (let m = taken_place f in omega arith) in
              let w = fields_of t.row in
              let shown = formula_more r heights t.row g.partway.begun.sized (kind_taken ∙ f) l (g.high f) in
              subst₂ (λ (s : Record) (x : List ℕ). Heights s x (count formula s))
              (ap (λ (j : Kind). appended j r w) (sym f) ∙ grown)
              ((λ i. set heights (sym same i) (sym height_taken i)) ∙ sym z)
              (subst (Heights (appended formula r w) _) (sym (count_same formula r w (omega arith) (omega arith))) shown)
