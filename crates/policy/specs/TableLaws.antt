-- Laws of `Table`: what one line more changes, what it keeps, and that the tables load as before.
use Prim.{Unit, tt}
use Prim.Native.Nat.{ℕ, zero, suc, ◌+◌, ◌≤◌, ◌<◌}
use Rattle.std.specs.Prelude.{◌≡◌, Bool, true, false, not, cond, ◌&&◌, List, [], ◌∷◌, map, length, set, eqb}
use Rattle.std.proofs.Math.Path.{refl}
use Rattle.std.proofs.Common.{sym, ◌∙◌, ap, arith, add-one, length-set, get_or-set_same, get_or-set_other, drop-set-lt}
use Rattle.std.proofs.Math.Decide.{ℕ_discrete}
use Rattle.std.proofs.Math.Dec.{ltb, leb}
use borrow.Author.Tests.{le-leb, eq-eqb, ne_eqb}
use Rattle.common.specs.Lists.{at, every}
use Rattle.common.specs.ListLaws.{drop_one, every_more}
use Rattle.common.specs.BoolLaws.{and_cases, and_both}
use Rattle.common.specs.Causes.{first}
use Rattle.policy.specs.declared.Record.{Record}
use Rattle.policy.specs.Table.{Kind, head, user, edge, formula, demarcation, hierarchy, principal, exclusion, prerequisite, method}
use Rattle.policy.specs.Table.{end, code, kind_of, is_kind, count, columns, room, row, blank, appended}
use Rattle.rows.specs.Op.{op_of, height_of, formula_in_range}
use Rattle.policy.specs.Height.{height_in, height}
use Rattle.rows.specs.Checks.{causes}
use Rattle.policy.specs.Rows.{limited, rising, key, minimum_key, in_range, row_causes, row_refusal}
use Rattle.policy.specs.Loadable.{rows_load, zero_from, table_loads}

-- ---- kinds and their octets

-- a kind is known by its octet
pub kind_of_code : (k : Kind) → kind_of (code k) ≡ k
kind_of_code head = refl
kind_of_code user = refl
kind_of_code edge = refl
kind_of_code formula = refl
kind_of_code demarcation = refl
kind_of_code hierarchy = refl
kind_of_code principal = refl
kind_of_code exclusion = refl
kind_of_code prerequisite = refl
kind_of_code method = refl
kind_of_code end = refl

pub same_kind : (j k : Kind) → code j ≡ code k → j ≡ k
same_kind j k e = sym (kind_of_code j) ∙ ap kind_of e ∙ kind_of_code k

-- ---- a column with a number put at the first unused place, or not

module _ (c : List ℕ) (n x : ℕ) where
  put_length : (b : Bool) → length (cond b (set c n x) c) ≡ length c
  put_length true = length-set c n x
  put_length false = refl

  put_above : (b : Bool) (i : ℕ) → i < n → at (cond b (set c n x) c) i ≡ at c i
  put_above true i l = get_or-set_other c n i x 0 (λ e. omega arith)
  put_above false i l = refl

  put_zeros : n < length c → zero_from n c ≡ true → zero_from (n + 1) (set c n x) ≡ true
  put_zeros l z = rw (drop-set-lt (n + 1) c n x (omega arith)) (and_cases (eqb (at c n) 0) _ (rw (drop_one c n l) at z)).1

-- ---- sizes

-- each of the columns is m long
abbrev pub Long : ℕ → List (List ℕ) → Type 0
Long m [] = Unit {0}
Long m (c ∷ cs) = (length c ≡ m) × Long m cs

-- every column of every table is as long as the table has room
pub record ColumnLengths (r : Record) : Type 0 where
  pub long : (k : Kind) → Long (room k) (columns k r)

-- made of the lengths, kind by kind: of the edges' columns (labels, (sources, (targets, tt)))
pub sized : (r : Record)
    → Long (room user) (columns user r)
    → Long (room edge) (columns edge r)
    → Long (room formula) (columns formula r)
    → Long (room demarcation) (columns demarcation r)
    → Long (room hierarchy) (columns hierarchy r)
    → Long (room principal) (columns principal r)
    → Long (room exclusion) (columns exclusion r)
    → Long (room prerequisite) (columns prerequisite r)
    → Long (room method) (columns method r)
    → ColumnLengths r
sized r u e f d h p x q m = record { long = each }
  where
    each : (k : Kind) → Long (room k) (columns k r)
    each head = (refl, (refl, tt))
    each user = u
    each edge = e
    each formula = f
    each demarcation = d
    each hierarchy = h
    each principal = p
    each exclusion = x
    each prerequisite = q
    each method = m
    each end = tt

pub sized_blank : ColumnLengths blank
unfolding blank
sized_blank =
    sized blank (refl, (refl, tt)) (refl, (refl, (refl, tt))) (refl, (refl, (refl, tt))) (refl, tt)
    (refl, (refl, tt)) (refl, (refl, tt)) (refl, (refl, tt)) (refl, (refl, tt)) (refl, (refl, tt))

pub sized_appended : (k : Kind) {r : Record} (v : List ℕ) → ColumnLengths r → ColumnLengths (appended k r v)
unfolding appended
sized_appended k {r} v s =
    sized (appended k r v)
    (simp put_length (s.long user))
    (simp put_length (s.long edge))
    (simp put_length (s.long formula))
    (simp put_length (s.long demarcation))
    (simp put_length (s.long hierarchy))
    (simp put_length (s.long principal))
    (simp put_length (s.long exclusion))
    (simp put_length (s.long prerequisite))
    (simp put_length (s.long method))

-- ---- a line more of kind k, with the numbers v

-- a kind below k is another
other_above : (k j : Kind) → code j < code k → is_kind k j ≡ false
other_above k j l = ne_eqb (code k) (code j) (λ e. omega arith)

-- a kind's count and columns
abbrev table_of : Kind → Record → ℕ × List (List ℕ)
table_of k r = (count k r, columns k r)

-- other kinds' tables stay
table_other : (k j : Kind) (r : Record) (v : List ℕ) → is_kind k j ≡ false → table_of j (appended k r v) ≡ table_of j r
unfolding appended
table_other k head r v e = rw e
table_other k user r v e = rw e
table_other k edge r v e = rw e
table_other k formula r v e = rw e
table_other k demarcation r v e = rw e
table_other k hierarchy r v e = rw e
table_other k principal r v e = rw e
table_other k exclusion r v e = rw e
table_other k prerequisite r v e = rw e
table_other k method r v e = rw e
table_other k end r v e = refl

module _ (k j : Kind) (r : Record) (v : List ℕ) (e : is_kind k j ≡ false) where
  pub count_other : count j (appended k r v) ≡ count j r
  count_other = λ t. (table_other k j r v e t).0

  pub columns_other : columns j (appended k r v) ≡ columns j r
  columns_other = λ t. (table_other k j r v e t).1

pub objects_kept : (k : Kind) (r : Record) (v : List ℕ) → is_kind k head ≡ false → (appended k r v).objects ≡ r.objects
unfolding appended
objects_kept k r v e = rw e

-- the columns with v's numbers from the one at i on put at place n
abbrev pub written : List (List ℕ) → ℕ → List ℕ → ℕ → List (List ℕ)
written [] n v i = []
written (c ∷ cs) n v i = set c n (at v i) ∷ written cs n v (suc i)

-- kind k's own table has one line more, and its columns the line's numbers
table_same : (k : Kind) (r : Record) (v : List ℕ) → code head < code k → code k < code end
    → table_of k (appended k r v) ≡ (count k r + 1, written (columns k r) (count k r) v 0)
unfolding appended
table_same head r v l h = absurd (omega arith)
table_same user r v l h = refl
table_same edge r v l h = refl
table_same formula r v l h = refl
table_same demarcation r v l h = refl
table_same hierarchy r v l h = refl
table_same principal r v l h = refl
table_same exclusion r v l h = refl
table_same prerequisite r v l h = refl
table_same method r v l h = refl
table_same end r v l h = absurd (omega arith)

module _ (k : Kind) (r : Record) (v : List ℕ) (l : code head < code k) (h : code k < code end) where
  pub count_same : count k (appended k r v) ≡ count k r + 1
  count_same = λ t. (table_same k r v l h t).0

  pub columns_same : columns k (appended k r v) ≡ written (columns k r) (count k r) v 0
  columns_same = λ t. (table_same k r v l h t).1

-- ---- lines above the new one

module _ (k : Kind) (r : Record) (v : List ℕ) (body : code head < code k) where
  -- the line at a place below the count, its formula's height, its least key and what it is held to stay
  pub row_kept : (j : Kind) (i : ℕ) → i < count j r → row j i (appended k r v) ≡ row j i r
  unfolding appended
  row_kept head i l = rw (other_above k head body)
  row_kept user i l = simp put_above
  row_kept edge i l = simp put_above
  row_kept formula i l = simp put_above
  row_kept demarcation i l = simp put_above
  row_kept hierarchy i l = simp put_above
  row_kept principal i l = simp put_above
  row_kept exclusion i l = simp put_above
  row_kept prerequisite i l = simp put_above
  row_kept method i l = simp put_above
  row_kept end i l = refl

  -- heights below the count stay
  pub height_kept : (i : ℕ) → i ≤ count formula r → (g : ℕ) → height (appended k r v) i g ≡ height r i g
  unfolding height_in
  height_kept zero l g = refl
  height_kept (suc i) l g = go (ℕ_discrete g i) (height_kept i (omega arith))
    where
      go : Dec (g ≡ i) → ((f : ℕ) → height (appended k r v) i f ≡ height r i f) → height (appended k r v) (suc i) g ≡ height r (suc i) g
      go (yes p) h =
          let e = row_kept formula g (omega arith) in
          rw (eq-eqb g i p) (λ t. height_of (op_of (at (e t) 0)) (at (e t) 1) (at (e t) 2) (λ f. h f t))
      go (no q) h = rw (ne_eqb g i q) (h g)

  least_kept : (j : Kind) (i : ℕ) → i ≤ count j r → minimum_key j i (appended k r v) ≡ minimum_key j i r
  least_kept j zero l = refl
  least_kept j (suc i) l = λ t. key j (row_kept j i l t) + 1

  counted : (j : Kind) → code j < code k → count j (appended k r v) ≡ count j r
  counted j l = count_other k j r v (other_above k j l)

  range_kept : (j : Kind) → code j ≤ code k → (i : ℕ) → i ≤ count j r → (w : List ℕ) → in_range j i (appended k r v) w ≡ in_range j i r w
  unfolding in_range
  range_kept head h i l w = refl
  range_kept user h i l w = rw (objects_kept k r v (other_above k head body))
  range_kept edge h i l w = rw (objects_kept k r v (other_above k head body))
  range_kept formula h i l w =
      λ t. formula_in_range i (at w 0) (at w 1) (at w 2) (height_of (op_of (at w 0)) (at w 1) (at w 2) (λ g. height_kept i l g t))
  range_kept demarcation h i l w = refl
  range_kept hierarchy h i l w = rw (counted demarcation (omega arith))
  range_kept principal h i l w = rw (counted formula (omega arith), counted demarcation (omega arith))
  range_kept exclusion h i l w = rw (counted principal (omega arith))
  range_kept prerequisite h i l w = rw (counted principal (omega arith))
  range_kept method h i l w = refl
  range_kept end h i l w = refl

  refusal_kept : (j : Kind) → code j ≤ code k → (i : ℕ) → i ≤ count j r → (w : List ℕ)
      → row_refusal j i (appended k r v) w ≡ row_refusal j i r w
  unfolding row_refusal row_causes
  refusal_kept j h i l w =
      λ t. first (causes (limited j && leb (room j) i) (not (range_kept j h i l w t)) (rising j && ltb (key j w) (least_kept j i l t)))

  -- so the lines load as before
  line_kept : (j : Kind) → code j ≤ code k → (i : ℕ) → i < count j r
      → row_refusal j i (appended k r v) (row j i (appended k r v)) ≡ row_refusal j i r (row j i r)
  line_kept j h i l = refusal_kept j h i (omega arith) (row j i (appended k r v)) ∙ ap (row_refusal j i r) (row_kept j i l)

  rows_kept : (j : Kind) → code j ≤ code k → (n : ℕ) → n ≤ count j r → rows_load (appended k r v) j n ≡ rows_load r j n
  rows_kept j h zero l = refl
  rows_kept j h (suc n) l =
      every_more (λ i. eqb (row_refusal j i (appended k r v) (row j i (appended k r v))) 0) n (λ i. i)
      ∙ (λ t. rows_kept j h n (omega arith) t && eqb (line_kept j h n l t) 0)
      ∙ sym (every_more (λ i. eqb (row_refusal j i r (row j i r)) 0) n (λ i. i))

-- the head is first
code_least : (k : Kind) → code head ≤ code k
code_least head = omega arith
code_least user = omega arith
code_least edge = omega arith
code_least formula = omega arith
code_least demarcation = omega arith
code_least hierarchy = omega arith
code_least principal = omega arith
code_least exclusion = omega arith
code_least prerequisite = omega arith
code_least method = omega arith
code_least end = omega arith

-- a line more of kind k leaves the tables before it as they were
pub table_kept : (k j : Kind) (r : Record) (v : List ℕ) → code j < code k → table_loads (appended k r v) j ≡ table_loads r j
unfolding table_loads
table_kept k j r v l =
    let o = other_above k j l in
    rw (
      count_other k j r v o,
      rows_kept k r v (omega (arith, code_least j)) j (omega arith) (count j r) (omega arith),
      columns_other k j r v
          o,
    )

-- ---- the new line

-- v's numbers from the one at i on, one for each of the columns
abbrev pub values : List (List ℕ) → List ℕ → ℕ → List ℕ
values [] v i = []
values (c ∷ cs) v i = at v i ∷ values cs v (suc i)

module _ (n m : ℕ) (l : n < m) (v : List ℕ) where
  row_written : (cs : List (List ℕ)) (i : ℕ) → Long m cs → map (λ c. at c n) (written cs n v i) ≡ values cs v i
  row_written [] i s = refl
  row_written (c ∷ cs) i s = λ t. get_or-set_same c n (at v i) 0 (omega arith) t ∷ row_written cs (suc i) s.1 t

  zeros_written : (cs : List (List ℕ)) (i : ℕ) → Long m cs → every (zero_from n) cs ≡ true
      → every (zero_from (n + 1)) (written cs n v i) ≡ true
  zeros_written [] i s z = refl
  zeros_written (c ∷ cs) i s z =
      let h = and_cases (zero_from n c) _ z in
      and_both (zero_from (n + 1) (set c n (at v i))) _ (put_zeros c n (at v i) (omega arith) h.0)
      (zeros_written cs (suc i) s.1 h.1)

-- the check reads no more of v
refusal_values : (k : Kind) (n : ℕ) (r : Record) (v : List ℕ) → row_refusal k n r (values (columns k r) v 0) ≡ row_refusal k n r v
unfolding row_refusal row_causes in_range
refusal_values head n r v = refl
refusal_values user n r v = refl
refusal_values edge n r v = refl
refusal_values formula n r v = refl
refusal_values demarcation n r v = refl
refusal_values hierarchy n r v = refl
refusal_values principal n r v = refl
refusal_values exclusion n r v = refl
refusal_values prerequisite n r v = refl
refusal_values method n r v = refl
refusal_values end n r v = refl

module _ (k : Kind) (r : Record) (v : List ℕ) (l : code head < code k) (h : code k < code end) (s : ColumnLengths r) (few : count k r < room k)
  where
    -- the line at the count is v, and the check at its place is v's
    pub new_row : row k (count k r) (appended k r v) ≡ values (columns k r) v 0
    new_row = ap (map (λ c. at c (count k r))) (columns_same k r v l h) ∙ row_written (count k r) (room k) few v (columns k r) 0 (s.long k)

    new_refusal : row_refusal k (count k r) (appended k r v) (row k (count k r) (appended k r v)) ≡ row_refusal k (count k r) r v
    new_refusal =
        refusal_kept k r v l k (omega arith) (count k r) (omega arith) (row k (count k r) (appended k r v))
        ∙ ap (row_refusal k (count k r) r) new_row ∙ refusal_values k (count k r) r v

    rows_more : rows_load (appended k r v) k (count k r + 1) ≡ (rows_load r k (count k r) && eqb (row_refusal k (count k r) r v) 0)
    rows_more =
        ap (rows_load (appended k r v) k) (add-one (count k r))
        ∙ every_more (λ i. eqb (row_refusal k i (appended k r v) (row k i (appended k r v))) 0) (count k r) (λ i. i)
        ∙ (λ t. rows_kept k r v l k (omega arith) (count k r) (omega arith) t && eqb (new_refusal t) 0)

    -- kind k's own table still loads, if the line passes the check at its place
    pub table_more : table_loads r k ≡ true → row_refusal k (count k r) r v ≡ 0 → table_loads (appended k r v) k ≡ true
    unfolding table_loads
    table_more loads passed =
        let p = and_cases (rows_load r k (count k r)) _ (and_cases (leb (count k r) (room k)) _ loads).1 in
        rw (count_same k r v l h, le-leb (count k r + 1) (room k) (omega arith), rows_more, p.0, passed, columns_same k r v l h)
        (zeros_written (count k r) (room k) few v (columns k r) 0 (s.long k) p.1)

-- a key is read off the line's own numbers
key_values : (k : Kind) (r : Record) (v : List ℕ) → key k (values (columns k r) v 0) ≡ key k v
key_values head r v = refl
key_values user r v = refl
key_values edge r v = refl
key_values formula r v = refl
key_values demarcation r v = refl
key_values hierarchy r v = refl
key_values principal r v = refl
key_values exclusion r v = refl
key_values prerequisite r v = refl
key_values method r v = refl
key_values end r v = refl

-- the least key that may follow the new line
pub least_appended : (k : Kind) (r : Record) (v : List ℕ) → code head < code k → code k < code end → ColumnLengths r → count k r < room k
    → minimum_key k (count k (appended k r v)) (appended k r v) ≡ key k v + 1
least_appended k r v l h s few =
    ap (λ (n : ℕ). minimum_key k n (appended k r v)) (count_same k r v l h ∙ add-one (count k r))
    ∙ ap (λ (w : List ℕ). key k w + 1) (new_row k r v l h s few)
    ∙ ap (λ (n : ℕ). n + 1) (key_values k r v)

-- the blank record's tables load
pub blank_loads : (k : Kind) → table_loads blank k ≡ true
unfolding blank table_loads row_refusal row_causes in_range
blank_loads head = refl
blank_loads user = refl
blank_loads edge = refl
blank_loads formula = refl
blank_loads demarcation = refl
blank_loads hierarchy = refl
blank_loads principal = refl
blank_loads exclusion = refl
blank_loads prerequisite = refl
blank_loads method = refl
blank_loads end = refl
