-- Why the tables without a limit of their own have room: their lines rise, and there are only so many in range.
use Rattle.std.specs.Prelude.{ℕ, zero, suc, ◌+◌, ◌-◌, ◌*◌, ◌≤◌, ◌<◌, ◌≡◌, List, ◌≢◌, ◌⊎◌, true, false, not, ◌&&◌, ltb, eqb}
use Rattle.std.proofs.Math.Path.{refl}
use Rattle.std.proofs.Common.{sym, ◌∙◌, subst, inl, inr, ⊎_elim, arith, zero-add, suc-add, add-one, ltb-true, ltb-false, eqb-true}
use Rattle.std.proofs.Math.Decide.{dec_lt}
use Rattle.std.proofs.lemmas.Bool.{eqb-false, not-true, not-false}
use Rattle.common.specs.Limits.{most_exclusions, most_objects, most_pairs, most_principals, most_users}
use Rattle.common.specs.BoolLaws.{and_cases}
use Rattle.common.specs.Causes.{first}
use Rattle.common.specs.Lists.{at}
use Rattle.common.specs.ListLaws.{every_more}
use Rattle.policy.specs.declared.Record.{Record}
use Rattle.policy.specs.Table.{Kind, head, user, edge, formula, demarcation, hierarchy, principal, exclusion, prerequisite, method}
use Rattle.policy.specs.Table.{end, code, count, room, row}
use Rattle.rows.specs.Checks.{causes, pair_in_range, pair_key}
use Rattle.policy.specs.Rows.{in_range, key, minimum_key, row_causes, row_refusal}
use Rattle.policy.specs.Loadable.{rows_load, table_loads}
use Rattle.policy.specs.LoadableLaws.{head_range, table_few, table_rows}
use Rattle.policy.specs.RowLaws.{passed, row_limit}

-- ---- users: by object

pub record UserRoom (least n : ℕ) : Type 0 where
  pub most : n ≤ least

pub user_none : (n : ℕ) → n ≡ 0 → UserRoom 0 n
user_none n e = record { most = omega arith }

module _ {least n : ℕ} (u : UserRoom least n) (objects o : ℕ) (e : first (causes false (not (ltb o objects)) (ltb o least)) ≡ 0) where
  user_order : n ≤ o
  user_order = let l = ltb-false o least (passed false (not (ltb o objects)) (ltb o least) e).2 in let m = u.most in omega arith

  pub user_room : objects ≤ most_objects → n < most_users
  user_room h =
      let l = ltb-true o objects (not-false (ltb o objects) (passed false (not (ltb o objects)) (ltb o least) e).1) in
      let m = user_order in omega arith

  pub user_more : {m after : ℕ} → after ≡ o + 1 → m ≡ n + 1 → UserRoom after m
  user_more g f = let m = user_order in record { most = omega arith }

-- ---- pairs of different things, as pairs rise: so many before (a, b)

-- each of as many things as there may be has so many others
abbrev others : ℕ
others = most_principals - 1

pub record PairRoom (least n : ℕ) : Type 0 where
  pub down : (a b : ℕ) → a < most_principals → b < a → least ≤ pair_key a b → n ≤ others * a + b
  pub up : (a b : ℕ) → b < most_principals → a < b → least ≤ pair_key a b → n + 1 ≤ others * a + b

pub pair_none : (n : ℕ) → n ≡ 0 → PairRoom 0 n
pair_none n e = record { down = λ a b l h k. omega arith; up = λ a b l h k. omega arith }

other_side : (a b : ℕ) → a ≢ b → Dec (a < b) → (a < b) ⊎ (b < a)
other_side a b h (yes l) = inl l
other_side a b h (no k) = inr (omega arith)

module _ {least n : ℕ} (u : PairRoom least n) (things a b : ℕ) (few : things ≤ most_principals)
    (e : first (causes false (not (pair_in_range things a b)) (ltb (pair_key a b) least)) ≡ 0) where
  in_range_lem : pair_in_range things a b ≡ true
  in_range_lem = not-false (pair_in_range things a b) (passed false (not (pair_in_range things a b)) (ltb (pair_key a b) least) e).1

  low : a < most_principals
  low = let l = ltb-true a things (and_cases (ltb a things) _ in_range_lem).0 in omega arith

  high : b < most_principals
  high = let l = ltb-true b things (and_cases (ltb b things) _ (and_cases (ltb a things) _ in_range_lem).1).0 in omega arith

  sides : (a < b) ⊎ (b < a)
  sides =
      other_side a b (eqb-false a b (not-true (eqb a b) (and_cases (ltb b things) _ (and_cases (ltb a things) _ in_range_lem).1).1))
      (dec_lt a b)

  order : least ≤ pair_key a b
  order = ltb-false (pair_key a b) least (passed false (not (pair_in_range things a b)) (ltb (pair_key a b) least) e).2

  pub pair_room : n < most_pairs
  pair_room =
      let h = low in let k = high in ⊎_elim (λ l. omega (arith, u.up a b k l order)) (λ l. omega (arith, u.down a b h l order)) sides

  pub pair_more : {m after : ℕ} → after ≡ pair_key a b + 1 → m ≡ n + 1 → PairRoom after m
  pair_more g f =
      let h = low in
      let k = high in
      ⊎_elim
      (λ l. let q = u.up a b k l order in record { down = λ x y lx ly z. omega arith; up = λ x y ly lx z. omega arith })
      (λ l. let q = u.down a b h l order in record { down = λ x y lx ly z. omega arith; up = λ x y ly lx z. omega arith })
      sides

-- ---- exclusions: pairs with the lower first

-- how many pairs have their lower below a
abbrev pub before : ℕ → ℕ
before zero = 0
before (suc a) = before a + (others - a)

before_adds : (a d : ℕ) → before a ≤ before (d + a)
before_adds a zero = rw zero-add (let h : before a ≤ before a = omega arith in h)
before_adds a (suc d) = rw suc-add (let h = before_adds a d in omega arith)

before_rises : (a b : ℕ) → a ≤ b → before a ≤ before b
before_rises a b l = let e : (b - a) + a ≡ b = omega arith in subst (λ (n : ℕ). before a ≤ before n) e (before_adds a (b - a))

pub record ExclusionRoom (least n : ℕ) : Type 0 where
  pub up : (a b : ℕ) → b < most_principals → a < b → least ≤ pair_key a b → n + (a + 1) ≤ before a + b

pub exclusion_none : (n : ℕ) → n ≡ 0 → ExclusionRoom 0 n
exclusion_none n e = record { up = λ a b l h k. omega arith }

module _ {least n : ℕ} (u : ExclusionRoom least n) (things a b : ℕ) (few : things ≤ most_principals)
    (e : first (causes false (not (ltb a b && ltb b things)) (ltb (pair_key a b) least)) ≡ 0) where
  rises : a < b
  rises =
      ltb-true a b (and_cases (ltb a b) _
      (not-false (ltb a b && ltb b things) (passed false (not (ltb a b && ltb b things)) (ltb (pair_key a b) least) e).1)).0

  below : b < most_principals
  below =
      let l = ltb-true b things (and_cases (ltb a b) _
      (not-false (ltb a b && ltb b things) (passed false (not (ltb a b && ltb b things)) (ltb (pair_key a b) least) e).1)).1 in
      omega arith

  follows : n + (a + 1) ≤ before a + b
  follows =
      u.up a b below rises (ltb-false (pair_key a b) least (passed false (not (ltb a b && ltb b things)) (ltb (pair_key a b) least) e).2)

  -- the pairs with a for their lower come before those with a higher one
  next_lower : (x : ℕ) → a < x → n + 1 ≤ before x
  next_lower x l =
      let r : before (suc a) ≤ before x = before_rises (suc a) x (omega arith) in
      let q = follows in
      let k = below in
      let h = rises in
      omega arith

  pub exclusion_room : n < most_exclusions
  exclusion_room = let r = next_lower others (let k = below in let h = rises in omega arith) in omega arith

  pub exclusion_more : {m after : ℕ} → after ≡ pair_key a b + 1 → m ≡ n + 1 → ExclusionRoom after m
  exclusion_more {m} {after} g f = record { up = λ x y ly lx z. go x y ly lx z (dec_lt a x) }
    where
      go : (x y : ℕ) → y < most_principals → x < y → after ≤ pair_key x y → Dec (a < x) → m + (x + 1) ≤ before x + y
      go x y ly lx z (yes l) = let r = next_lower x l in omega arith
      go x y ly lx z (no h) =
          let k = below in
          let q = follows in
          let same : x ≡ a = omega arith in
          subst (λ (w : ℕ). m + (w + 1) ≤ before w + y) (sym same) (omega arith)

-- ---- from the lines of a table

row_passes : (k : Kind) (r : Record) (n : ℕ) → rows_load r k (suc n) ≡ true → (rows_load r k n ≡ true) × (row_refusal k n r (row k n r) ≡ 0)
row_passes k r n e =
    let p = and_cases (rows_load r k n) _ (sym (every_more (λ i. eqb (row_refusal k i r (row k i r)) 0) n (λ i. i)) ∙ e) in
    (p.0, eqb-true (row_refusal k n r (row k n r)) 0 p.1)

-- what holds before the first line, and behind one more that passes, holds behind all of them
by_lines : (k : Kind) (r : Record) (P : ℕ → ℕ → Type 0) → P 0 0
    → ((n : ℕ) → P (minimum_key k n r) n → row_refusal k n r (row k n r) ≡ 0 → P (key k (row k n r) + 1) (suc n))
    → (n : ℕ) → rows_load r k n ≡ true → P (minimum_key k n r) n
by_lines k r P none more zero e = none
by_lines k r P none more (suc n) e = let p = row_passes k r n e in more n (by_lines k r P none more n p.0) p.1

module _ (r : Record) where
  user_rows : (n : ℕ) → rows_load r user n ≡ true → UserRoom (minimum_key user n r) n
  unfolding row_refusal row_causes in_range
  user_rows =
      by_lines user r UserRoom (user_none 0 refl)
      (λ n u p. user_more u r.objects (at r.user_objects n) p refl (sym (add-one n)))

  hierarchy_rows : r.demarcation_count ≤ most_principals → (n : ℕ) → rows_load r hierarchy n ≡ true → PairRoom (minimum_key hierarchy n r) n
  unfolding row_refusal row_causes in_range
  hierarchy_rows few =
      by_lines hierarchy r PairRoom (pair_none 0 refl)
      (λ n u p. pair_more u r.demarcation_count (at r.inferiors n) (at r.superiors n) few p refl (sym (add-one n)))

  prerequisite_rows : r.principal_count ≤ most_principals → (n : ℕ) → rows_load r prerequisite n ≡ true
      → PairRoom (minimum_key prerequisite n r) n
  unfolding row_refusal row_causes in_range
  prerequisite_rows few =
      by_lines prerequisite r PairRoom (pair_none 0 refl)
      (λ n u p. pair_more u r.principal_count (at r.prerequisites n) (at r.dependents n) few p refl (sym (add-one n)))

  exclusion_rows : r.principal_count ≤ most_principals → (n : ℕ) → rows_load r exclusion n ≡ true
      → ExclusionRoom (minimum_key exclusion n r) n
  unfolding row_refusal row_causes in_range
  exclusion_rows few =
      by_lines exclusion r ExclusionRoom (exclusion_none 0 refl)
      (λ n u p. exclusion_more u r.principal_count (at r.exclusion_lows n) (at r.exclusion_highs n) few p refl
      (sym (add-one n)))

-- THE LAW: where the tables load, a line that passes its check has room
pub room_left : (k : Kind) (r : Record) (v : List ℕ) → 1 < code k → code k < 0xFF → ((j : Kind) → table_loads r j ≡ true)
    → row_refusal k (count k r) r v ≡ 0 → count k r < room k
unfolding row_refusal row_causes in_range
room_left head r v l h loads e = absurd (omega arith)
room_left user r v l h loads e =
    user_room (user_rows r r.user_count (table_rows r user (loads user))) r.objects (at v 0) e (head_range r (loads head)).1
room_left edge r v l h loads e = row_limit edge r.edge_count r v refl e
room_left formula r v l h loads e = row_limit formula r.formula_count r v refl e
room_left demarcation r v l h loads e = row_limit demarcation r.demarcation_count r v refl e
room_left hierarchy r v l h loads e =
    let few = table_few r demarcation (loads demarcation) in
    pair_room (hierarchy_rows r few r.hierarchy_count (table_rows r hierarchy (loads hierarchy))) r.demarcation_count (at v 0)
    (at v 1) few e
room_left principal r v l h loads e = row_limit principal r.principal_count r v refl e
room_left exclusion r v l h loads e =
    let few = table_few r principal (loads principal) in
    exclusion_room (exclusion_rows r few r.exclusion_count (table_rows r exclusion (loads exclusion))) r.principal_count (at v 0)
    (at v 1) few e
room_left prerequisite r v l h loads e =
    let few = table_few r principal (loads principal) in
    pair_room (prerequisite_rows r few r.prerequisite_count (table_rows r prerequisite (loads prerequisite))) r.principal_count
    (at v 0) (at v 1) few e
room_left method r v l h loads e = row_limit method r.method_count r v refl e
room_left end r v l h loads e = absurd (omega arith)
