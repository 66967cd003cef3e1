-- A line is refused as not rising exactly when it is not above the line before it, as an object, a pair or a triple; so the lines of a
-- record that some bundle loads to rise.
use Rattle.std.specs.Prelude.{ℕ, suc, ◌+◌, ◌≤◌, ◌<◌, ◌≡◌, refl, ◌↔◌, Bool, not, ◌&&◌, List, [], ◌∷◌}
use Rattle.std.proofs.Common.{sym, ◌∙◌, subst₂}
use Rattle.std.proofs.Math.Path.{ap, subst}
use Rattle.std.proofs.Math.Bool.{true, false}
use native.Mathlib.Omega.{arith}
use Rattle.std.proofs.Math.Dec.{ltb, leb, eqb}
use borrow.Author.Tests.{ltb-true, ltb-false, leb-true, eqb-true}
use Rattle.common.specs.BoolLaws.{and_cases}
use Rattle.common.specs.Limits.{highest_label, most_related}
use Rattle.common.specs.Lists.{at}
use Rattle.common.specs.ListLaws.{length_table}
use Rattle.common.specs.QuantifierLaws.{every_table}
use Rattle.rows.specs.Checks.{pair_in_range, causes}
use Rattle.rows.specs.Rising.{Rises}
use Rattle.rows.specs.RisingLaws.{Octets, key_of, edge_key_lem, pair_key_lem, key_rises}
use Rattle.policy.specs.declared.Record.{Record}
use Rattle.policy.specs.Table.{Kind, head, user, edge, formula, demarcation, hierarchy, principal, exclusion, prerequisite, method}
use Rattle.policy.specs.Table.{end, count, room, row}
use Rattle.policy.specs.Rows.{limited, in_range, rising, key, row_causes, row_refusal}
use Rattle.policy.specs.Loadable.{table_loads}
use Rattle.policy.specs.LoadableLaws.{head_range, table_few, table_rows}
use Rattle.policy.specs.NamedLaws.{line_in_range}
use Rattle.policy.specs.RowLaws.{passed}
use Rattle.policy.specs.Rising.{rising_by, order_of}

-- the kinds that rise are those that rise by some number
pub rising_some : (k : Kind) → rising k ≡ ltb 0 (rising_by k)
rising_some head = refl
rising_some user = refl
rising_some edge = refl
rising_some formula = refl
rising_some demarcation = refl
rising_some hierarchy = refl
rising_some principal = refl
rising_some exclusion = refl
rising_some prerequisite = refl
rising_some method = refl
rising_some end = refl

-- the key is that of the numbers that a kind rises by
key_is : (k : Kind) (v : List ℕ) → key k v ≡ key_of (order_of k v)
key_is head v = refl
key_is user v = omega arith
key_is edge v = edge_key_lem (at v 0) (at v 1) (at v 2)
key_is formula v = refl
key_is demarcation v = refl
key_is hierarchy v = pair_key_lem (at v 0) (at v 1)
key_is principal v = refl
key_is exclusion v = pair_key_lem (at v 0) (at v 1)
key_is prerequisite v = pair_key_lem (at v 0) (at v 1)
key_is method v = refl
key_is end v = refl

module _ (k : Kind) (v w : List ℕ) (o : Octets (order_of k v)) (p : Octets (order_of k w)) where
  -- the key's order is that of the numbers
  pub keys_rise : key k v < key k w ↔ Rises (order_of k v) (order_of k w)
  keys_rise =
      subst₂ (λ (x y : ℕ). x < y ↔ Rises (order_of k v) (order_of k w)) (sym (key_is k v)) (sym (key_is k w))
      (key_rises (order_of k v) (order_of k w) (length_table (rising_by k) (at v) ∙ sym (length_table (rising_by k) (at w))) o p)

-- a line v at row i + 1 of kind k's table, its numbers and those of the line before it octets
module _ (k : Kind) (i : ℕ) (r : Record) (v : List ℕ) (o : Octets (order_of k (row k i r))) (p : Octets (order_of k v)) where
  abbrev falls : Bool
  falls = ltb (key k v) (key k (row k i r) + 1)

  falls_not : falls ≡ true ↔ (Rises (order_of k (row k i r)) (order_of k v) → ⊥)
  falls_not =
      let e = keys_rise k (row k i r) v o p in (
        λ f h. let a = ltb-true (key k v) _ f in let b = e.1 h in omega arith,
        λ h. not-false falls (λ f. h (e.0 (let a = ltb-false (key k v) _ f in omega arith))),
      )
    where
      not-false : (b : Bool) → (b ≡ false → ⊥) → b ≡ true
      not-false true h = refl
      not-false false h = absurd (h refl)

  -- of its causes the third, not rising (7), is there exactly when it is not above that line
  pub not_rising_lem : rising k ≡ true → (over out third : Bool) → row_causes k (suc i) r v ≡ causes over out third
      → (third ≡ true ↔ (Rises (order_of k (row k i r)) (order_of k v) → ⊥))
  unfolding row_causes
  not_rising_lem s over out third e =
      let same : (rising k && falls) ≡ third = cc in
      subst (λ (b : Bool). b ≡ true ↔ (Rises (order_of k (row k i r)) (order_of k v) → ⊥))
      (ap (λ (b : Bool). b && falls) (sym s) ∙ same) falls_not

-- ---- of a record whose tables load

-- two of so many things as may be related
octets_pair : (n a b : ℕ) → n ≤ most_related → pair_in_range n a b ≡ true → Octets (a ∷ b ∷ [])
octets_pair n a b few e =
    let (x, f) = and_cases (ltb a n) _ e in
    let y = (and_cases (ltb b n) _ f).0 in
    let l = ltb-true a n x in
    let m = ltb-true b n y in
    (omega arith, (omega arith, tt))

module _ (r : Record) (loads : (j : Kind) → table_loads r j ≡ true) where
  -- the numbers of a line in range are octets: objects are fewer than 256, and so are demarcations and principals
  in_octets_lem : (k : Kind) (i : ℕ) (v : List ℕ) → in_range k i r v ≡ true → Octets (order_of k v)
  unfolding in_range
  in_octets_lem head i v e = tt
  in_octets_lem user i v e =
      let n = (head_range r (loads head)).1 in
      let a = ltb-true (at v 0) r.objects e in
      (omega arith, tt)
  in_octets_lem edge i v e =
      let n = (head_range r (loads head)).1 in
      let (l, f) = and_cases (leb (at v 0) highest_label) _ e in
      let (x, y) = and_cases (ltb (at v 1) r.objects) _ f in
      let a = leb-true (at v 0) highest_label l in
      let b = ltb-true (at v 1) r.objects x in
      let c = ltb-true (at v 2) r.objects y in
      (omega arith, (omega arith, (omega arith, tt)))
  in_octets_lem formula i v e = tt
  in_octets_lem demarcation i v e = tt
  in_octets_lem hierarchy i v e = octets_pair _ (at v 0) (at v 1) (table_few r demarcation (loads demarcation)) e
  in_octets_lem principal i v e = tt
  in_octets_lem exclusion i v e =
      let n = table_few r principal (loads principal) in
      let (x, y) = and_cases (ltb (at v 0) (at v 1)) _ e in
      let a = ltb-true (at v 0) (at v 1) x in
      let b = ltb-true (at v 1) r.principal_count y in
      (omega arith, (omega arith, tt))
  in_octets_lem prerequisite i v e = octets_pair _ (at v 0) (at v 1) (table_few r principal (loads principal)) e
  in_octets_lem method i v e = tt
  in_octets_lem end i v e = tt

  -- each line of a kind that rises is above the line before it
  pub lines_rise : (k : Kind) → rising k ≡ true → (i : ℕ) → suc i < count k r → Rises (order_of k (row k i r)) (order_of k (row k (suc i) r))
  unfolding row_refusal row_causes
  lines_rise k s i l =
      let v = row k (suc i) r in
      let falls = ltb (key k v) (key k (row k i r) + 1) in
      let taken = every_table (λ j. eqb (row_refusal k j r (row k j r)) 0) (λ j. j) (count k r) (table_rows r k (loads k)) (suc i) l in
      let f = passed (limited k && leb (room k) (suc i)) (not (in_range k (suc i) r v)) (rising k && falls) (eqb-true _ 0 taken) in
      let g : falls ≡ false = ap (λ (b : Bool). b && falls) (sym s) ∙ f.2 in
      let in_range_lem = line_in_range r k (loads k) in
      (keys_rise k (row k i r) v (in_octets_lem k i (row k i r) (in_range_lem i (omega arith))) (in_octets_lem k (suc i) v (in_range_lem (suc i) l))).0
      (let h = ltb-false (key k v) _ g in omega arith)
