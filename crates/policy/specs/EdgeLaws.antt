-- Laws of edges that rise, each in range: what a loadable record's table holds, and what it holds with an edge more or one less.
use Prim.Native.Nat.{ℕ, zero, suc, ◌+◌, ◌≤◌, ◌<◌}
use Rattle.std.specs.Prelude.{◌≡◌, Bool, true, false, not, cond, List, [], ◌∷◌, ◌++◌, length, ltb, leb}
use Rattle.std.proofs.Math.Path.{refl}
use Rattle.std.proofs.Common.{sym, ◌∙◌, ap, arith, le_trans}
use Rattle.std.proofs.lemmas.Bool.{false≢true}
use Rattle.std.proofs.Math.Dec.{eqb}
use borrow.Author.Tests.{ltb-true, ltb-false, leb-true, eqb-true, le-ltb, lt-leb, eq-eqb}
use Rattle.common.specs.Limits.{highest_label, most_edges, most_objects}
use Rattle.common.specs.Lists.{table, same}
use Rattle.common.specs.ListLaws.{every_more}
use Rattle.common.specs.BoolLaws.{and_cases, and_both, or_none, or_right}
use Rattle.common.specs.Causes.{first}
use Rattle.policy.specs.declared.Record.{Record}
use Rattle.policy.specs.Table.{edge, row, rows}
use Rattle.rows.specs.Checks.{edge_in_range, edge_key, causes}
use Rattle.policy.specs.Rows.{key, minimum_key, in_range, row_causes, row_refusal}
use Rattle.policy.specs.Loadable.{rows_load, loadable}
use Rattle.policy.specs.LoadableLaws.{table_rows, loadable_table}
use Rattle.policy.specs.Edits.{edge_in, inserted, without}

-- edges in range of n objects, whose keys rise and are at least `least`
pub data Rising (n : ℕ) : ℕ → List (List ℕ) → Type 0 where
  none : {least : ℕ} → Rising n least []
  more : {least l x y : ℕ} {es : List (List ℕ)} → least ≤ edge_key l x y → edge_in_range n l x y ≡ true → Rising n (edge_key l x y + 1) es
      → Rising n least ((l ∷ x ∷ y ∷ []) ∷ es)

pub rising_from : {n a b : ℕ} {es : List (List ℕ)} → Rising n a es → b ≤ a → Rising n b es
rising_from none h = none
rising_from (more l r t) h = more (le_trans h l) r t

-- ---- keys

pub in_range_parts : (n l x y : ℕ) → edge_in_range n l x y ≡ true → (l ≤ highest_label) × (x < n) × (y < n)
in_range_parts n l x y e =
    let p = and_cases (leb l highest_label) _ e in
    let q = and_cases (ltb x n) _ p.1 in
    (leb-true l highest_label p.0, ltb-true x n q.0, ltb-true y n q.1)

-- edges with the same key are the same
pub key_same : (n l x y l₂ x₂ y₂ : ℕ) → n ≤ most_objects → edge_in_range n l x y ≡ true → edge_in_range n l₂ x₂ y₂ ≡ true
    → edge_key l x y ≡ edge_key l₂ x₂ y₂ → same (l ∷ x ∷ y ∷ []) (l₂ ∷ x₂ ∷ y₂ ∷ []) ≡ true
key_same n l x y l₂ x₂ y₂ s e f g =
    let p = in_range_parts n l x y e in
    let q = in_range_parts n l₂ x₂ y₂ f in
    let a : l ≡ l₂ = omega arith in
    let b : x ≡ x₂ = omega arith in
    let c : y ≡ y₂ = omega arith in
    rw (eq-eqb l l₂ a, eq-eqb x x₂ b, eq-eqb y y₂ c)

-- edges with different keys differ
pub key_other : (l x y l₂ x₂ y₂ : ℕ) → (edge_key l x y ≡ edge_key l₂ x₂ y₂ → ⊥) → same (l ∷ x ∷ y ∷ []) (l₂ ∷ x₂ ∷ y₂ ∷ []) ≡ false
key_other l x y l₂ x₂ y₂ d = go (same (l ∷ x ∷ y ∷ []) (l₂ ∷ x₂ ∷ y₂ ∷ [])) refl
  where
    go : (b : Bool) → same (l ∷ x ∷ y ∷ []) (l₂ ∷ x₂ ∷ y₂ ∷ []) ≡ b → b ≡ false
    go true e =
        let p = and_cases (eqb l l₂) _ e in
        let q = and_cases (eqb x x₂) _ p.1 in
        let s = and_cases (eqb y y₂) _ q.1 in
        absurd (d (λ j. edge_key (eqb-true l l₂ p.0 j) (eqb-true x x₂ q.0 j) (eqb-true y y₂ s.0 j)))
    go false e = refl

-- ---- one edge more at the end

-- the least key that may follow the edges
abbrev after : ℕ → List (List ℕ) → ℕ
after least [] = least
after least (e ∷ es) = after (key edge e + 1) es

after_end_lem : (least : ℕ) (es : List (List ℕ)) (e : List ℕ) → after least (es ++ (e ∷ [])) ≡ key edge e + 1
after_end_lem least [] e = refl
after_end_lem least (f ∷ es) e = after_end_lem (key edge f + 1) es e

module _ (n l x y : ℕ) where
  rising_end : {least : ℕ} {es : List (List ℕ)} → Rising n least es → after least es ≤ edge_key l x y → edge_in_range n l x y ≡ true
      → Rising n least (es ++ ((l ∷ x ∷ y ∷ []) ∷ []))
  rising_end none h r = more h r none
  rising_end (more k s t) h r = more k s (rising_end t h r)

  rising_parts : {least : ℕ} (es : List (List ℕ)) → Rising n least (es ++ ((l ∷ x ∷ y ∷ []) ∷ []))
      → Rising n least es × (after least es ≤ edge_key l x y) × (edge_in_range n l x y ≡ true)
  rising_parts [] (more h r none) = (none, h, r)
  rising_parts {least = least} (_ ∷ es) (more {l = l'} {x = x'} {y = y'} k s t) =
      let p = rising_parts {least = edge_key l' x' y' + 1} es t in (more k s p.0, p.1, p.2)

-- ---- the edges of a table that loads

no_cause : (a b c : Bool) → eqb (first (causes a (not b) c)) 0 ≡ true → (a ≡ false) × (b ≡ true) × (c ≡ false)
no_cause true b c e = absurd (false≢true e)
no_cause false false c e = absurd (false≢true e)
no_cause false true true e = absurd (false≢true e)
no_cause false true false e = (refl, refl, refl)

module _ (r : Record) where
  abbrev edges : ℕ → List (List ℕ)
  edges n = table n (λ i. row edge i r)

  after_edges : (n : ℕ) → after 0 (edges n) ≡ minimum_key edge n r
  after_edges zero = refl
  after_edges (suc n) = after_end_lem 0 (edges n) (row edge n r)

  pub edges_rising : (n : ℕ) → rows_load r edge n ≡ true → Rising r.objects 0 (edges n)
  unfolding row_refusal row_causes in_range
  edges_rising zero e = none
  edges_rising (suc n) e =
      let h = and_cases _ _ (sym (every_more (λ i. eqb (row_refusal edge i r (row edge i r)) 0) n (λ i. i)) ∙ e) in
      let p = no_cause (leb most_edges n) _ _ h.1 in
      rising_end r.objects _ _ _ (edges_rising n h.0)
      (omega (arith, after_edges n, ltb-false (key edge (row edge n r)) (minimum_key edge n r) p.2)) p.1

  pub rising_edges : (n : ℕ) → n ≤ most_edges → Rising r.objects 0 (edges n) → rows_load r edge n ≡ true
  unfolding row_refusal row_causes in_range
  rising_edges zero s t = refl
  rising_edges (suc n) s t =
      let p = rising_parts r.objects _ _ _ (edges n) t in
      every_more (λ i. eqb (row_refusal edge i r (row edge i r)) 0) n (λ i. i)
      ∙ and_both _ _ (rising_edges n (omega arith) p.0)
      (rw
      (p.2, lt-leb most_edges n (omega arith), le-ltb (key edge (row edge n r)) (minimum_key edge n r) (omega (arith, after_edges n, p.1))))

  pub loadable_rising : loadable r ≡ true → Rising r.objects 0 (rows edge r)
  loadable_rising e = edges_rising r.edge_count (table_rows r edge (loadable_table r e edge))

-- ---- with an edge more, and with one less

module _ (e : List ℕ) where
  pub inserted_length : (es : List (List ℕ)) → length (inserted e es) ≡ suc (length es)
  inserted_length [] = refl
  inserted_length (f ∷ es) = go (ltb (key edge e) (key edge f)) (inserted_length es)
    where
      go : (b : Bool) → length (inserted e es) ≡ suc (length es) → length (cond b (e ∷ f ∷ es) (f ∷ inserted e es)) ≡ suc (suc (length es))
      go true h = refl
      go false h = ap suc h

  pub without_length : (es : List (List ℕ)) → length (without e es) ≤ length es
  without_length [] = omega arith
  without_length (f ∷ es) = go (same e f) (without_length es)
    where
      go : (b : Bool) → length (without e es) ≤ length es → length (cond (not b) (f ∷ without e es) (without e es)) ≤ suc (length es)
      go true h = omega arith
      go false h = omega arith

  pub without_none : (es : List (List ℕ)) → edge_in es e ≡ false → without e es ≡ es
  without_none [] h = refl
  without_none (f ∷ es) h =
      let p = or_none (same e f) _ h in
      rw p.0 (ap (λ (l : List (List ℕ)). f ∷ l) (without_none es p.1))

  module _ (own : same e e ≡ true) where
    pub inserted_in : (es : List (List ℕ)) → edge_in (inserted e es) e ≡ true
    inserted_in [] = rw own
    inserted_in (f ∷ es) = go (ltb (key edge e) (key edge f)) (inserted_in es)
      where
        go : (b : Bool) → edge_in (inserted e es) e ≡ true → edge_in (cond b (e ∷ f ∷ es) (f ∷ inserted e es)) e ≡ true
        go true h = rw own
        go false h = or_right (same e f) _ h

    pub without_inserted : (es : List (List ℕ)) → edge_in es e ≡ false → without e (inserted e es) ≡ es
    without_inserted [] h = rw own
    without_inserted (f ∷ es) h =
        let p = or_none (same e f) _ h in
        go (ltb (key edge e) (key edge f)) (without_none (f ∷ es) h)
        (rw p.0 (ap (λ (l : List (List ℕ)). f ∷ l) (without_inserted es p.1)))
      where
        go : (b : Bool) → without e (f ∷ es) ≡ f ∷ es → without e (f ∷ inserted e es) ≡ f ∷ es
            → without e (cond b (e ∷ f ∷ es) (f ∷ inserted e es)) ≡ f ∷ es
        go true p q = rw own p
        go false p q = q

module _ {n : ℕ} (l x y : ℕ) (few : n ≤ most_objects) (fits : edge_in_range n l x y ≡ true) where
  pub key_differs : (l₂ x₂ y₂ : ℕ) → edge_in_range n l₂ x₂ y₂ ≡ true → same (l ∷ x ∷ y ∷ []) (l₂ ∷ x₂ ∷ y₂ ∷ []) ≡ false
      → edge_key l x y ≡ edge_key l₂ x₂ y₂ → ⊥
  key_differs l₂ x₂ y₂ s d p = false≢true (sym d ∙ key_same n l x y l₂ x₂ y₂ few fits s p)

  pub inserted_rising : {least : ℕ} {es : List (List ℕ)} → Rising n least es → least ≤ edge_key l x y → edge_in es (l ∷ x ∷ y ∷ []) ≡ false
      → Rising n least (inserted (l ∷ x ∷ y ∷ []) es)
  inserted_rising none h a = more h fits none
  inserted_rising {least} (more {l = l₂} {x = x₂} {y = y₂} {es = es} k s t) h a =
      let p = or_none (same (l ∷ x ∷ y ∷ []) (l₂ ∷ x₂ ∷ y₂ ∷ [])) _ a in
      go (ltb (edge_key l x y) (edge_key l₂ x₂ y₂)) refl p.0 (λ b. inserted_rising t b p.1)
    where
      go : (b : Bool) → ltb (edge_key l x y) (edge_key l₂ x₂ y₂) ≡ b → same (l ∷ x ∷ y ∷ []) (l₂ ∷ x₂ ∷ y₂ ∷ []) ≡ false
          → (edge_key l₂ x₂ y₂ + 1 ≤ edge_key l x y → Rising n (edge_key l₂ x₂ y₂ + 1) (inserted (l ∷ x ∷ y ∷ []) es))
          → Rising n least (cond b ((l ∷ x ∷ y ∷ []) ∷ (l₂ ∷ x₂ ∷ y₂ ∷ []) ∷ es) ((l₂ ∷ x₂ ∷ y₂ ∷ []) ∷ inserted (l ∷ x ∷ y ∷ []) es))
      go true e d rest =
          let b : edge_key l x y + 1 ≤ edge_key l₂ x₂ y₂ = omega (arith, ltb-true (edge_key l x y) (edge_key l₂ x₂ y₂) e) in
          more h fits (more b s t)
      go false e d rest = more k s (rest (omega (arith, key_differs l₂ x₂ y₂ s d, ltb-false (edge_key l x y) (edge_key l₂ x₂ y₂) e)))

pub without_rising : (e : List ℕ) {n least : ℕ} {es : List (List ℕ)} → Rising n least es → Rising n least (without e es)
without_rising e none = none
without_rising e {n} {least} (more {l = l} {x = x} {y = y} {es = es} k s t) = go (same e (l ∷ x ∷ y ∷ [])) (without_rising e t)
  where
    go : (b : Bool) → Rising n (edge_key l x y + 1) (without e es)
        → Rising n least (cond (not b) ((l ∷ x ∷ y ∷ []) ∷ without e es) (without e es))
    go true t = rising_from t (omega arith)
    go false t = more k s t
