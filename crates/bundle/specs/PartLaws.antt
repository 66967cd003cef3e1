-- The record after some lines of a bundle: the kinds before a kind are whole, those after it have no lines yet.
use Rattle.std.specs.Prelude.{ℕ, suc, ◌+◌, ◌≤◌, ◌<◌, ◌≡◌, refl, true, false, List, [], map, replicate, get_or}
use Rattle.std.proofs.Common.{sym, ◌∙◌, ap, subst, arith, add-one, zero-add, ne_eqb}
use Rattle.std.proofs.Math.Decide.{dec_lt}
use Rattle.common.specs.Lists.{at, table}
use Rattle.edge_index.specs.declared.EdgeIndex.{EdgeIndex}
use Rattle.policy.specs.declared.Record.{Record}
use Rattle.policy.specs.declared.Memo.{Memo}
use Rattle.policy.specs.Table.{Kind, head, user, edge, formula, demarcation, hierarchy, principal, exclusion, prerequisite, method, end}
use Rattle.policy.specs.Table.{code, is_kind, count, columns, room, row, emptied, blank, appended, index_of, with_memo, with_index, indexed}
use Rattle.policy.specs.TableLaws.{ColumnLengths, same_kind, written, count_other, columns_other, count_same, columns_same}
use Rattle.policy.specs.GrowthLaws.{blank_empty}
use Rattle.policy.specs.Loadable.{loadable}
use Rattle.policy.specs.LoadableLaws.{loadable_table, own_index, table_zero}
use Rattle.bundle.specs.CutLaws.{cut, columns_none, columns_more, columns_at, columns_all}
use Rattle.bundle.specs.CheckLaws.{Agree}

-- kind j's table in p: the first n of its lines in r
pub record FirstLines (r : Record) (j : Kind) (n : ℕ) (p : Record) : Type 0 where
  pub counted : count j p ≡ n
  pub cuts : columns j p ≡ map (cut n) (columns j r)

-- the kinds whose octet is below c are whole, the others have no lines
pub record Whole (r : Record) (c : ℕ) (p : Record) : Type 0 where
  pub memo : p.memo ≡ emptied 0 0
  pub before : (j : Kind) → code j < c → FirstLines r j (count j r) p
  pub after : (j : Kind) → c ≤ code j → FirstLines r j 0 p

-- the kinds before k are whole, k has its first i lines, the kinds after it have no lines
pub record Part (r : Record) (k : Kind) (i : ℕ) (p : Record) : Type 0 where
  pub memo : p.memo ≡ emptied 0 0
  pub before : (j : Kind) → code j < code k → FirstLines r j (count j r) p
  pub here : FirstLines r k i p
  pub after : (j : Kind) → code k < code j → FirstLines r j 0 p

pub objects_same : {r p : Record} → FirstLines r head 1 p → p.objects ≡ r.objects
objects_same f = ap (λ (cs : List (List ℕ)). at (get_or cs 1 []) 0) f.cuts

first_other : {r : Record} {n : ℕ} {p : Record} (k j : Kind) (v : List ℕ) → (code k ≡ code j → ⊥) → FirstLines r j n p
    → FirstLines r j n (appended k p v)
first_other {p = p} k j v e f =
    let o : is_kind k j ≡ false = ne_eqb (code k) (code j) e in
    record { counted = count_other k j p v o ∙ f.counted; cuts = columns_other k j p v o ∙ f.cuts }

first_more : {r : Record} {i : ℕ} {p : Record} (k : Kind) → code head < code k → code k < code end → ColumnLengths r → i < room k → FirstLines r k i p
    → FirstLines r k (suc i) (appended k p (row k i r))
first_more {r} {i} {p} k l h s few f =
    let v = row k i r in
    record {
      counted = count_same k p v l h ∙ ap (λ (n : ℕ). n + 1) f.counted ∙ add-one i;
      cuts =
          columns_same k p v l h ∙ (λ t. written (f.cuts t) (f.counted t) v 0)
          ∙ columns_more i (room k) few (columns k r) (s.long k) v 0 (λ j. ap (at v) (zero-add j));
    }

-- ---- a line more, in the middle of a kind

module _ {r : Record} {k : Kind} {i : ℕ} {p : Record} (part : Part r k i p) (low : code head < code k) where
  -- the next line is held to the same as in the whole record
  pub part_agrees : Agree k i p r
  part_agrees =
      record {
        objects = objects_same (part.before head low);
        counts = λ j l. (part.before j l).counted;
        above = λ m l. ap (map (λ c. at c m)) part.here.cuts ∙ columns_at i m l (columns k r);
      }

  pub part_more : code k < code end → ColumnLengths r → i < room k → Part r k (suc i) (appended k p (row k i r))
  unfolding appended
  part_more high s few =
      record {
        memo = part.memo;
        before = λ j l. first_other k j (row k i r) (λ e. omega arith) (part.before j l);
        here = first_more k low high s few part.here;
        after = λ j l. first_other k j (row k i r) (λ e. omega arith) (part.after j l);
      }

-- ---- from kind to kind

pub part_start : {r p : Record} {c : ℕ} (k : Kind) → code k ≡ c → Whole r c p → Part r k 0 p
part_start k e w =
    record {
      memo = w.memo;
      before = λ j l. w.before j (omega arith);
      here = w.after k (omega arith);
      after = λ j l. w.after j (omega arith);
    }

first_all : {r p : Record} {k : Kind} → loadable r ≡ true → FirstLines r k (count k r) p → columns k p ≡ columns k r
first_all {r} {p} {k} loads f = f.cuts ∙ columns_all (count k r) (columns k r) (table_zero r k (loadable_table r loads k))

pub part_end : {r p : Record} {c : ℕ} (k : Kind) → code k ≡ c → Part r k (count k r) p → Whole r (c + 1) p
part_end {r} {p} {c} k e part =
    record { memo = part.memo; before = λ j l. go j l (dec_lt (code j) (code k)); after = λ j l. part.after j (omega arith) }
  where
    go : (j : Kind) → code j < c + 1 → Dec (code j < code k) → FirstLines r j (count j r) p
    go j l (yes h) = part.before j h
    go j l (no h) = subst (λ (i : Kind). FirstLines r i (count i r) p) (same_kind k j (omega arith)) part.here

-- ---- after the head

blank_columns : (r : Record) (j : Kind) → code head < code j → columns j blank ≡ map (λ c. replicate (room j) 0) (columns j r)
unfolding blank
blank_columns r head l = absurd (omega arith)
blank_columns r user l = refl
blank_columns r edge l = refl
blank_columns r formula l = refl
blank_columns r demarcation l = refl
blank_columns r hierarchy l = refl
blank_columns r principal l = refl
blank_columns r exclusion l = refl
blank_columns r prerequisite l = refl
blank_columns r method l = refl
blank_columns r end l = refl

first_blank : (r : Record) → ColumnLengths r → (j : Kind) → code head < code j → FirstLines r j 0 blank
first_blank r s j l =
    record { counted = blank_empty j l; cuts = blank_columns r j l ∙ columns_none (room j) (columns j r) (s.long j) }

pub whole_head : (r : Record) → ColumnLengths r → Whole r 2 (appended head blank (row head 0 r))
unfolding appended blank
whole_head r s =
    record {
      memo = refl;
      before = each;
      after = λ j l. first_other head j (row head 0 r) (λ e. omega arith) (first_blank r s j l);
    }
  where
    each : (j : Kind) → code j < 2 → FirstLines r j (count j r) (appended head blank (row head 0 r))
    each head l = record { counted = refl; cuts = refl }
    each user l = absurd (omega arith)
    each edge l = absurd (omega arith)
    each formula l = absurd (omega arith)
    each demarcation l = absurd (omega arith)
    each hierarchy l = absurd (omega arith)
    each principal l = absurd (omega arith)
    each exclusion l = absurd (omega arith)
    each prerequisite l = absurd (omega arith)
    each method l = absurd (omega arith)
    each end l = absurd (omega arith)

-- ---- all kinds

-- kind k's table is the same in p and r
abbrev Same : Record → Record → Kind → Type 0
Same p r k = (count k p ≡ count k r) × (columns k p ≡ columns k r)

same_record_lem : (p r : Record) (m : Memo) {y : EdgeIndex} → p.objects ≡ r.objects → y ≡ r.index → p.memo ≡ m
    → ((k : Kind) → code k < 0x0B → Same p r k) → with_index p y ≡ with_memo r m
unfolding with_memo with_index
same_record_lem p r m o y e same =
    let u = same user (omega arith) in
    let g = same edge (omega arith) in
    let f = same formula (omega arith) in
    let d = same demarcation (omega arith) in
    let h = same hierarchy (omega arith) in
    let q = same principal (omega arith) in
    let x = same exclusion (omega arith) in
    let n = same prerequisite (omega arith) in
    let w = same method (omega arith) in
    λ t. record {
      objects = o t;
      user_count = u.0 t;
      user_objects = get_or (u.1 t) 0 [];
      user_roles = get_or (u.1 t) 1 [];
      edge_count = g.0 t;
      edge_labels = get_or (g.1 t) 0 [];
      edge_sources = get_or (g.1 t) 1 [];
      edge_targets = get_or (g.1 t) 2 [];
      formula_count = f.0 t;
      formula_ops = get_or (f.1 t) 0 [];
      formula_lefts = get_or (f.1 t) 1 [];
      formula_rights = get_or (f.1 t) 2 [];
      demarcation_count = d.0 t;
      demarcation_privileges = get_or (d.1 t) 0 [];
      hierarchy_count = h.0 t;
      inferiors = get_or (h.1 t) 0 [];
      superiors = get_or (h.1 t) 1 [];
      principal_count = q.0 t;
      principal_formulas = get_or (q.1 t) 0 [];
      principal_demarcations = get_or (q.1 t) 1 [];
      exclusion_count = x.0 t;
      exclusion_lows = get_or (x.1 t) 0 [];
      exclusion_highs = get_or (x.1 t) 1 [];
      prerequisite_count = n.0 t;
      prerequisites = get_or (n.1 t) 0 [];
      dependents = get_or (n.1 t) 1 [];
      method_count = w.0 t;
      method_forms = get_or (w.1 t) 0 [];
      method_privileges = get_or (w.1 t) 1 [];
      index = y t;
      memo = e t;
    }

-- once all kinds are whole and the index is built, only the memo is another: the edges are the same, and so is their index
pub whole_all : (r p : Record) → loadable r ≡ true → Whole r 0x0B p → indexed p ≡ with_memo r (emptied 0 0)
whole_all r p loads w =
    same_record_lem p r (emptied 0 0) (objects_same (w.before head (omega arith)))
    ((λ t. index_of (table (edges.counted t) (λ i. map (λ c. at c i) (first_all loads edges t)))) ∙ sym (own_index r loads)) w.memo
    (λ k l. ((w.before k l).counted, first_all loads (w.before k l)))
  where
    edges : FirstLines r edge (count edge r) p
    edges = w.before edge (omega arith)
