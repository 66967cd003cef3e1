-- An edit of a record that agrees the book: it is answered as the book answers it, and the record left agrees the book left.
use Rattle.std.specs.Prelude.{ℕ, suc, ◌+◌, ◌<◌, ◌≤◌, ◌≡◌, Bool, not, cond, ◌&&◌, ◌||◌, List, [], ◌∷◌, length, ltb, leb}
use Rattle.std.proofs.Math.Path.{refl, subst⁻¹}
use Rattle.std.proofs.Common.{sym, ◌∙◌, ap, arith}
use Rattle.std.proofs.Math.Bool.{true, false}
use Rattle.std.proofs.lemmas.Bool.{false≢true}
use Rattle.std.proofs.Math.Dec.{eqb}
use borrow.Author.Tests.{eq-eqb, ne_eqb}
use native.Mathlib.Decide.{ℕ_discrete}
use Rattle.common.specs.Limits.{most_edges}
use Rattle.common.specs.Lists.{same}
use Rattle.common.specs.ListLaws.{length_table, same_is}
use Rattle.common.specs.BoolLaws.{and_false}
use Rattle.common.specs.Causes.{cause, first}
use Rattle.common.specs.Refusals.{edge_out_of_range, edge_present, edge_absent, edges_full, not_loadable}
use Rattle.rows.specs.Checks.{edge_in_range, edge_key}
use Rattle.policy.specs.declared.Record.{Record}
use Rattle.policy.specs.declared.Memo.{Memo}
use Rattle.policy.specs.EditAnswers.{Edited}
use Rattle.policy.specs.Table.{edge, row, rows, emptied, changed}
use Rattle.policy.specs.Rows.{key}
use Rattle.policy.specs.Loadable.{loadable}
use Rattle.policy.specs.Edits as edits
use Rattle.policy.specs.Edits.{edge_in, inserted, without, edited, added, removed}
use Rattle.policy.specs.EdgeLaws.{Rising, key_other, loadable_rising, inserted_length, without_none}
use Rattle.policy.specs.EdgeLaws as rising
use Rattle.policy.specs.EditLaws.{adds, added_when, added_rows, added_loadable, removes, removed_when, removed_rows, removed_loadable}
use Rattle.memo.specs.WalkLaws.{MemoLengths}
use Rattle.access.specs.CorrectMemo.{CorrectMemo}
use Rattle.access.specs.CorrectMemoLaws.{emptied_correct}
use Rattle.history.specs.Book.{Book, holds_edge, add, remove, add_refusal, remove_refusal, book_after_call}
use Rattle.policy.specs.TableLaws.{ColumnLengths}
use Rattle.policy.specs.LoadableLaws.{table_few, loadable_table}
use Rattle.policy.specs.ColumnLengthLaws.{sized_changed}
use Rattle.history.proofs.Agrees.{Distinct, none, more, Agrees}

-- ---- edges with one more, and with one less

swap : (s t p q : Bool) → p ≡ (s || q) → (t || p) ≡ (s || (t || q))
swap true true p q e = refl
swap true false p q e = e
swap false true p q e = refl
swap false false p q e = e

kept : (t s p q : Bool) → (t ≡ true → s ≡ false) → p ≡ (not s && q) → (t || p) ≡ (not s && (t || q))
kept true true p q a e = absurd (false≢true (sym (a refl)))
kept true false p q a e = refl
kept false s p q a e = e

gone : (t s p q : Bool) → (t ≡ true → s ≡ true) → p ≡ (not s && q) → p ≡ (not s && (t || q))
gone true true p q a e = e
gone true false p q a e = absurd (false≢true (a refl))
gone false s p q a e = e

module _ (e : List ℕ) where
  inserted_holds : (d : List ℕ) (es : List (List ℕ)) → edge_in (inserted e es) d ≡ (same d e || edge_in es d)
  inserted_holds d [] = refl
  inserted_holds d (f ∷ es) = go (ltb (key edge e) (key edge f)) (inserted_holds d es)
    where
      go : (b : Bool) → edge_in (inserted e es) d ≡ (same d e || edge_in es d)
          → edge_in (cond b (e ∷ f ∷ es) (f ∷ inserted e es)) d ≡ (same d e || (same d f || edge_in es d))
      go true h = refl
      go false h = swap (same d e) (same d f) _ _ h

  pub without_holds : (d : List ℕ) (es : List (List ℕ)) → edge_in (without e es) d ≡ (not (same e d) && edge_in es d)
  without_holds d [] = sym (and_false (not (same e d)))
  without_holds d (f ∷ es) = go (same e f) refl (without_holds d es)
    where
      go : (b : Bool) → same e f ≡ b → edge_in (without e es) d ≡ (not (same e d) && edge_in es d)
          → edge_in (cond (not b) (f ∷ without e es) (without e es)) d ≡ (not (same e d) && (same d f || edge_in es d))
      go true u h = gone (same d f) (same e d) _ _ (λ t. ap (same e) (same_is d f t) ∙ u) h
      go false u h = kept (same d f) (same e d) _ _ (λ t. ap (same e) (same_is d f t) ∙ u) h

  without_once : {es : List (List ℕ)} → Distinct es → edge_in es e ≡ true → length (without e es) + 1 ≡ length es
  without_once none h = absurd (false≢true h)
  without_once (more {e = f} {book = es} a t) h = go (same e f) refl h (without_once t)
    where
      go : (b : Bool) → same e f ≡ b → (b || edge_in es e) ≡ true → (edge_in es e ≡ true → length (without e es) + 1 ≡ length es)
          → length (cond (not b) (f ∷ without e es) (without e es)) + 1 ≡ suc (length es)
      go true u h rest = let p = ap length (without_none e es (ap (edge_in es) (same_is e f u) ∙ a)) in omega arith
      go false u h rest = let p = rest h in omega arith

  without_distinct : {es : List (List ℕ)} → Distinct es → Distinct (without e es)
  without_distinct none = none
  without_distinct (more {e = f} {book = es} a t) = go (same e f) (without_distinct t)
    where
      go : (b : Bool) → Distinct (without e es) → Distinct (cond (not b) (f ∷ without e es) (without e es))
      go true t = t
      go false t = more (without_holds f es ∙ ap (λ (b : Bool). not (same e f) && b) a ∙ and_false (not (same e f))) t

-- ---- the edges of a loadable record

rising_absent : {n least : ℕ} (l x y : ℕ) {es : List (List ℕ)} → Rising n least es → edge_key l x y < least
    → edge_in es (l ∷ x ∷ y ∷ []) ≡ false
rising_absent l x y rising.none h = refl
rising_absent l x y (rising.more {l = l₂} {x = x₂} {y = y₂} k s t) h =
    rw (key_other l x y l₂ x₂ y₂ (λ q. let z : ⊥ = omega arith in z)) (rising_absent l x y t (omega arith))

rising_distinct : {n least : ℕ} {es : List (List ℕ)} → Rising n least es → Distinct es
rising_distinct rising.none = none
rising_distinct (rising.more {l = l} {x = x} {y = y} k s t) = more (rising_absent l x y t (omega arith)) (rising_distinct t)

pub distinct_rows : (r : Record) → loadable r ≡ true → Distinct (rows edge r)
distinct_rows r loads = rising_distinct (loadable_rising r loads)

-- ---- a record with other edges and an emptied memo

rest_changed : (r : Record) (es fs : List (List ℕ)) (m : Memo) → changed (changed r es m) fs m ≡ changed r fs m
unfolding changed
rest_changed r es fs m = refl

count_changed : (r : Record) (es : List (List ℕ)) (m : Memo) → (changed r es m).edge_count ≡ length es
unfolding changed
count_changed r es m = refl

memo_changed : (r : Record) (es : List (List ℕ)) (m : Memo) → (changed r es m).memo ≡ m
unfolding changed
memo_changed r es m = refl

objects_kept : (r b : Record) (m : Memo) → changed r [] m ≡ changed b [] m → r.objects ≡ b.objects
unfolding changed
objects_kept r b m e = ap (λ (q : Record). q.objects) e

pub emptied_lengths : MemoLengths (emptied 0 0)
unfolding emptied
emptied_lengths = record { knowns = refl; values = refl }

module _ (r : Record) (n : ℕ) (es : List (List ℕ)) (m : Memo) where
  edited_number : (edited r n es m).number ≡ n
  edited_number = elim (ℕ_discrete n 0) [ yes z ↦ rw (eq-eqb n 0 z) (sym z) | no z ↦ rw (ne_eqb n 0 z) refl ]

  edited_refused : eqb n 0 ≡ false → (edited r n es m).rules ≡ r
  edited_refused e =
      ap (λ (v : Bool). (cond {A = Edited} v (record { number = 0; rules = changed r es m }) (record { number = n; rules = r })).rules) e

module _ (b : Record) (book : Book) (r : Record) (h : Agrees b book r) where
  objects : r.objects ≡ b.objects
  objects = objects_kept r b (emptied 0 0) h.rest

  changed_agrees : (now : Book) (es : List (List ℕ)) (s : Record) → s ≡ changed r es (emptied 0 0) → loadable s ≡ true
      → rows edge s ≡ es → ((d : List ℕ) → edge_in es d ≡ holds_edge now d) → length es ≡ length now → Distinct now → Agrees b now s
  changed_agrees now es s is loads holds edges count once =
      let memo : s.memo ≡ emptied 0 0 = ap (λ (q : Record). q.memo) is ∙ memo_changed r es (emptied 0 0) in
      let few = table_few s edge (loadable_table s loads edge) in
      let counted : s.edge_count ≡ length es = ap (λ (q : Record). q.edge_count) is ∙ count_changed r es (emptied 0 0) in
      let small : length es ≤ most_edges = omega arith in
      record {
        loads = loads;
        edges = λ d. ap (λ (fs : List (List ℕ)). edge_in fs d) holds ∙ edges d;
        count = ap (λ (q : Record). q.edge_count) is ∙ count_changed r es (emptied 0 0) ∙ count;
        once = once;
        rest = ap (λ (q : Record). changed q [] (emptied 0 0)) is ∙ rest_changed r es [] (emptied 0 0) ∙ h.rest;
        sized = subst⁻¹ ColumnLengths is (sized_changed r es (emptied 0 0) small h.sized);
        lengths = subst⁻¹ MemoLengths memo emptied_lengths;
        correct = subst⁻¹ (CorrectMemo s) memo (emptied_correct s 0 0);
      }

  module _ (l x y : ℕ) where
    abbrev it : List ℕ
    it = l ∷ x ∷ y ∷ []

    -- ---- adding

    add_refusal_lem : edits.add_refusal r l x y ≡ add_refusal b book l x y
    add_refusal_lem =
        λ j. first (cause not_loadable (not (h.loads j)) ∷ cause edge_out_of_range (not (edge_in_range (objects j) l x y))
        ∷ cause edge_present (h.edges it j) ∷ cause edges_full (leb most_edges (h.count j)) ∷ [])

    pub add_number_lem : (added r l x y).number ≡ add_refusal b book l x y
    unfolding added
    add_number_lem = edited_number r (edits.add_refusal r l x y) _ _ ∙ add_refusal_lem

    pub add_refused : eqb (add_refusal b book l x y) 0 ≡ false → (added r l x y).rules ≡ r
    unfolding added
    add_refused e = edited_refused r (edits.add_refusal r l x y) _ _ (ap (λ (n : ℕ). eqb n 0) add_refusal_lem ∙ e)

    add_accepted : (added r l x y).number ≡ 0 → Agrees b (it ∷ book) (added r l x y).rules
    add_accepted ok =
        let a = adds r l x y ok in
        changed_agrees (it ∷ book) (inserted it (rows edge r)) (added r l x y).rules
        (ap (λ (e : Edited). e.rules) (added_when r l x y a))
        (added_loadable r l x y ok)
        (added_rows r l x y ok)
        (λ d. inserted_holds it d (rows edge r) ∙ ap (λ (v : Bool). same d it || v) (h.edges d))
        (inserted_length it (rows edge r) ∙ ap suc (length_table r.edge_count (λ i. row edge i r) ∙ h.count))
        (more (sym (h.edges it) ∙ a.absent) h.once)

    pub add_agrees : Agrees b (book_after_call b book (add l x y)) (added r l x y).rules
    unfolding book_after_call
    add_agrees =
        elim (ℕ_discrete (add_refusal b book l x y) 0) [
          | yes z ↦ rw (eq-eqb (add_refusal b book l x y) 0 z) (add_accepted (add_number_lem ∙ z))
          | no z ↦ let n = ne_eqb (add_refusal b book l x y) 0 z in rw n (subst⁻¹ (Agrees b book) (add_refused n) h)
        ]

    -- ---- removing

    remove_refusal_lem : edits.remove_refusal r l x y ≡ remove_refusal b book l x y
    remove_refusal_lem =
        λ j. first (cause not_loadable (not (h.loads j)) ∷ cause edge_out_of_range (not (edge_in_range (objects j) l x y))
        ∷ cause edge_absent (not (h.edges it j)) ∷ [])

    pub remove_number_lem : (removed r l x y).number ≡ remove_refusal b book l x y
    unfolding removed
    remove_number_lem = edited_number r (edits.remove_refusal r l x y) _ _ ∙ remove_refusal_lem

    pub remove_refused : eqb (remove_refusal b book l x y) 0 ≡ false → (removed r l x y).rules ≡ r
    unfolding removed
    remove_refused e = edited_refused r (edits.remove_refusal r l x y) _ _ (ap (λ (n : ℕ). eqb n 0) remove_refusal_lem ∙ e)

    remove_accepted : (removed r l x y).number ≡ 0 → Agrees b (without it book) (removed r l x y).rules
    remove_accepted ok =
        let a = removes r l x y ok in
        let p = without_once it (distinct_rows r h.loads) a.present in
        let q = without_once it h.once (sym (h.edges it) ∙ a.present) in
        let n = length_table r.edge_count (λ i. row edge i r) in
        let c = h.count in
        let sizes : length (without it (rows edge r)) ≡ length (without it book) = omega arith in
        changed_agrees (without it book) (without it (rows edge r)) (removed r l x y).rules
        (ap (λ (e : Edited). e.rules) (removed_when r l x y a))
        (removed_loadable r l x y ok)
        (removed_rows r l x y ok)
        (λ d. without_holds it d (rows edge r) ∙ ap (λ (v : Bool). not (same it d) && v) (h.edges d) ∙ sym (without_holds it d book))
        sizes
        (without_distinct it h.once)

    pub remove_agrees : Agrees b (book_after_call b book (remove l x y)) (removed r l x y).rules
    unfolding book_after_call
    remove_agrees =
        elim (ℕ_discrete (remove_refusal b book l x y) 0) [
          | yes z ↦ rw (eq-eqb (remove_refusal b book l x y) 0 z) (remove_accepted (remove_number_lem ∙ z))
          | no z ↦ let n = ne_eqb (remove_refusal b book l x y) 0 z in rw n (subst⁻¹ (Agrees b book) (remove_refused n) h)
        ]
