-- Laws of adding and removing an edge: what an accepted edit's record holds, that it is loadable, and that removing undoes adding.
use Rattle.std.specs.Prelude.{ℕ, suc, ◌<◌, ◌≡◌, refl, Bool, true, false, not, cond, List, [], ◌∷◌, leb, eqb}
use Rattle.std.proofs.Common.{◌∙◌, ap, arith}
use borrow.Author.Tests.{leb-false, lt-leb, eqb-true, eq-eqb, not-false}
use Rattle.common.specs.Limits.{most_edges}
use Rattle.common.specs.Lists.{same}
use Rattle.common.specs.ListLaws.{length_table}
use Rattle.policy.specs.declared.Record.{Record}
use Rattle.policy.specs.declared.Memo.{Memo}
use Rattle.policy.specs.EditAnswers.{Edited}
use Rattle.policy.specs.Table.{edge, row, rows, emptied, changed, with_memo}
use Rattle.rows.specs.Checks.{edge_in_range}
use Rattle.policy.specs.Loadable.{loadable}
use Rattle.policy.specs.LoadableLaws.{loadable_table, loadable_objects, table_few}
use Rattle.policy.specs.EdgeLaws.{Rising, loadable_rising, inserted_length, inserted_in, inserted_rising, without_length}
use Rattle.policy.specs.EdgeLaws.{without_inserted, without_rising}
use Rattle.policy.specs.TableLaws.{ColumnLengths}
use Rattle.policy.specs.ChangedLaws.{rows_changed, loadable_changed}
use Rattle.policy.specs.ColumnLaws.{own_edges}
use Rattle.policy.specs.Edits.{edge_in, inserted, without, edited, add_refusal, remove_refusal, added, removed}

-- the first cause is not there, nor a later one
no_first : (k : ℕ) (b : Bool) (m : ℕ) → cond b (suc k) m ≡ 0 → (b ≡ false) × (m ≡ 0)
no_first k true m e = let z : ⊥ = omega arith in absurd z
no_first k false m e = (refl, e)

edited_accepted : (r : Record) (n : ℕ) (es : List (List ℕ)) (m : Memo) → (edited r n es m).number ≡ 0 → n ≡ 0
edited_accepted r n es m e = go (eqb n 0) refl e
  where
    go : (b : Bool) → eqb n 0 ≡ b
        → (cond {A = Edited} b (record { number = 0; rules = changed r es m }) (record { number = n; rules = r })).number ≡ 0 → n ≡ 0
    go true f e = eqb-true n 0 f
    go false f e = e

same_own : (e : List ℕ) → same e e ≡ true
same_own [] = refl
same_own (x ∷ e) = rw (eq-eqb x x refl) (same_own e)

module _ (r : Record) (l x y : ℕ) where
  -- ---- when an edit is accepted

  pub record Adds : Type 0 where
    pub loads : loadable r ≡ true
    pub fits : edge_in_range r.objects l x y ≡ true
    pub absent : edge_in (rows edge r) (l ∷ x ∷ y ∷ []) ≡ false
    pub room : r.edge_count < most_edges

  pub record Removes : Type 0 where
    pub loads : loadable r ≡ true
    pub fits : edge_in_range r.objects l x y ≡ true
    pub present : edge_in (rows edge r) (l ∷ x ∷ y ∷ []) ≡ true

  pub added_when : Adds → added r l x y ≡ record { number = 0; rules = changed r (inserted (l ∷ x ∷ y ∷ []) (rows edge r)) (emptied 0 0) }
  unfolding added
  added_when a = rw (a.loads, a.fits, a.absent, lt-leb most_edges r.edge_count a.room)

  pub removed_when : Removes
      → removed r l x y ≡ record { number = 0; rules = changed r (without (l ∷ x ∷ y ∷ []) (rows edge r)) (emptied 0 0) }
  unfolding removed
  removed_when a = rw (a.loads, a.fits, a.present)

  pub adds_when : add_refusal r l x y ≡ 0 → Adds
  adds_when e =
      let a = no_first 18 (not (loadable r)) _ e in
      let b = no_first 9 (not (edge_in_range r.objects l x y)) _ a.1 in
      let c = no_first 10 (edge_in (rows edge r) (l ∷ x ∷ y ∷ [])) _ b.1 in
      let d = no_first 12 (leb most_edges r.edge_count) _ c.1 in
      record { loads = not-false _ a.0; fits = not-false _ b.0; absent = c.0; room = leb-false most_edges r.edge_count d.0 }

  pub removes_when : remove_refusal r l x y ≡ 0 → Removes
  removes_when e =
      let a = no_first 18 (not (loadable r)) _ e in
      let b = no_first 9 (not (edge_in_range r.objects l x y)) _ a.1 in
      let c = no_first 11 (not (edge_in (rows edge r) (l ∷ x ∷ y ∷ []))) _ b.1 in
      record { loads = not-false _ a.0; fits = not-false _ b.0; present = not-false _ c.0 }

  pub adds : (added r l x y).number ≡ 0 → Adds
  unfolding added
  adds e = adds_when (edited_accepted r (add_refusal r l x y) _ _ e)

  pub removes : (removed r l x y).number ≡ 0 → Removes
  unfolding removed
  removes e = removes_when (edited_accepted r (remove_refusal r l x y) _ _ e)

  -- ---- adding

  module _ (accepted : (added r l x y).number ≡ 0) where
    abbrev now : List (List ℕ)
    now = inserted (l ∷ x ∷ y ∷ []) (rows edge r)

    now_rising : Rising r.objects 0 now
    now_rising =
        let a = adds accepted in
        inserted_rising l x y (loadable_objects r a.loads) a.fits (loadable_rising r a.loads) (omega arith) a.absent

    added_is : (added r l x y).rules ≡ changed r now (emptied 0 0)
    added_is = ap (λ (e : Edited). e.rules) (added_when (adds accepted))

    pub added_rows : rows edge (added r l x y).rules ≡ inserted (l ∷ x ∷ y ∷ []) (rows edge r)
    added_rows = ap (rows edge) added_is ∙ rows_changed r now (emptied 0 0) now_rising

    pub added_loadable : loadable (added r l x y).rules ≡ true
    added_loadable =
        let few = inserted_length (l ∷ x ∷ y ∷ []) (rows edge r) in
        ap loadable added_is
        ∙ loadable_changed r now (emptied 0 0) (adds accepted).loads now_rising
        (omega (arith, (adds accepted).room, length_table r.edge_count (λ i. row edge i r)))

  -- ---- removing

  module _ (accepted : (removed r l x y).number ≡ 0) where
    abbrev left : List (List ℕ)
    left = without (l ∷ x ∷ y ∷ []) (rows edge r)

    left_rising : Rising r.objects 0 left
    left_rising = without_rising (l ∷ x ∷ y ∷ []) (loadable_rising r (removes accepted).loads)

    removed_is : (removed r l x y).rules ≡ changed r left (emptied 0 0)
    removed_is = ap (λ (e : Edited). e.rules) (removed_when (removes accepted))

    pub removed_rows : rows edge (removed r l x y).rules ≡ without (l ∷ x ∷ y ∷ []) (rows edge r)
    removed_rows = ap (rows edge) removed_is ∙ rows_changed r left (emptied 0 0) left_rising

    pub removed_loadable : loadable (removed r l x y).rules ≡ true
    removed_loadable =
        let loads = (removes accepted).loads in
        ap loadable removed_is
        ∙ loadable_changed r left (emptied 0 0) loads left_rising
        (omega (
          arith,
          without_length (l ∷ x ∷ y ∷ []) (rows edge r),
          table_few r edge (loadable_table r loads edge),
          length_table r.edge_count
              (λ i. row edge i r),
        ))

-- the edges of a changed record are changed over
changed_twice : (r : Record) (es fs : List (List ℕ)) (m : Memo) → changed (changed r es m) fs m ≡ changed r fs m
unfolding changed
changed_twice r es fs m = refl

objects_changed : (r : Record) (es : List (List ℕ)) (m : Memo) → (changed r es m).objects ≡ r.objects
unfolding changed
objects_changed r es m = refl

-- a new edge added and removed: the same rules, and an emptied memo (the columns have the lengths of the record's arrays: `ColumnLengths`)
module _ (r : Record) (l x y : ℕ) where
  pub added_removed : ColumnLengths r → (added r l x y).number ≡ 0
      → removed (added r l x y).rules l x y ≡ record { number = 0; rules = with_memo r (emptied 0 0) }
  added_removed sized accepted =
      let s = (added r l x y).rules in
      let is = added_is r l x y accepted in
      let a = adds r l x y accepted in
      let holds = added_rows r l x y accepted in
      let back : without (l ∷ x ∷ y ∷ []) (rows edge s) ≡ rows edge r =
      ap (without (l ∷ x ∷ y ∷ [])) holds ∙ without_inserted (l ∷ x ∷ y ∷ []) (same_own (l ∷ x ∷ y ∷ [])) (rows edge r) a.absent in
      let objects : s.objects ≡ r.objects = ap (λ (t : Record). t.objects) is ∙ objects_changed r _ _ in
      removed_when s l x y
      (record {
        loads = added_loadable r l x y accepted;
        fits = ap (λ (n : ℕ). edge_in_range n l x y) objects ∙ a.fits;
        present =
            ap (λ (es : List (List ℕ)). edge_in es (l ∷ x ∷ y ∷ [])) holds
            ∙ inserted_in (l ∷ x ∷ y ∷ []) (same_own (l ∷ x ∷ y ∷ [])) (rows edge r);
      })
      ∙ (λ j. record { number = 0; rules = changed (is j) (back j) (emptied 0 0) })
      ∙ ap (λ (t : Record). record { number = 0; rules = t })
      (changed_twice r _ (rows edge r) (emptied 0 0) ∙ own_edges r (emptied 0 0) sized a.loads)
