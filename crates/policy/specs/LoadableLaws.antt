-- Laws of `Loadable`: a record's tables by their columns, and the parts of `loadable`.
use Rattle.std.specs.Prelude.{ℕ, zero, suc, ◌≤◌, ◌<◌, ◌≡◌, ◌↔◌, Bool, not, ◌&&◌, [], ◌∷◌, get_or, ltb, leb}
use Rattle.std.proofs.Math.Path.{refl, ap}
use Rattle.std.proofs.Common.{sym, ◌∙◌, arith}
use Rattle.std.proofs.Math.Bool.{true, false}
use borrow.Author.Tests.{ltb-true, ltb-false, leb-true, le-leb}
use Rattle.common.specs.Limits.{most_objects}
use Rattle.common.specs.Lists.{every, same}
use Rattle.common.specs.ListLaws.{every_at, same_self, same_is}
use Rattle.common.specs.BoolLaws.{and_cases, and_both, and_false}
use Rattle.closure.specs.Closure.{circular}
use Rattle.edge_index.specs.declared.EdgeIndex.{EdgeIndex}
use Rattle.policy.specs.declared.Record.{Record}
use Rattle.policy.specs.Table.{Kind, head, user, edge, formula, demarcation, hierarchy, principal, exclusion, prerequisite, method}
use Rattle.policy.specs.Table.{end, kinds, count, columns, room, row, rows, index_of}
use Rattle.policy.specs.Rows.{in_range, row_causes, row_refusal}
use Rattle.tables.specs.Loads.{lines_load, users_load, edges_load, formulas_load, demarcations_load, pairs_load, principals_load, exclusions_load}
use Rattle.tables.specs.Loads.{methods_load}
use Rattle.tables.specs.LoadsLaws.{in_range_lem}
use Rattle.policy.specs.Loadable.{zero_from, rows_load, table_loads, no_circles, same_index, index_agrees, loadable}

-- ---- the tables by their columns (`tables/specs/Loads.antt`)

-- a table whose lines the record's rows are: the first one and the later ones are refused alike
by_columns : (r : Record) (k : Kind) (refusal : ℕ → ℕ) → refusal 0 ≡ row_refusal k 0 r (row k 0 r)
    → ((i : ℕ) → refusal (suc i) ≡ row_refusal k (suc i) r (row k (suc i) r))
    → lines_load (room k) (count k r) refusal (columns k r) ≡ table_loads r k
unfolding lines_load table_loads
by_columns r k refusal f g = λ j. lines_load (room k) (count k r) (λ i. line i j) (columns k r)
  where
    line : (i : ℕ) → refusal i ≡ row_refusal k i r (row k i r)
    line zero = f
    line (suc i) = g i

module _ (r : Record) where
  pub user_columns : users_load r.objects r.user_count r.user_objects r.user_roles ≡ table_loads r user
  unfolding users_load row_refusal row_causes in_range
  user_columns = by_columns r user _ refl (λ i. refl)

  pub edge_columns : edges_load r.objects r.edge_count r.edge_labels r.edge_sources r.edge_targets ≡ table_loads r edge
  unfolding edges_load row_refusal row_causes in_range
  edge_columns = by_columns r edge _ refl (λ i. refl)

  pub formula_columns : formulas_load r.formula_count r.formula_ops r.formula_lefts r.formula_rights
      ≡ table_loads r formula
  unfolding formulas_load row_refusal row_causes in_range
  formula_columns = by_columns r formula _ refl (λ i. refl)

  pub demarcation_columns : demarcations_load r.demarcation_count r.demarcation_privileges ≡ table_loads r demarcation
  unfolding demarcations_load row_refusal row_causes in_range
  demarcation_columns = by_columns r demarcation _ refl (λ i. refl)

  pub hierarchy_pairs : pairs_load r.demarcation_count r.hierarchy_count r.inferiors r.superiors ≡ table_loads r hierarchy
  unfolding pairs_load row_refusal row_causes in_range
  hierarchy_pairs = by_columns r hierarchy _ refl (λ i. refl)

  pub principal_columns : principals_load r.formula_count r.demarcation_count r.principal_count r.principal_formulas
      r.principal_demarcations ≡ table_loads r principal
  unfolding principals_load row_refusal row_causes in_range
  principal_columns = by_columns r principal _ refl (λ i. refl)

  pub exclusion_columns : exclusions_load r.principal_count r.exclusion_count r.exclusion_lows r.exclusion_highs
      ≡ table_loads r exclusion
  unfolding exclusions_load row_refusal row_causes in_range
  exclusion_columns = by_columns r exclusion _ refl (λ i. refl)

  pub prerequisite_pairs : pairs_load r.principal_count r.prerequisite_count r.prerequisites r.dependents
      ≡ table_loads r prerequisite
  unfolding pairs_load row_refusal row_causes in_range
  prerequisite_pairs = by_columns r prerequisite _ refl (λ i. refl)

  pub method_columns : methods_load r.method_count r.method_forms r.method_privileges ≡ table_loads r method
  unfolding methods_load row_refusal row_causes in_range
  method_columns = by_columns r method _ refl (λ i. refl)

-- ---- the parts of `loadable`

-- kinds 02 to 04; kinds 05, 07, 08 and 0A; kinds 06 and 09, with the circles of the two relations
abbrev pub graph_loads : Record → Bool
graph_loads r = table_loads r user && (table_loads r edge && table_loads r formula)

abbrev pub lists_load : Record → Bool
lists_load r = table_loads r demarcation && (table_loads r principal && (table_loads r exclusion && table_loads r method))

abbrev pub relations_load : Record → Bool
relations_load r =
    (table_loads r hierarchy && not (circular (rows hierarchy r))) && (table_loads r prerequisite && not (circular (rows prerequisite r)))

abbrev pub grounds_load : Record → Bool
grounds_load r = lists_load r && relations_load r

module _ (r : Record) where
  -- the head's table: at least one object
  head_none : r.objects ≡ 0 → table_loads r head ≡ false
  unfolding table_loads row_refusal row_causes in_range
  head_none e = rw e

  -- there are no end lines to load
  end_loads : table_loads r end ≡ true
  unfolding table_loads
  end_loads = refl

  pub head_some : 1 ≤ r.objects → r.objects ≤ most_objects → table_loads r head ≡ true
  unfolding table_loads row_refusal row_causes in_range
  head_some l h = rw (le-leb 1 r.objects l, le-leb r.objects most_objects h)

  head_test : r.objects ≤ most_objects → ltb 0 r.objects ≡ table_loads r head
  head_test h = go (ltb 0 r.objects) refl
    where
      go : (b : Bool) → ltb 0 r.objects ≡ b → b ≡ table_loads r head
      go true e = sym (head_some (ltb-true 0 r.objects e) h)
      go false e = sym (head_none (let l = ltb-false 0 r.objects e in omega arith))

  -- the kinds and the circles, then the index
  pub loadable_parts : r.objects ≤ most_objects → (ltb 0 r.objects && (graph_loads r && grounds_load r)) && index_agrees r ≡ loadable r
  unfolding loadable
  loadable_parts h =
      ap (λ (b : Bool). (b && (graph_loads r && grounds_load r)) && index_agrees r) (head_test h)
      ∙ ap (λ (b : Bool). b && index_agrees r) (first_kinds (table_loads r head) (table_loads r user) (table_loads r edge) (table_loads r formula))
      ∙ and_assoc (every (table_loads r) kinds) (no_circles r) (index_agrees r)
    where
      and_assoc : (a b c : Bool) → (a && b) && c ≡ a && (b && c)
      and_assoc true b c = refl
      and_assoc false b c = refl

      later_kinds : (d i p x q m a b : Bool)
          → (d && (p && (x && m))) && ((i && a) && (q && b)) ≡ (d && (i && (p && (x && (q && (m && true)))))) && (a && b)
      later_kinds false i p x q m a b = refl
      later_kinds true i false x q m a b = rw (and_false i)
      later_kinds true i true false q m a b = rw (and_false i)
      later_kinds true false true true q true a b = refl
      later_kinds true false true true q false a b = refl
      later_kinds true true true true q false a b = rw (and_false q)
      later_kinds true true true true true true a b = refl
      later_kinds true true true true false true a b = and_false a

      first_kinds : (h u e f : Bool) → h && ((u && (e && f)) && grounds_load r)
          ≡ (h && (u && (e && (f && every (table_loads r)
          (demarcation ∷ hierarchy ∷ principal ∷ exclusion ∷ prerequisite ∷ method ∷ []))))) && no_circles r
      first_kinds false u e f = refl
      first_kinds true false e f = refl
      first_kinds true true false f = refl
      first_kinds true true true false = refl
      first_kinds true true true true =
          later_kinds (table_loads r demarcation) (table_loads r hierarchy) (table_loads r principal) (table_loads r exclusion)
          (table_loads r prerequisite) (table_loads r method) (not (circular (rows hierarchy r))) (not (circular (rows prerequisite r)))

  -- in the order in which they are tested
  pub loadable_tests : r.objects ≤ most_objects
      → (graph_loads r && lists_load r) && ((ltb 0 r.objects && relations_load r) && index_agrees r) ≡ loadable r
  loadable_tests h = same (ltb 0 r.objects) (graph_loads r) (lists_load r) (relations_load r) (index_agrees r) ∙ loadable_parts h
    where
      same : (o g l n i : Bool) → (g && l) && ((o && n) && i) ≡ (o && (g && (l && n))) && i
      same o true true n i = refl
      same true true false n i = refl
      same false true false n i = refl
      same true false l n i = refl
      same false false l n i = refl

-- the head's table says that there are 1 to 255 objects
pub head_range : (r : Record) → table_loads r head ≡ true → (1 ≤ r.objects) × (r.objects ≤ most_objects)
unfolding table_loads row_refusal row_causes in_range
head_range r e =
    let p = and_cases (leb 1 r.objects) (leb r.objects most_objects)
    (in_range_lem (leb 1 r.objects && leb r.objects most_objects) false (and_cases _ true (and_cases _ true e).0).0) in
    (leb-true 1 r.objects p.0, leb-true r.objects most_objects p.1)

-- a table that loads has no more lines than there is room for
pub table_few : (r : Record) (k : Kind) → table_loads r k ≡ true → count k r ≤ room k
unfolding table_loads
table_few r k e = leb-true (count k r) (room k) (and_cases (leb (count k r) (room k)) _ e).0

-- ---- the index

-- an index is the same as itself
pub same_index_lem : (x : EdgeIndex) → same_index x x ≡ true
same_index_lem x = and_both _ _ (same_self x.firsts) (and_both _ _ (same_self x.counts) (same_self x.places))

-- the test says that the index is that of the record's edges
pub index_agrees_lem : (r : Record) → (index_agrees r ≡ true) ↔ (r.index ≡ index_of (rows edge r))
unfolding index_agrees
index_agrees_lem r = (says, λ e. ap (λ (x : EdgeIndex). same_index x (index_of (rows edge r))) e ∙ same_index_lem (index_of (rows edge r)))
  where
    says : same_index r.index (index_of (rows edge r)) ≡ true → r.index ≡ index_of (rows edge r)
    says e =
        let x = index_of (rows edge r) in
        let p = and_cases (same r.index.firsts x.firsts) _ e in
        let q = and_cases (same r.index.counts x.counts) _ p.1 in
        let a = same_is r.index.firsts x.firsts p.0 in
        let b = same_is r.index.counts x.counts q.0 in
        let c = same_is r.index.places x.places q.1 in
        λ j. record { firsts = a j; counts = b j; places = c j }

-- ---- loadable records

-- a record whose tables load, which has no circles, and whose index is that of its edges, is loadable
pub loadable_from : (r : Record) → ((j : Kind) → table_loads r j ≡ true) → no_circles r ≡ true → index_agrees r ≡ true → loadable r ≡ true
unfolding loadable
loadable_from r loads c x =
    rw (
      loads head,
      loads user,
      loads edge,
      loads formula,
      loads demarcation,
      loads hierarchy,
      loads principal,
      loads exclusion,
      loads prerequisite,
      loads method,
    ) (and_both _ _ c x)

-- each of its lines is one that loading takes, and its unused places are zero
pub table_rows : (r : Record) (k : Kind) → table_loads r k ≡ true → rows_load r k (count k r) ≡ true
unfolding table_loads
table_rows r k e = (and_cases (rows_load r k (count k r)) _ (and_cases (leb (count k r) (room k)) _ e).1).0

pub table_zero : (r : Record) (k : Kind) → table_loads r k ≡ true → every (zero_from (count k r)) (columns k r) ≡ true
unfolding table_loads
table_zero r k e = (and_cases (rows_load r k (count k r)) _ (and_cases (leb (count k r) (room k)) _ e).1).1

-- of a loadable record every table loads
pub loadable_table : (r : Record) → loadable r ≡ true → (k : Kind) → table_loads r k ≡ true
unfolding loadable
loadable_table r e k = go k
  where
    nth : (i : ℕ) → i < 10 → table_loads r (get_or kinds i end) ≡ true
    nth i h = every_at (table_loads r) kinds i end (and_cases (every (table_loads r) kinds) _ e).0 h

    go : (k : Kind) → table_loads r k ≡ true
    go head = nth 0 (omega arith)
    go user = nth 1 (omega arith)
    go edge = nth 2 (omega arith)
    go formula = nth 3 (omega arith)
    go demarcation = nth 4 (omega arith)
    go hierarchy = nth 5 (omega arith)
    go principal = nth 6 (omega arith)
    go exclusion = nth 7 (omega arith)
    go prerequisite = nth 8 (omega arith)
    go method = nth 9 (omega arith)
    go end = end_loads r

-- its index is that of its edges
pub loadable_index : (r : Record) → loadable r ≡ true → index_agrees r ≡ true
unfolding loadable
loadable_index r e = (and_cases (no_circles r) _ (and_cases (every (table_loads r) kinds) _ e).1).1

pub own_index : (r : Record) → loadable r ≡ true → r.index ≡ index_of (rows edge r)
own_index r e = (index_agrees_lem r).0 (loadable_index r e)

-- and there are at most 255 objects
pub loadable_objects : (r : Record) → loadable r ≡ true → r.objects ≤ most_objects
loadable_objects r e = (head_range r (loadable_table r e head)).1
