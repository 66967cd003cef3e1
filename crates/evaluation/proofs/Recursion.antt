-- A formula by its parts, at a vertex and on sets, and a step by what is found where its edges end: the recursion of the definition, as the
-- evaluation goes through it.
use Prim.Native.Nat.{ℕ, zero, suc, ◌+◌, ◌<◌}
use mathlib.Core.Path.{◌≡◌, refl, sym, ◌∙◌, ap}
use mathlib.Core.Bool.{Bool, true, false, false≢true, not, ◌&&◌, ◌||◌, and_assoc, and-or_distrib_left}
use mathlib.Core.List.{List, [], ◌∷◌}
use native.Mathlib.Omega.{arith}
use lib.ListN.{length, set, length-set}
use lib.Dec.{eqb}
use borrow.Author.Tests.{eq-eqb, eqb-true}
use Rattle.common.specs.Lists.{at}
use Rattle.common.specs.ListLaws.{any_more}
use Rattle.common.specs.BoolLaws.{and_cases, and_both, same_test}
use Rattle.rows.specs.Op.{op_of}
use Rattle.vertices.specs.Steps.{leads, is_in, Among, HasMember, edges_in}
use Rattle.vertices.proofs.VertexSets.{FilledTo, filled_more, filled_skip, everywhere, beyond}
use Rattle.vertices.specs.StepLaws.{some_edge, edge_some}
use Rattle.formula.specs.Formula.{Context, Formulas, true_of, slot, keep, meaning, true_below}
use Rattle.formula.specs.Uses.{reads_slot}
use Rattle.formula.proofs.SlotLaws.{kept_unread}
use Rattle.formula.specs.Evaluation.{formula_at}
use Rattle.formula.specs.EvaluationLaws.{below_in}

-- the edges turned round
turned : (n : ℕ) (labels from to : List ℕ) (a : ℕ) (p : ℕ → Bool) (v : ℕ)
    → leads (edges_in n labels to from) 1 2 a p v ≡ leads (edges_in n labels from to) 2 1 a p v
turned zero labels from to a p v = refl
turned (suc n) labels from to a p v =
    any_more (λ e. eqb (at e 0) a && (eqb (at e 1) v && p (at e 2))) n (λ i. at labels i ∷ at to i ∷ at from i ∷ [])
    ∙ ap (λ (b : Bool). b || (eqb (at labels n) a && (eqb (at to n) v && p (at from n)))) (turned n labels from to a p v)
    ∙ sym (any_more (λ e. eqb (at e 0) a && (eqb (at e 2) v && p (at e 1))) n (λ i. at labels i ∷ at from i ∷ at to i ∷ []))

-- a part by the number that was read
pub by_number : (fs : Formulas) (c : Context) (f : ℕ) {g b : ℕ} → g ≡ b → (v : ℕ) → true_below fs c f g v ≡ true_below fs c f b v
by_number fs c f e v = ap (λ (k : ℕ). true_below fs c f k v) e

-- formula f at v by its parts, with the number of its op
module _ (fs : Formulas) (c : Context) (f v : ℕ) where
  -- the parts' numbers, or a label, a role, a slot
  abbrev left : ℕ
  left = at fs.lefts f

  abbrev right : ℕ
  right = at fs.rights f

  -- a formula below n is what its parts make it
  pub below_at : (n : ℕ) → f < n → formula_at fs c f v ≡ true_below fs c n f v
  unfolding true_below formula_at
  below_at n l = sym (below_in fs c (suc f) n f v (omega arith) l ∙ rw (eq-eqb f f refl))

  by_op : (k : ℕ) → at fs.ops f ≡ k → meaning c (op_of k) left right (λ d. true_below fs d f) v ≡ formula_at fs c f v
  unfolding formula_at
  by_op k e = ap (λ (o : ℕ). meaning c (op_of o) left right (λ d. true_below fs d f) v) (sym e)

  -- t and u are the parts' values
  pub negation_at : {t : Bool} → t ≡ true_below fs c f left v → at fs.ops f ≡ 4 → not t ≡ formula_at fs c f v
  unfolding meaning
  negation_at e op = ap not e ∙ by_op 4 op

  pub conjunction_at : {t u : Bool} → t ≡ true_below fs c f left v → u ≡ true_below fs c f right v → at fs.ops f ≡ 5
      → (t && u) ≡ formula_at fs c f v
  unfolding meaning
  conjunction_at e eu op = (λ j. e j && eu j) ∙ by_op 5 op

  pub disjunction_at : {t u : Bool} → t ≡ true_below fs c f left v → u ≡ true_below fs c f right v → at fs.ops f ≡ 6
      → (t || u) ≡ formula_at fs c f v
  unfolding meaning
  disjunction_at e eu op = (λ j. e j || eu j) ∙ by_op 6 op

  -- a step from the edges' starts to their ends, and from their ends to their starts: along the edges es, with the label l
  pub forward_at : {es : List (List ℕ)} {l : ℕ} → es ≡ c.edges → l ≡ left → at fs.ops f ≡ 7
      → leads es 1 2 l (true_below fs c f right) v ≡ formula_at fs c f v
  unfolding meaning
  forward_at e el op = (λ j. leads (e j) 1 2 (el j) (true_below fs c f right) v) ∙ by_op 7 op

  pub backward_at : {es : List (List ℕ)} {l : ℕ} (n : ℕ) (labels from to : List ℕ) → es ≡ edges_in n labels to from
      → edges_in n labels from to ≡ c.edges → l ≡ left → at fs.ops f ≡ 8
      → leads es 1 2 l (true_below fs c f right) v ≡ formula_at fs c f v
  unfolding meaning
  backward_at n labels from to t e el op =
      (λ j. leads (t j) 1 2 (el j) (true_below fs c f right) v) ∙ turned n labels from to left (true_below fs c f right) v
      ∙ (λ j. leads (e j) 2 1 left (true_below fs c f right) v) ∙ by_op 8 op

  -- with v kept in the slot
  pub keeping_at : {a : ℕ} → a ≡ left → at fs.ops f ≡ 9 → true_below fs (keep c a v) f right v ≡ formula_at fs c f v
  unfolding meaning
  keeping_at e op = (λ j. true_below fs (keep c (e j) v) f right v) ∙ by_op 9 op

  -- at the vertex in the slot
  pub slot_at : at fs.ops f ≡ 11 → true_of (slot c left) (true_below fs c f right) ≡ formula_at fs c f v
  unfolding meaning
  slot_at op = by_op 11 op

-- ---- sets of vertices: where P or Q holds, of the asked ones
module _ {asked r : List Bool} {P : ℕ → Bool} where
  pub among_same : {Q : ℕ → Bool} → ((v : ℕ) → P v ≡ Q v) → Among asked P r → Among asked Q r
  among_same e h = record { members = λ v. h.members v ∙ ap (λ (b : Bool). is_in asked v && b) (e v) }

  -- t and u are the answers for the parts
  pub negated : {t : List Bool} → Among asked P t → Among asked (λ v. not (is_in t v)) r → Among asked (λ v. not (P v)) r
  negated et er = record { members = λ v. er.members v ∙ rw (et.members v) (and_not (is_in asked v) (P v)) }
    where
      and_not : (a b : Bool) → (a && not (a && b)) ≡ (a && not b)
      and_not true b = refl
      and_not false b = refl

  pub both : {t : List Bool} {Q : ℕ → Bool} → Among asked P t → Among t Q r → Among asked (λ v. P v && Q v) r
  both {Q = Q} et er = record { members = λ v. er.members v ∙ rw (et.members v) (and_assoc (is_in asked v) (P v) (Q v)) }

  pub either : {t u : List Bool} {Q : ℕ → Bool} → Among asked P t → Among asked Q u → ((v : ℕ) → is_in r v ≡ (is_in t v || is_in u v))
      → Among asked (λ v. P v || Q v) r
  either {Q = Q} et eu er =
      record { members = λ v. er v ∙ rw (et.members v, eu.members v) (sym (and-or_distrib_left (is_in asked v) (P v) (Q v))) }

-- a step: what is found where the edges end that start where p holds, Q there, says as much of these as Q itself
module _ (es : List (List ℕ)) (a : ℕ) (p : ℕ → Bool) {Q : ℕ → Bool} {reached found : List Bool} (reaches : (w : ℕ) → is_in reached w ≡ leads es 2 1 a p w)
    (finds : Among reached Q found) where
  is_found : (w : ℕ) → is_in found w ≡ (leads es 2 1 a p w && Q w)
  is_found w = finds.members w ∙ (λ j. reaches w j && Q w)

  to_found : (v : ℕ) → p v ≡ true → leads es 1 2 a Q v ≡ true → (w : ℕ) × (is_in found w ≡ true) × (leads es 1 2 a (is_in found) v ≡ true)
  to_found v x t =
      let (e, (i, h)) = some_edge _ es t in
      let (l, h) = and_cases (eqb (at e 0) a) _ h in
      let (m, q) = and_cases (eqb (at e 1) v) _ h in
      let ends = and_both (eqb (at e 2) (at e 2)) (p (at e 1)) (eq-eqb (at e 2) (at e 2) refl) (ap p (eqb-true (at e 1) v m) ∙ x) in
      let reached = edge_some (λ d. eqb (at d 0) a && (eqb (at d 2) (at e 2) && p (at d 1))) es e i
      (and_both (eqb (at e 0) a) _ l ends) in
      let q = is_found (at e 2) ∙ and_both (leads es 2 1 a p (at e 2)) (Q (at e 2)) reached q in
      (at e 2, q, edge_some _ es e i (and_both (eqb (at e 0) a) _ l (and_both (eqb (at e 1) v) (is_in found (at e 2)) m q)))

  -- from the asked vertices
  pub scanned : {asked r : List Bool} → ((v : ℕ) → is_in asked v ≡ p v) → Among asked (leads es 1 2 a (is_in found)) r → Among asked (leads es 1 2 a Q) r
  scanned {asked} asks h = record { members = λ v. h.members v ∙ go v (is_in asked v) refl }
    where
      go : (v : ℕ) (t : Bool) → is_in asked v ≡ t → (t && leads es 1 2 a (is_in found) v) ≡ (t && leads es 1 2 a Q v)
      go v false x = refl
      go v true x = same_test (leads es 1 2 a (is_in found) v) (leads es 1 2 a Q v) (
        (λ t.
            let (e, (i, h)) = some_edge _ es t in
            let (l, h) = and_cases (eqb (at e 0) a) _ h in
            let (m, q) = and_cases (eqb (at e 1) v) _ h in
            let q = (and_cases (leads es 2 1 a p (at e 2)) (Q (at e 2)) (sym (is_found (at e 2)) ∙ q)).1 in
            edge_some _ es e i (and_both (eqb (at e 0) a) _ l (and_both (eqb (at e 1) v) (Q (at e 2)) m q))),
        (λ t. (to_found v (sym (asks v) ∙ x) t).2),
      )

  -- from x alone: it is enough that something is found
  pub stepped : (x : ℕ) {r : Bool} → ((v : ℕ) → p v ≡ eqb v x) → HasMember found r → r ≡ leads es 1 2 a Q x
  stepped x {r} alone h = same_test r (leads es 1 2 a Q x) (
    (λ t.
        let (w, u) = h.some t in
        let (s, q) = and_cases (leads es 2 1 a p w) (Q w) (sym (is_found w) ∙ u) in
        let (e, (i, d)) = some_edge _ es s in
        let (l, d) = and_cases (eqb (at e 0) a) _ d in
        let (m, d) = and_cases (eqb (at e 2) w) _ d in
        edge_some _ es e i (and_both (eqb (at e 0) a) _ l
        (and_both (eqb (at e 1) x) (Q (at e 2)) (sym (alone (at e 1)) ∙ d) (ap Q (eqb-true (at e 2) w m) ∙ q)))),
    (λ t. let (w, u, s) = to_found x (alone x ∙ eq-eqb x x refl) t in go r refl w u),
  )
    where
      go : (b : Bool) → r ≡ b → (w : ℕ) → is_in found w ≡ true → r ≡ true
      go true e w u = e
      go false e w u = absurd (false≢true (sym (h.none e w) ∙ u))

-- a part that does not read slot a, at all asked vertices together
pub kept_none : (fs : Formulas) (c : Context) (f a b : ℕ) {g : ℕ} (asked : List Bool) {r : List Bool} {reads : Bool} → reads ≡ reads_slot fs f b a
    → reads ≡ false → g ≡ b → Among asked (true_below fs c f g) r → (v : ℕ) → is_in r v ≡ (is_in asked v && true_below fs (keep c a v) f b v)
kept_none fs c f a b asked e unread p h v =
    h.members v ∙ (λ j. is_in asked v && true_below fs c f (p j) v) ∙ (λ j. is_in asked v && sym (kept_unread fs f c a v b v (sym e ∙ unread)) j)

-- ---- at each asked vertex by itself: those below v are answered, by P
pub record EachBelow (asked : List Bool) (P : ℕ → Bool) (r : List Bool) (v : ℕ) : Type 0 where
  pub filled : FilledTo (λ u. is_in asked u && P u) r v
  pub whole : length r ≡ 256

module _ {asked : List Bool} {P : ℕ → Bool} {r : List Bool} where
  -- vertex v, by the index i: it is asked, and b is its answer; or it is not
  module _ {v i : ℕ} (h : EachBelow asked P r v) (e : i ≡ v) (l : v < 256) where
    pub each_asked : {b : Bool} → is_in asked i ≡ true → b ≡ P v → EachBelow asked P (set r i b) (v + 1)
    each_asked {b} a answer =
        rw e (record {
          filled = filled_more _ r v b (rw (ap (is_in asked) (sym e) ∙ a) answer) (omega (arith, h.whole)) h.filled;
          whole = length-set r v b ∙ h.whole;
        })

    pub each_passed : is_in asked i ≡ false → EachBelow asked P r (v + 1)
    each_passed a = record { filled = filled_skip _ r v (rw (ap (is_in asked) (sym e) ∙ a) refl) h.filled; whole = h.whole }

  pub each_answered : {n : ℕ} → n ≡ 256 → length asked ≡ 256 → EachBelow asked P r n → Among asked P r
  each_answered e whole h =
      record { members = everywhere _ r h.whole (λ v l. h.filled.done v (omega arith)) (λ v l. rw (beyond asked 256 v whole l) refl) }
