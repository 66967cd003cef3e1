-- What a pass over positions has marked, position by position, and what that says of the edges of a label.
use Prim.Native.Nat.{ℕ, ◌+◌, ◌≤◌, ◌<◌}
use mathlib.Core.Path.{◌≡◌, sym, ap, ◌∙◌}
use mathlib.Core.Bool.{Bool, true, false, false≢true, ◌&&◌}
use mathlib.Core.List.{List}
use native.Mathlib.Omega.{arith}
use native.Mathlib.Decide.{ℕ_discrete, dec_lt}
use lib.ListN.{length, length-set, set}
use lib.Seq.{get_or-set_same, get_or-set_other}
use lib.Dec.{eqb}
use borrow.Author.Tests.{eq-eqb, eqb-true}
use Rattle.common.specs.Lists.{at}
use Rattle.common.specs.BoolLaws.{and_cases, and_both, same_test}
use Rattle.edge_index.specs.Spans.{Listed}
use Rattle.vertices.specs.Steps.{leads, is_in, Among, edges_in}
use Rattle.vertices.specs.StepLaws.{some_listed, listed_some}
use Rattle.vertices.specs.Passes.{Marked}

-- one mark more leaves those that are there
mark_kept : (r : List Bool) (y v : ℕ) → y < length r → is_in r v ≡ true → is_in (set r y true) v ≡ true
mark_kept r y v l t = elim (ℕ_discrete v y) [
  | yes e ↦ ap (is_in (set r y true)) e ∙ get_or-set_same r y true false l
  | no n ↦ get_or-set_other r y v true false n ∙ t
]

module _ {test : ℕ → Bool} {mark : ℕ → ℕ} {first stop : ℕ} where
  -- nothing, where no position has passed the test so far
  pub marked_none : {p : ℕ} {r : List Bool} → (length r ≡ 256) × ((v : ℕ) → is_in r v ≡ false)
      → ((q : ℕ) → first ≤ q → q < p → test q ≡ false) → Marked test mark first stop p r
  marked_none (whole, none) fails =
      record {
        from = λ v t. absurd (false≢true (sym (none v) ∙ t));
        each = λ q a b t. absurd (false≢true (sym (fails q a b) ∙ t));
        whole = whole;
      }

  module _ {p : ℕ} {r : List Bool} (m : Marked test mark first stop p r) where
    -- the position p passes, and is marked by y
    pub marked_taken : (y : ℕ) → y ≡ mark p → y < 256 → first ≤ p → p < stop → test p ≡ true
        → Marked test mark first stop (p + 1) (set r y true)
    marked_taken y ey ly f s t =
        record {
          from = λ v h. elim (ℕ_discrete v y) [
            | yes e ↦ (p, f, s, t, sym ey ∙ sym e)
            | no n ↦ m.from v (sym (get_or-set_other r y v true false n) ∙ h)
          ];
          each = λ q a b u. elim (dec_lt q p) [
            | yes l ↦ mark_kept r y (mark q) fits (m.each q a l u)
            | no n ↦ (let e : q ≡ p = omega arith in ap (is_in (set r y true)) (ap mark e ∙ sym ey) ∙ get_or-set_same r y true false fits)
          ];
          whole = simp length-set m.whole;
        }
      where
        fits : y < length r
        fits = omega arith

    -- the position p does not pass
    pub marked_passed : test p ≡ false → Marked test mark first stop (p + 1) r
    marked_passed t =
        record {
          from = m.from;
          each = λ q a b u. elim (dec_lt q p) [
            | yes l ↦ m.each q a l u
            | no n ↦ (let e : q ≡ p = omega arith in absurd (false≢true (sym t ∙ ap test (sym e) ∙ u)))
          ];
          whole = m.whole;
        }

    -- no position from p on passes
    pub marked_to_the_end : ((q : ℕ) → p ≤ q → q < stop → test q ≡ false) → Marked test mark first stop stop r
    marked_to_the_end fails =
        record {
          from = m.from;
          each = λ q a b u. elim (dec_lt q p) [
            | yes l ↦ m.each q a l u
            | no n ↦ absurd (false≢true (sym (fails q (omega arith) b) ∙ u))
          ];
          whole = m.whole;
        }

-- ---- a whole pass over the edges of a label
module _ (starts ends : List ℕ) {n : ℕ} {labels : List ℕ} {l first stop : ℕ} {place : ℕ → ℕ} (listed : Listed n labels l first stop place)
    {r : List Bool} (p : ℕ → Bool) where
  -- it marks the ends of the edges that start where p holds
  pub ends_marked : Marked (λ q. p (at starts (place q))) (λ q. at ends (place q)) first stop stop r
      → (v : ℕ) → is_in r v ≡ leads (edges_in n labels starts ends) 2 1 l p v
  ends_marked m v =
      same_test (is_in r v) (leads (edges_in n labels starts ends) 2 1 l p v) (
        λ h. let (q, f, s, t, e) = m.from v h in
            listed_some starts ends listed (λ e. eqb (at e 2) v && p (at e 1)) q f s
            (and_both (eqb (at ends (place q)) v) (p (at starts (place q))) (eq-eqb (at ends (place q)) v e) t),
        λ h. let (q, f, s, t) = some_listed starts ends listed (λ e. eqb (at e 2) v && p (at e 1)) h in
            let (e, u) = and_cases (eqb (at ends (place q)) v) (p (at starts (place q))) t in
            ap (is_in r) (sym (eqb-true (at ends (place q)) v e)) ∙ m.each q f s u,
      )

  -- it marks the starts, of the asked vertices, of the edges that end where p holds
  pub starts_marked : (asked : List Bool)
      → Marked (λ q. is_in asked (at starts (place q)) && p (at ends (place q))) (λ q. at starts (place q)) first stop stop r
      → Among asked (leads (edges_in n labels starts ends) 1 2 l p) r
  starts_marked asked m = record { members = λ v. same_test (is_in r v) (is_in asked v && led v) (to v, back v) }
    where
      led : ℕ → Bool
      led v = leads (edges_in n labels starts ends) 1 2 l p v

      to : (v : ℕ) → is_in r v ≡ true → (is_in asked v && led v) ≡ true
      to v h =
          let (q, f, s, t, e) = m.from v h in
          let (a, u) = and_cases (is_in asked (at starts (place q))) (p (at ends (place q))) t in
          and_both (is_in asked v) (led v) (ap (is_in asked) (sym e) ∙ a)
          (listed_some starts ends listed (λ e. eqb (at e 1) v && p (at e 2)) q f s
          (and_both (eqb (at starts (place q)) v) (p (at ends (place q))) (eq-eqb (at starts (place q)) v e) u))

      back : (v : ℕ) → (is_in asked v && led v) ≡ true → is_in r v ≡ true
      back v h =
          let (a, d) = and_cases (is_in asked v) (led v) h in
          let (q, f, s, t) = some_listed starts ends listed (λ e. eqb (at e 1) v && p (at e 2)) d in
          let (b, u) = and_cases (eqb (at starts (place q)) v) (p (at ends (place q))) t in
          let e = eqb-true (at starts (place q)) v b in
          ap (is_in r) (sym e)
          ∙ m.each q f s (and_both (is_in asked (at starts (place q))) (p (at ends (place q))) (ap (is_in asked) e ∙ a) u)
