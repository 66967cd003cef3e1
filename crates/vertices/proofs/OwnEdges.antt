-- The edges of a label from one vertex: where they lead is decided by the positions that pass, and by a single one if there is no other.
use Prim.Native.Nat.{ℕ, ◌+◌, ◌≤◌, ◌<◌}
use mathlib.Core.Path.{◌≡◌, refl, sym, ap, ◌∙◌}
use mathlib.Core.Bool.{Bool, true, false, false≢true, ◌&&◌}
use mathlib.Core.List.{List}
use native.Mathlib.Omega.{arith}
use native.Mathlib.Decide.{dec_lt}
use lib.Dec.{eqb}
use borrow.Author.Tests.{eq-eqb, eqb-true}
use Rattle.common.specs.Lists.{at}
use Rattle.common.specs.BoolLaws.{and_cases, and_both, same_test}
use Rattle.edge_index.specs.Spans.{Listed}
use Rattle.vertices.specs.Steps.{leads, edges_in}
use Rattle.vertices.specs.StepLaws.{some_listed, listed_some}

module _ (starts ends : List ℕ) {n : ℕ} {labels : List ℕ} {l first stop : ℕ} {place : ℕ → ℕ} (listed : Listed n labels l first stop place)
    (x : ℕ) where
  abbrev led : (ℕ → Bool) → Bool
  led P = leads (edges_in n labels starts ends) 1 2 l P x

  -- the edge at position p leads from x to where P holds; none does
  pub some_leads : (P : ℕ → Bool) (p : ℕ) → first ≤ p → p < stop → at starts (place p) ≡ x → P (at ends (place p)) ≡ true → led P ≡ true
  some_leads P p f s e t =
      listed_some starts ends listed (λ e. eqb (at e 1) x && P (at e 2)) p f s
      (and_both (eqb (at starts (place p)) x) (P (at ends (place p))) (eq-eqb (at starts (place p)) x e) t)

  pub none_leads : (P : ℕ → Bool) → ((p : ℕ) → first ≤ p → p < stop → at starts (place p) ≡ x → P (at ends (place p)) ≡ false) → led P ≡ false
  none_leads P h = go (led P) refl
    where
      go : (b : Bool) → led P ≡ b → led P ≡ false
      go false e = e
      go true e =
          let (p, f, s, t) = some_listed starts ends listed (λ e. eqb (at e 1) x && P (at e 2)) e in
          let (m, t) = and_cases (eqb (at starts (place p)) x) (P (at ends (place p))) t in
          absurd (false≢true (sym (h p f s (eqb-true (at starts (place p)) x m)) ∙ t))

  -- no edge but that at position p starts at x
  pub one_leads : (P : ℕ → Bool) (p : ℕ) → first ≤ p → p < stop → at starts (place p) ≡ x
      → ((q : ℕ) → first ≤ q → q < p → at starts (place q) ≡ x → ⊥) → ((q : ℕ) → p + 1 ≤ q → q < stop → at starts (place q) ≡ x → ⊥)
      → led P ≡ P (at ends (place p))
  one_leads P p f s here below above =
      same_test (led P) (P (at ends (place p))) (
        λ t. let (q, a, b, u) = some_listed starts ends listed (λ e. eqb (at e 1) x && P (at e 2)) t in
            let (m, u) = and_cases (eqb (at starts (place q)) x) (P (at ends (place q))) u in
            ap (λ (k : ℕ). P (at ends (place k))) (sym (only q a b (eqb-true (at starts (place q)) x m))) ∙ u,
        some_leads P p f s here,
      )
    where
      only : (q : ℕ) → first ≤ q → q < stop → at starts (place q) ≡ x → q ≡ p
      only q a b m = elim (dec_lt q p) [
        | yes d ↦ absurd (below q a d m)
        | no d ↦ elim (dec_lt p q) [
          | yes d' ↦ absurd (above q (omega arith) b m)
          | no d' ↦ omega arith
        ]
      ]
