-- Some edge of a list passes a test exactly where there is one in it that does; of edges in columns, at one of the positions of its label.
use Rattle.std.specs.Prelude.{ℕ, ◌≤◌, ◌<◌, ◌≡◌, Bool, true, ◌&&◌, List, [], ◌∷◌, eqb}
use Rattle.std.proofs.Common.{sym, ◌∙◌, ap, ⊎_elim, eqb-true, eq-eqb}
use Rattle.std.proofs.lemmas.Bool.{false≢true}
use Rattle.common.specs.ListLaws.{same_is, same_self}
use Rattle.common.specs.Lists.{at, any, same}
use Rattle.common.specs.BoolLaws.{and_cases, and_both, or_cases, or_left, or_right, same_test}
use Rattle.common.specs.QuantifierLaws.{any_table, table_any}
use Rattle.edge_index.specs.Spans.{Listed}
use Rattle.vertices.specs.Steps.{edges_in}

module _ (p : List ℕ → Bool) where
  -- some edge passes: it is one of them
  pub some_edge : (es : List (List ℕ)) → any p es ≡ true → (e : List ℕ) × ((any (same e) es ≡ true) × (p e ≡ true))
  some_edge [] h = absurd (false≢true h)
  some_edge (e ∷ es) h =
      ⊎_elim
      (λ t. (e, (or_left (same e e) (any (same e) es) (same_self e), t)))
      (λ t. let x = some_edge es t in (x.0, (or_right (same x.0 e) (any (same x.0) es) x.1.0, x.1.1)))
      (or_cases (p e) (any p es) h)

  pub edge_some : (es : List (List ℕ)) (e : List ℕ) → any (same e) es ≡ true → p e ≡ true → any p es ≡ true
  edge_some [] e h t = absurd (false≢true h)
  edge_some (f ∷ es) e h t =
      ⊎_elim
      (λ s. or_left (p f) (any p es) (ap p (sym (same_is e f s)) ∙ t))
      (λ s. or_right (p f) (any p es) (edge_some es e s t))
      (or_cases (same e f) (any (same e) es) h)

  pub same_any : (es fs : List (List ℕ)) → ((e : List ℕ) → any (same e) es ≡ any (same e) fs) → any p es ≡ any p fs
  same_any es fs h =
      same_test (any p es) (any p fs) (
        (λ t. let x = some_edge es t in edge_some fs x.0 (sym (h x.0) ∙ x.1.0) x.1.1),
        (λ t. let x = some_edge fs t in edge_some es x.0 (h x.0 ∙ x.1.0) x.1.1),
      )

-- the edge at a place of the columns
abbrev pub edge_in : List ℕ → List ℕ → List ℕ → ℕ → List ℕ
edge_in labels from to k = at labels k ∷ at from k ∷ at to k ∷ []

-- edges of a label that pass a test, by the positions at which they are listed
module _ (from to : List ℕ) {n : ℕ} {labels : List ℕ} {l first stop : ℕ} {place : ℕ → ℕ} (listed : Listed n labels l first stop place)
    (t : List ℕ → Bool) where
  pub some_listed : any (λ e. eqb (at e 0) l && t e) (edges_in n labels from to) ≡ true
      → (p : ℕ) × (first ≤ p) × (p < stop) × (t (edge_in labels from to (place p)) ≡ true)
  some_listed h =
      let (i, m, u) = any_table (λ e. eqb (at e 0) l && t e) (edge_in labels from to) n h in
      let (a, b) = and_cases (eqb (at labels i) l) (t (edge_in labels from to i)) u in
      let (p, (f, s, e)) = listed.each i m (eqb-true (at labels i) l a) in
      (p, f, s, ap (λ (k : ℕ). t (edge_in labels from to k)) e ∙ b)

  pub listed_some : (p : ℕ) → first ≤ p → p < stop → t (edge_in labels from to (place p)) ≡ true
      → any (λ e. eqb (at e 0) l && t e) (edges_in n labels from to) ≡ true
  listed_some p f s h =
      let (m, e) = listed.labelled p f s in
      table_any (λ e. eqb (at e 0) l && t e) (edge_in labels from to) n (place p) m
      (and_both (eqb (at labels (place p)) l) (t (edge_in labels from to (place p))) (eq-eqb (at labels (place p)) l e) h)
