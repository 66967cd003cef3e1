-- The loop of `related`: after e pairs the relation is what these pairs make.
-- A pair is put in, or passed over where it names a thing beyond those that there are.
use Prim.Native.Nat.{ℕ, ◌+◌, ◌≤◌, ◌<◌}
use mathlib.Core.Path.{◌≡◌, refl, sym, ◌∙◌, ap, subst₂}
use mathlib.Core.Logic.{◌⊎◌, inl, inr, ⊎_elim}
use mathlib.Core.Bool.{Bool, true, false, false≢true}
use mathlib.Core.List.{List, []}
use native.Mathlib.Omega.{arith}
use lib.ListN.{length, get_or, replicate, get_or-replicate}
use Rattle.common.specs.Limits.{most_related}
use Rattle.common.specs.Lists.{at}
use Rattle.closure.specs.Closure.{On, pairs_of, Relates}
use Rattle.closure.proofs.ClosureFact.{pairs_more}
use Rattle.closure.proofs.Square.{Square, put, square_put, with_put}

pub record Relating (firsts seconds : List ℕ) (e : ℕ) (m : List (List Bool)) : Type 0 where
  pub square : Square most_related m
  pub made : Relates (pairs_of e firsts seconds) m

abbrev no_cells : List Bool
no_cells = replicate most_related false

-- no two things are related
none_on : (i j : ℕ) → i < most_related → j < most_related → get_or (get_or (replicate most_related no_cells) i []) j false ≡ false
none_on i j li lj =
    ap (λ (r : List Bool). get_or r j false) (get_or-replicate most_related i no_cells [] li) ∙ get_or-replicate most_related j false false lj

pub relating_none : (firsts seconds : List ℕ) → Relating firsts seconds 0 (replicate most_related no_cells)
relating_none firsts seconds =
    record {
      square = record { rows = refl; cells = λ x l. ap (λ (r : List Bool). length r) (get_or-replicate most_related x no_cells [] l) };
      made = λ i j li lj. (λ p. absurd (false≢true (sym (none_on i j li lj) ∙ p)), λ l. absurd l);
    }

module _ {firsts seconds : List ℕ} {e : ℕ} {m : List (List Bool)} (h : Relating firsts seconds e m) where
  relating_at : at firsts e < most_related → at seconds e < most_related
      → Relating firsts seconds (e + 1) (put m (at firsts e) (at seconds e) true)
  relating_at la lb =
      record {
        square = square_put h.square (at firsts e) (at seconds e) la lb true;
        made = λ i j li lj.
            let w = with_put h.square (at firsts e) (at seconds e) la lb in
            let p = pairs_more e firsts seconds i j in
            let q = h.made i j li lj in (
              λ r. p.1 (⊎_elim (λ x. inl (q.0 x)) (λ x. inr (sym x.0, sym x.1)) (w.only i j r)),
              λ l. ⊎_elim
                  (λ x. w.kept i j (q.1 x))
                  (λ x. subst₂ (On (put m (at firsts e) (at seconds e) true)) x.0 x.1 w.added)
                  (p.0 l),
            );
      }

  pub relating_put : {a b : ℕ} → a ≡ at firsts e → b ≡ at seconds e → a < most_related → b < most_related
      → Relating firsts seconds (e + 1) (put m a b true)
  relating_put p q la lb =
      subst₂ (λ (x y : ℕ). Relating firsts seconds (e + 1) (put m x y true)) (sym p) (sym q) (relating_at (omega arith) (omega arith))

  pub relating_over : (most_related ≤ at firsts e) ⊎ (most_related ≤ at seconds e) → Relating firsts seconds (e + 1) m
  relating_over over =
      record {
        square = h.square;
        made = λ i j li lj.
            let p = pairs_more e firsts seconds i j in
            let q = h.made i j li lj in (
              λ r. p.1 (inl (q.0 r)),
              λ l. ⊎_elim q.1 (λ x. absurd (⊎_elim (λ o. let y = x.0 in omega arith) (λ o. let y = x.1 in omega arith) over)) (p.0 l),
            );
      }
