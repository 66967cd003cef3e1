-- Laws of the steps: the memo's lengths, one principal more, and that what is chosen rests on the truth of the principals' formulas alone.
use Prim.Native.Nat.{ℕ, zero, suc, ◌+◌, ◌<◌}
use Rattle.std.specs.Prelude.{◌≡◌, Bool, true, false, ◌&&◌, eqb}
use Rattle.std.proofs.Math.Path.{refl, ap}
use Rattle.std.proofs.Math.Bool.{not, cond}
use mathlib.Core.List.{List, [], ◌∷◌, ◌++◌}
use Rattle.std.proofs.Math.Option.{Option, none, some}
use Rattle.std.proofs.Common.{◌∙◌, arith, add-one}
use Rattle.common.specs.Lists.{at, every, those, below}
use Rattle.common.specs.Sets.{member}
use Rattle.policy.specs.declared.Record.{Record}
use Rattle.policy.specs.declared.Memo.{Memo}
use Rattle.policy.specs.Table.{Kind, formula, emptied}
use Rattle.policy.specs.Loadable.{table_loads}
use Rattle.policy.specs.LoadableLaws.{table_few}
use Rattle.justification.specs.declared.Question.{Question}
use Rattle.justification.specs.Justification.{members, candidates, least}
use Rattle.policy.specs.NamedLaws.{principal_named}
use Rattle.memo.specs.Memo.{known, value, noted, evaluated, memo_for}
use Rattle.memo.specs.Walk.{formula_of, evaluated_all, Weighed, ends, tried, known_false, after_weighing, try_next, searching}
use Rattle.memo.specs.AllLaws.{All, all_those, all_below, every_ext, first_ext}
use Rattle.memo.specs.WalkLaws.{MemoLengths, FormulasInMemo}

-- ---- lists

-- the least set depends only on which principals pass
pub least_all : (r : Record) (k : ℕ) (a b : ℕ → Bool) → All (λ p. a p ≡ b p) (below r.principal_count) → least r k a ≡ least r k b
unfolding least
least_all r k a b h =
    first_ext (λ c. every a (members r c)) (λ c. every b (members r c)) (candidates r k)
    (λ c. every_ext a b (members r c) (all_those (λ p. a p ≡ b p) (λ p. member p c) (below r.principal_count) h))

pub least_ext : (r : Record) (k : ℕ) (a b : ℕ → Bool) → ((p : ℕ) → p < r.principal_count → a p ≡ b p) → least r k a ≡ least r k b
least_ext r k a b h = least_all r k a b (all_below (λ p. a p ≡ b p) r.principal_count h)

-- ---- the memo

-- every principal of a record whose tables load names a formula that has a place
pub formulas_in_memo : (r : Record) → ((j : Kind) → table_loads r j ≡ true) → FormulasInMemo r
formulas_in_memo r loads p l = let (f, d) = principal_named r loads p l in let few = table_few r formula (loads formula) in omega arith

pub lengths_for : (m : Memo) (q : Question) → MemoLengths m → MemoLengths (memo_for m q)
unfolding memo_for emptied
lengths_for m q h = go (eqb m.object q.object && eqb m.requestor q.requestor)
  where
    go : (b : Bool) → MemoLengths (cond b m (emptied q.object q.requestor))
    go true = h
    go false = record { knowns = refl; values = refl }

-- one principal more, as a loop goes
pub evaluated_more : (truth : ℕ → Bool) (r : Record) (m : Memo) (n : ℕ)
    → evaluated_all truth r m (below (n + 1)) ≡ evaluated truth (evaluated_all truth r m (below n)) (formula_of r n)
unfolding evaluated_all
evaluated_more truth r m n = rw add-one (go m (below n))
  where
    go : (k : Memo) (l : List ℕ) → evaluated_all truth r k (l ++ (n ∷ [])) ≡ evaluated truth (evaluated_all truth r k l) (formula_of r n)
    go k [] = refl
    go k (p ∷ l) = go (evaluated truth k (formula_of r p)) l

-- ---- of a record the steps read its principals alone

module _ (truth : ℕ → Bool) (r s : Record) (formulas : r.principal_formulas ≡ s.principal_formulas) where
  list_evaluated_alike : (ps : List ℕ) (m : Memo) → evaluated_all truth r m ps ≡ evaluated_all truth s m ps
  unfolding evaluated_all
  list_evaluated_alike [] m = refl
  list_evaluated_alike (p ∷ ps) m =
      ap (λ (l : List ℕ). evaluated_all truth r (evaluated truth m (at l p)) ps) formulas
      ∙ list_evaluated_alike ps (evaluated truth m (formula_of s p))

  list_tried_alike : (ps : List ℕ) (m : Memo) → tried truth r m ps ≡ tried truth s m ps
  unfolding tried
  list_tried_alike [] m = refl
  list_tried_alike (p ∷ ps) m =
      ap (λ (l : List ℕ). cond (value (evaluated truth m (at l p)) (at l p)) (tried truth r (evaluated truth m (at l p)) ps)
      (ends (evaluated truth m (at l p)))) formulas
      ∙ ap (λ (w : Weighed). cond (value n (formula_of s p)) w (ends n)) (list_tried_alike ps n)
    where
      n : Memo
      n = evaluated truth m (formula_of s p)

  module _ (count : r.principal_count ≡ s.principal_count) where
    pub evaluated_alike : (m : Memo) → evaluated_all truth r m (below r.principal_count) ≡ evaluated_all truth s m (below s.principal_count)
    evaluated_alike m = ap (λ (n : ℕ). evaluated_all truth r m (below n)) count ∙ list_evaluated_alike (below s.principal_count) m

    pub tried_alike : (m : Memo) (c : ℕ) → tried truth r m (members r c) ≡ tried truth s m (members s c)
    tried_alike m c = ap (λ (n : ℕ). tried truth r m (those (λ p. member p c) (below n))) count ∙ list_tried_alike (members s c) m

-- ---- truth matters only at the principals' formulas

module _ (t u : ℕ → Bool) (r : Record) where
  -- both say the same of a principal's formula
  abbrev AtOne : ℕ → Type 0
  AtOne p = t (formula_of r p) ≡ u (formula_of r p)

  one_ext : (m : Memo) (f : ℕ) → t f ≡ u f → evaluated t m f ≡ evaluated u m f
  unfolding evaluated
  one_ext m f e = ap (λ (b : Bool). cond (known m f) m (noted m f b)) e

  list_evaluated_ext : (ps : List ℕ) (m : Memo) → All AtOne ps → evaluated_all t r m ps ≡ evaluated_all u r m ps
  unfolding evaluated_all
  list_evaluated_ext [] m a = refl
  list_evaluated_ext (p ∷ ps) m a = rw (one_ext m (formula_of r p) a.0) (list_evaluated_ext ps (evaluated u m (formula_of r p)) a.1)

  list_tried_ext : (ps : List ℕ) (m : Memo) → All AtOne ps → tried t r m ps ≡ tried u r m ps
  unfolding tried
  list_tried_ext [] m a = refl
  list_tried_ext (p ∷ ps) m a =
      rw (one_ext m (formula_of r p) a.0)
      (ap (λ (w : Weighed). cond (value n (formula_of r p)) w (ends n)) (list_tried_ext ps n a.1))
    where
      n : Memo
      n = evaluated u m (formula_of r p)

  module _ (same : (p : ℕ) → p < r.principal_count → t (formula_of r p) ≡ u (formula_of r p)) where
    pub evaluated_ext : (m : Memo) → evaluated_all t r m (below r.principal_count) ≡ evaluated_all u r m (below r.principal_count)
    evaluated_ext m = list_evaluated_ext (below r.principal_count) m (all_below AtOne r.principal_count same)

    pub tried_ext : (m : Memo) (c : ℕ) → tried t r m (members r c) ≡ tried u r m (members r c)
    tried_ext m c =
        list_tried_ext (members r c) m
        (all_those AtOne (λ p. member p c) (below r.principal_count) (all_below AtOne r.principal_count same))

    pub searching_ext : (n k : ℕ) (m : Memo) → searching n t r k m ≡ searching n u r k m
    unfolding searching
    searching_ext zero k m = refl
    searching_ext (suc n) k m = go (least r k (λ p. not (known_false r m p))) (searching_ext n k)
      where
        go : (o : Option ℕ) → ((x : Memo) → searching n t r k x ≡ searching n u r k x)
            → try_next t r m o (searching n t r k) ≡ try_next u r m o (searching n u r k)
        go none ih = refl
        go (some c) ih = λ j. after_weighing c (tried_ext m c j) (λ x. ih x j)
