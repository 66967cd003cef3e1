-- How many formulas are newly known.
use Rattle.std.specs.Prelude.{ℕ, zero, suc, ◌+◌, ◌≡◌, refl, Bool, true, false, not, cond, ◌&&◌, List, [], ◌∷◌, length, get_or, count_by, filter}
use Rattle.std.specs.List.{zip}
use Rattle.std.proofs.Common.{arith, sym, ◌∙◌, ap}
use Rattle.std.proofs.lemmas.List.Sums.{length-filter}
use Rattle.common.specs.Limits.{most_formulas}
use Rattle.common.specs.Lists.{those, below}
use Rattle.common.specs.ListLaws.{those_more}
use Rattle.policy.specs.declared.Memo.{Memo}
use Rattle.memo.specs.Memo.{newly}

-- of the numbers below n + 1: 0, and those that follow one that is below n
those_first : (p : ℕ → Bool) (n : ℕ) → length (those p (below (suc n))) ≡ cond (p 0) 1 0 + length (those (λ i. p (suc i)) (below n))
those_first p zero = go (p 0)
  where
    go : (b : Bool) → length {A = ℕ} (cond b (0 ∷ []) []) ≡ cond b 1 0 + 0
    go true = refl
    go false = refl
those_first p (suc n) = omega (arith, those_more p (suc n), those_first p n, those_more (λ i. p (suc i)) n)

-- what is true in a list and false in another that is as long, counted by places
counted_zip : (xs ys : List Bool) → length xs ≡ length ys
    → length (filter (λ x. x.0 && not x.1) (zip xs ys)) ≡ length (those (λ f. get_or xs f false && not (get_or ys f false)) (below (length xs)))
counted_zip [] [] e = refl
counted_zip [] (y ∷ ys) e = refl
counted_zip (x ∷ xs) [] e = absurd (omega (arith, e))
counted_zip (x ∷ xs) (y ∷ ys) e =
    go (x && not y) (counted_zip xs ys (omega (arith, e)))
    ∙ sym (those_first (λ f. get_or (x ∷ xs) f false && not (get_or (y ∷ ys) f false)) (length xs))
  where
    go : (b : Bool) → {n : ℕ} → length (filter (λ x. x.0 && not x.1) (zip xs ys)) ≡ n
        → length (cond b ((x, y) ∷ filter (λ x. x.0 && not x.1) (zip xs ys)) (filter (λ x. x.0 && not x.1) (zip xs ys))) ≡ cond b 1 0 + n
    go true e = omega (arith, e)
    go false e = omega (arith, e)

pub newly_counted : (before after : Memo) → length after.known ≡ most_formulas → length before.known ≡ most_formulas
    → count_by (λ x. x.0 && not x.1) (zip after.known before.known) ≡ newly before after
unfolding newly
newly_counted before after e d =
    sym (length-filter (λ x. x.0 && not x.1) (zip after.known before.known))
    ∙ counted_zip after.known before.known (e ∙ sym d)
    ∙ ap (λ (n : ℕ). length (those (λ f. get_or after.known f false && not (get_or before.known f false)) (below n))) e
