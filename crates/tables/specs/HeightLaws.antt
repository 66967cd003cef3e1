-- Heights kept beside the formulas of three columns, as a loop goes through them.
use Prim.Native.Nat.{ℕ, zero, suc, ◌+◌, ◌≤◌, ◌<◌}
use Rattle.std.specs.Prelude.{◌≡◌, refl, Bool, List, length, set, replicate, eqb}
use Rattle.std.proofs.Common.{sym, ◌∙◌, add-one, get_or-set_other, eq-eqb, ne_eqb}
use Rattle.std.proofs.Math.Path.{ap}
use Rattle.std.proofs.Math.Bool.{true, false, cond}
use native.Mathlib.Omega.{arith}
use Rattle.std.proofs.Math.Decide.{ℕ_discrete}
use Rattle.std.proofs.Math.ListN.{length-set}
use Rattle.std.proofs.Math.Seq.{get_or-set_same}
use Rattle.common.specs.ListLaws.{zero_at}
use Rattle.common.specs.Limits.{most_formulas}
use Rattle.common.specs.Lists.{at}
use Rattle.rows.specs.Op.{Op, op_of, height_of}
use Rattle.tables.specs.Height.{height_in}

height_most : (o : Op) (a b n : ℕ) (part : ℕ → ℕ) → ((g : ℕ) → part g ≤ n) → height_of o a b part ≤ suc n
height_most Op.always a b n part h = omega arith
height_most Op.requestor a b n part h = omega arith
height_most Op.object a b n part h = omega arith
height_most Op.role a b n part h = omega arith
height_most Op.negation a b n part h = omega (arith, h a)
height_most Op.conjunction a b n part h = omega (arith, h a, h b)
height_most Op.disjunction a b n part h = omega (arith, h a, h b)
height_most Op.forward a b n part h = omega (arith, h b)
height_most Op.backward a b n part h = omega (arith, h b)
height_most Op.keeping a b n part h = omega (arith, h b)
height_most Op.in_slot a b n part h = omega arith
height_most Op.at_slot a b n part h = omega (arith, h b)
height_most Op.unknown a b n part h = omega arith

-- the heights of the formulas below i
pub record Heights (ops lefts rights heights : List ℕ) (i : ℕ) : Type 0 where
  pub size : length heights ≡ most_formulas
  pub each : (g : ℕ) → at heights g ≡ height_in ops lefts rights i g

module _ (ops lefts rights : List ℕ) where
  pub heights_none : Heights ops lefts rights (replicate most_formulas 0) 0
  unfolding height_in
  heights_none = record { size = refl; each = λ g. zero_at most_formulas g }

  -- a formula below n has a height of at most n
  height_le : (n g : ℕ) → height_in ops lefts rights n g ≤ n
  unfolding height_in
  height_le zero g = omega arith
  height_le (suc n) g = go (eqb g n) (height_le n)
    where
      go : (x : Bool) → ((f : ℕ) → height_in ops lefts rights n f ≤ n)
          → cond x (height_of (op_of (at ops g)) (at lefts g) (at rights g) (height_in ops lefts rights n)) (height_in ops lefts rights n g)
          ≤ suc n
      go true h = height_most (op_of (at ops g)) _ _ n (height_in ops lefts rights n) h
      go false h = omega (arith, h g)

module _ {ops lefts rights heights : List ℕ} {i : ℕ} (h : Heights ops lefts rights heights i) where
  pub heights_low : i ≤ most_formulas → (g : ℕ) → at heights g < 255
  heights_low l g = omega (arith, h.each g, height_le ops lefts rights i g)

  -- the height of the formula at i, from the heights below it
  pub height_here : {x : ℕ} (op a b : ℕ) → x ≡ height_of (op_of op) a b (at heights)
      → x ≡ height_of (op_of op) a b (height_in ops lefts rights i)
  height_here op a b e = e ∙ (λ j. height_of (op_of op) a b (λ g. h.each g j))

  pub heights_more : {x : ℕ} → i < most_formulas → x ≡ height_of (op_of (at ops i)) (at lefts i) (at rights i) (height_in ops lefts rights i)
      → Heights ops lefts rights (set heights i x) (i + 1)
  unfolding height_in
  heights_more {x} l e =
      record {
        size = length-set heights i x ∙ h.size;
        each = λ g. go g (ℕ_discrete g i) ∙ ap (λ (n : ℕ). height_in ops lefts rights n g) (sym (add-one i));
      }
    where
      go : (g : ℕ) → Dec (g ≡ i) → at (set heights i x) g
          ≡ cond (eqb g i) (height_of (op_of (at ops g)) (at lefts g) (at rights g) (height_in ops lefts rights i))
          (height_in ops lefts rights i g)
      go g (yes p) =
          rw (eq-eqb g i p) (ap (at (set heights i x)) p ∙ get_or-set_same heights i x 0 (omega (arith, h.size)) ∙ e
          ∙ (λ j. height_of (op_of (at ops (sym p j))) (at lefts (sym p j)) (at rights (sym p j)) (height_in ops lefts rights i)))
      go g (no q) = rw (ne_eqb g i q) (get_or-set_other heights i g x 0 q ∙ h.each g)
