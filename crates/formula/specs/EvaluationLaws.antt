-- What the evaluation answers on a record's columns is what the record's formulas mean.
use Prim.Native.Nat.{ℕ, zero, suc, ◌<◌, ◌≤◌}
use Rattle.std.specs.Prelude.{◌≡◌, false}
use Rattle.std.proofs.Math.Path.{refl, ap}
use Rattle.std.proofs.Common.{sym, ◌∙◌, arith, eq-or-lt_of_le, le_of_suc-le-suc, ne_eqb}
use Rattle.std.proofs.Math.Logic.{⊎_elim}
use Rattle.common.specs.Limits.{most_formulas}
use Rattle.common.specs.Sets.{member}
use Rattle.policy.specs.declared.Record.{Record}
use Rattle.policy.specs.Table.{edge, rows}
use Rattle.formula.specs.Formula.{Context, Formulas, all_unset, holds_role, true_below, formulas_of, holds_on, holds}
use Rattle.formula.specs.Evaluation.{context_of, true_at_object, holds_role_in}

module _ (fs : Formulas) where
  -- a formula at or above n is false; below n it is the same for any larger n
  pub below_out : (c : Context) (n f v : ℕ) → n ≤ f → true_below fs c n f v ≡ false
  unfolding true_below
  below_out c zero f v h = refl
  below_out c (suc n) f v h = rw (ne_eqb f n (λ e. omega arith)) (below_out c n f v (omega arith))

  pub below_in : (c : Context) (n m f v : ℕ) → f < n → n ≤ m → true_below fs c m f v ≡ true_below fs c n f v
  unfolding true_below
  below_in c n zero f v l h = absurd (omega arith)
  below_in c n (suc m) f v l h =
      ⊎_elim
      (λ e. ap (λ (k : ℕ). true_below fs c k f v) (sym e))
      (λ k. rw (ne_eqb f m (λ e. omega arith)) (below_in c n m f v l (le_of_suc-le-suc k)))
      (eq-or-lt_of_le h)

-- the roles found in a record's user columns are those that the requestor holds
pub role_held : (r : Record) (s a : ℕ) → holds_role_in r.user_count r.user_objects r.user_roles s a ≡ holds_role r s a
role_held r s a = refl

-- THE LAW: `true_at_object`, on the columns of a record with at most 64 formulas, says what the record's formula means
pub true_at_holds : (r : Record) (f o s roles : ℕ) → ((a : ℕ) → member a roles ≡ holds_role r s a)
    → f < r.formula_count → r.formula_count ≤ most_formulas → true_at_object r roles o s f ≡ holds r f o o s
unfolding holds holds_on
true_at_holds r f o s roles held l few =
    below_in (formulas_of r) (context_of roles o s (rows edge r)) r.formula_count most_formulas f o l few
    ∙ (λ j. true_below (formulas_of r)
    (record { roles = λ a. held a j; edges = rows edge r; object = o; requestor = s; slots = all_unset })
    r.formula_count f o)
