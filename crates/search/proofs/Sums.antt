-- What the members of a set below p list, from p to p + 1, and that it meets the guard where the set does.
use Rattle.std.proofs.Common.{ℕ, ◌+◌, ◌^◌, ◌<◌, Bool, true, false, List, subst, ⊎_elim, eq-or-lt_of_le, arith}
use Rattle.std.specs.Int.Bits.{bit_or}
use Rattle.common.specs.Lists.{at}
use Rattle.common.specs.Sets.{In}
use Rattle.common.specs.SetLaws.{in_or_l, in_or_r, or_in, in_lt}
use Rattle.search.specs.declared.Masks.{Masks}
use Rattle.search.specs.Search.{Given, Met}
use Rattle.search.specs.Steps.{MetBy, Gathers}

module _ {s : ℕ} {lists : List ℕ} where
  pub gathers_more : {g : ℕ} (p : ℕ) → In p s → Gathers p s lists g → Gathers (p + 1) s lists (bit_or g (at lists p))
  gathers_more {g} p i h =
      record {
        only = λ k j. ⊎_elim
            (λ x. let v = h.only k x in (v.0, omega (arith, v.1), v.2, v.3))
            (λ x. (p, omega arith, i, x))
            (or_in g (at lists p) j);
        all = λ k q l j x. ⊎_elim
            (λ e. in_or_r g (subst (λ (z : ℕ). In k (at lists z)) e x))
            (λ u. in_or_l (at lists p) (h.all k q u j x))
            (eq-or-lt_of_le {n = q} {m = p} (omega arith));
      }

  pub gathers_skip : {g : ℕ} (p : ℕ) → (In p s → ⊥) → Gathers p s lists g → Gathers (p + 1) s lists g
  gathers_skip p f h =
      record {
        only = λ k j. let v = h.only k j in (v.0, omega (arith, v.1), v.2, v.3);
        all = λ k q l j x. ⊎_elim
            (λ e. absurd (f (subst (λ (z : ℕ). In z s) e j)))
            (λ u. h.all k q u j x)
            (eq-or-lt_of_le {n = q} {m = p} (omega arith));
      }

module _ (r : Masks) {s n g : ℕ} (h : Gathers n s r.grants g) where
  given : (k : ℕ) → In k g → Given r s k
  given k i = let v = h.only k i in record { giver = v.0; member = v.2; gives = v.3 }

  granted : s < 2 ^ n → (k : ℕ) → Given r s k → In k g
  granted l k v = h.all k v.giver (in_lt n v.member l) v.member v.gives

  pub met_by : (b : Bool) → s < 2 ^ n → Met b r s → MetBy b r.wanted g
  met_by true l f = λ k w. granted l k (f k w)
  met_by false l f = (f.0, f.1, granted l f.0 f.2)

  pub by_met : (b : Bool) → MetBy b r.wanted g → Met b r s
  by_met true f = λ k w. given k (f k w)
  by_met false f = (f.0, f.1, given f.0 f.2)
