-- Sets gathered index by index, as `set_of`'s loop goes, and what they are where the test decides something.
use Rattle.std.proofs.Common.{ℕ, ◌+◌, ◌^◌, ◌<◌, ◌≡◌, ◌⊎◌, inl, inr, Bool, true, false, cond, List, refl, sym, subst, ⊎_elim, eq-or-lt_of_le, arith, length}
use Rattle.std.proofs.Math.ListN.{set}
use Rattle.std.proofs.Math.Seq.{get_or-set_same, get_or-set_other}
use Rattle.std.specs.Int.Bits.{bit_or}
use Rattle.common.specs.Lists.{at}
use Rattle.common.specs.Sets.{In}
use Rattle.common.specs.SetLaws.{in_or_l, in_or_r, or_in, in_pow, pow_in}
use Rattle.search.specs.Steps.{Decides}
use Rattle.justification.specs.MarkedSets.{SetOf, Marks, Those}

-- a number below i + 1 is i, or below i
last : (p i : ℕ) → p < i + 1 → (p ≡ i) ⊎ (p < i)
last p i l = eq-or-lt_of_le {n = p} {m = i} (omega arith)

-- ---- the loop of `set_of`

pub set_of_more : {answers : ℕ → Bool → Type 0} {i s : ℕ} → SetOf answers i s → answers i true → SetOf answers (i + 1) (bit_or s (2 ^ i))
set_of_more {answers} {i} {s} h a = record {
  only = λ p m. ⊎_elim
      (λ x. let (l, q) = h.only p x in (omega arith, q))
      (λ x. let q = pow_in i x in (omega arith, subst (λ (n : ℕ). answers n true) (sym q) a))
      (or_in s (2 ^ i) m);
  all = λ p l. ⊎_elim
      (λ e. inl (in_or_r s (subst (λ (n : ℕ). In n (2 ^ i)) (sym e) (in_pow i))))
      (λ u. ⊎_elim (λ m. inl (in_or_l (2 ^ i) m)) (λ q. inr q) (h.all p u))
      (last p i l);
}

pub set_of_skip : {answers : ℕ → Bool → Type 0} {i s : ℕ} → SetOf answers i s → answers i false → SetOf answers (i + 1) s
set_of_skip {answers} {i} {s} h a = record {
  only = λ p m. let (l, q) = h.only p m in (omega arith, q);
  all = λ p l. ⊎_elim
      (λ e. inr (subst (λ (n : ℕ). answers n false) (sym e) a))
      (λ u. h.all p u)
      (last p i l);
}

pub set_of_next : {answers : ℕ → Bool → Type 0} {i s : ℕ} (b : Bool) → SetOf answers i s → answers i b
    → SetOf answers (i + 1) (cond b (bit_or s (2 ^ i)) s)
set_of_next true h a = set_of_more h a
set_of_next false h a = set_of_skip h a

-- ---- a set by a test that decides something

-- a test that answers by t
pub set_marks : {answers : ℕ → Bool → Type 0} {n s : ℕ} {t : ℕ → Bool} → SetOf answers n s
    → ((p : ℕ) (b : Bool) → p < n → answers p b → b ≡ t p) → Marks n t s
set_marks {answers} {n} {s} {t} h f = record {
  only = λ p m. let (l, a) = h.only p m in (l, sym (f p true l a));
  all = λ p l e. ⊎_elim (λ m. m) (λ a. let c : false ≡ t p = f p false l a in cc) (h.all p l);
}

-- a test that decides whether P
pub set_those : {answers : ℕ → Bool → Type 0} {n s : ℕ} {P : ℕ → Type 0} → SetOf answers n s
    → ((p : ℕ) (b : Bool) → p < n → answers p b → Decides b (P p)) → Those n P s
set_those {answers} {n} {s} {P} h f = record {
  only = λ p m. let (l, a) = h.only p m in (l, (f p true l a).yes refl);
  all = λ p l q. ⊎_elim (λ m. m) (λ a. absurd ((f p false l a).no refl q)) (h.all p l);
}

-- ---- a table filled index by index: what holds of each index below j

pub stored : (P : ℕ → ℕ → Type 0) (l : List ℕ) (j v : ℕ) → j < length l → ((k : ℕ) → k < j → P k (at l k)) → P j v → (k : ℕ) → k < j + 1
    → P k (at (set l j v) k)
stored P l j v h f x k b =
    ⊎_elim
    (λ e. subst (λ (n : ℕ). P n (at (set l j v) n)) (sym e) (subst (P j) (sym (get_or-set_same l j v 0 h)) x))
    (λ u. subst (P k) (sym (get_or-set_other l j k v 0 (λ q. omega arith))) (f k u))
    (last k j b)
