-- What a conjunction or a disjunction of tests says.
use Rattle.std.specs.Prelude.{◌≡◌, refl, ◌⊎◌, ◌↔◌, Bool, true, false, ◌&&◌, ◌||◌}
use Rattle.std.proofs.Common.{sym, ◌∙◌, inl, inr}
use Rattle.std.proofs.lemmas.Bool.{false≢true}

pub and_cases : (x y : Bool) → x && y ≡ true → (x ≡ true) × (y ≡ true)
and_cases true y e = (refl, e)
and_cases false y e = absurd (false≢true e)

pub and_both : (x y : Bool) → x ≡ true → y ≡ true → x && y ≡ true
and_both true y e f = f
and_both false y e f = absurd (false≢true e)

pub and_false : (x : Bool) → x && false ≡ false
and_false true = refl
and_false false = refl

pub and_true : (x : Bool) → x && true ≡ x
and_true true = refl
and_true false = refl

pub or_cases : (x y : Bool) → x || y ≡ true → (x ≡ true) ⊎ (y ≡ true)
or_cases true y e = inl refl
or_cases false y e = inr e

pub or_left : (x y : Bool) → x ≡ true → x || y ≡ true
or_left true y e = refl
or_left false y e = absurd (false≢true e)

pub or_right : (x y : Bool) → y ≡ true → x || y ≡ true
or_right true y e = refl
or_right false y e = e

pub or_none : (x y : Bool) → x || y ≡ false → (x ≡ false) × (y ≡ false)
or_none true y e = absurd (false≢true (sym e))
or_none false y e = (refl, e)

pub or_left_only : (x y : Bool) → y ≡ false → x || y ≡ true → x ≡ true
or_left_only true y e f = refl
or_left_only false y e f = absurd (false≢true (sym e ∙ f))

-- tests that are passed together are the same
pub same_test : (x y : Bool) → (x ≡ true ↔ y ≡ true) → x ≡ y
same_test true true h = refl
same_test true false h = sym (h.0 refl)
same_test false true h = h.1 refl
same_test false false h = refl
