-- What the answer of a search says, case by case; no two cases have one number.
use Rattle.std.specs.Prelude.{◌≡◌, ℕ, ◌≢◌, Option, Some, None, refl}
use Rattle.std.proofs.Common.{sym, ap, subst, arith}
use Rattle.search.specs.Answers.{FoundValues, granted, denied, found_values, GrantedOrDenied}
use Rattle.search.specs.Answers.GrantedOrDenied.{grants, denies}

granted_not : {s : ℕ} → granted s ≢ denied
granted_not e = let z = ap (λ (v : FoundValues). v.number) e in omega arith

-- the number and set say which answer it is
pub same_found : (f g : Option ℕ) → found_values f ≡ found_values g → f ≡ g
same_found (Some s) (Some t) e = ap (λ (v : FoundValues). Some v.set) e
same_found (Some s) None e = absurd (granted_not e)
same_found None (Some t) e = absurd (granted_not (sym e))
same_found None None e = refl

-- what an answer in one of its cases says
module _ {P : ℕ → Type 0} {Q : Type 0} where
  pub found_set : {s : ℕ} → GrantedOrDenied P Q (granted s) → P s
  found_set (grants t q p) = subst P (ap (λ (v : FoundValues). v.set) (sym q)) p
  found_set (denies q p) = absurd (granted_not q)

  pub found_nothing : GrantedOrDenied P Q denied → Q
  found_nothing (grants t q p) = absurd (granted_not (sym q))
  found_nothing (denies q p) = p
