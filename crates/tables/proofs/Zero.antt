-- Places of columns that hold a value, as a loop goes through them.
use Prim.Native.Nat.{ℕ, ◌+◌, ◌≤◌, ◌<◌}
use mathlib.Core.Path.{◌≡◌, refl, sym, ◌∙◌, ap}
use mathlib.Core.Bool.{Bool, true, ◌&&◌, and_assoc}
use mathlib.Core.List.{List, ◌∷◌}
use lib.ListN.{length, drop, get_or, drop_of_length-le}
use Rattle.std.proofs.lemmas.List.{drop_more}
use Rattle.common.specs.Lists.{every}
use Rattle.common.specs.BoolLaws.{and_true}

-- the places from n to i have been found to pass or not
pub record Joined {A : Type 0} (p : A → Bool) (c : List A) (n : ℕ) (bit : Bool) (i : ℕ) : Type 0 where
  pub same : every p (drop n c) ≡ (bit && every p (drop i c))

module _ {A : Type 0} {p : A → Bool} {c : List A} {n : ℕ} where
  pub joined_none : Joined p c n true n
  joined_none = record { same = refl }

  pub joined_more : {bit b : Bool} {i : ℕ} {x : A} → Joined p c n bit i → i < length c → x ≡ get_or c i x → b ≡ p x
      → Joined p c n (bit && b) (i + 1)
  joined_more {bit} {b} {i} {x} f l e q =
      record {
        same = f.same ∙ ap (λ (d : List A). bit && every p d) (drop_more c i x l ∙ (λ j. sym e j ∷ drop (i + 1) c))
            ∙ (λ j. bit && (sym q j && every p (drop (i + 1) c)))
            ∙ sym (and_assoc bit b (every p (drop (i + 1) c)));
      }

  pub joined_end : {bit : Bool} {i : ℕ} → Joined p c n bit i → length c ≤ i → bit ≡ every p (drop n c)
  joined_end {bit} f l = sym (f.same ∙ ap (λ (d : List A). bit && every p d) (drop_of_length-le c l) ∙ and_true bit)
