-- The roles of the requestor, joined line by line.
use Prim.Native.Nat.{ℕ, ◌+◌, ◌/◌, ◌%◌, ◌^◌, ◌<◌, max}
use mathlib.Core.Path.{◌≡◌, refl, sym, ◌∙◌, ap}
use mathlib.Core.Bool.{Bool, true, false, ◌&&◌, ◌||◌}
use mathlib.Core.List.{List, [], ◌∷◌}
use native.Mathlib.Nat.{div-eq_of_lt, lt_of_lt_of_le}
use native.Mathlib.Numerals.{add-one}
use native.Mathlib.Omega.{arith}
use native.Mathlib.Decide.{ℕ_discrete, dec_lt}
use lib.Pow.{pow_pos, pow_mono}
use lib.Bits.{bit_or}
use lib.Dec.{eqb, ltb}
use Rattle.std.specs.Bool.{if◌then◌else◌}
use borrow.Author.Tests.{eq-eqb, ne_eqb, lt-ltb, le-ltb}
use Rattle.common.specs.Lists.{at}
use Rattle.common.specs.ListLaws.{any_more}
use Rattle.common.specs.Sets.{member}
use Rattle.common.specs.SetLaws.{bit, bit_or_lem, bit_two}
use Rattle.formula.specs.Evaluation.{holds_role_in}

-- a number of 16 bits, halved so often, as `unbounded_shr` has it: it has no bit at 16 or above
pub halved : (x a : ℕ) → x < 65536 → (if ltb a 16 then x / 2 ^ a else 0) ≡ x / 2 ^ a
halved x a l = elim (dec_lt a 16) [
  | yes h ↦ rw (lt-ltb a 16 h) refl
  | no n ↦ rw (le-ltb a 16 (omega arith), div-eq_of_lt (lt_of_lt_of_le l (pow_mono {i = 16} {j = a} (omega arith)))) refl
]

-- nothing is a member of 0
pub member_none : (a : ℕ) → member a 0 ≡ false
member_none a = ap (λ (x : ℕ). eqb (x % 2) 1) (div-eq_of_lt (pow_pos a))

-- the members of an or are those of either
member_or : (a x y : ℕ) → member a (bit_or x y) ≡ (member a x || member a y)
member_or a x y = ap (λ (n : ℕ). eqb n 1) (bit_or_lem a x y) ∙ digits (bit a x) (bit a y) (bit_two a x) (bit_two a y)
  where
    digits : (x y : ℕ) → x < 2 → y < 2 → eqb (max x y) 1 ≡ (eqb x 1 || eqb y 1)
    digits x y l h = go (ℕ_discrete x 1) (ℕ_discrete y 1)
      where
        go : Dec (x ≡ 1) → Dec (y ≡ 1) → eqb (max x y) 1 ≡ (eqb x 1 || eqb y 1)
        go (yes e) d = eq-eqb (max x y) 1 (omega arith) ∙ sym (rw (eq-eqb x 1 e) refl)
        go (no n) (yes e) = eq-eqb (max x y) 1 (omega arith) ∙ sym (rw (ne_eqb x 1 n, eq-eqb y 1 e) refl)
        go (no n) (no m) = ne_eqb (max x y) 1 (λ e. omega arith) ∙ sym (rw (ne_eqb x 1 n, ne_eqb y 1 m) refl)

-- held has the roles that the first i user lines give the requestor s
pub record RolesBy (objects roles : List ℕ) (s held i : ℕ) : Type 0 where
  pub holds : (a : ℕ) → member a held ≡ holds_role_in i objects roles s a

pub roles_none : (objects roles : List ℕ) (s : ℕ) → RolesBy objects roles s 0 0
roles_none objects roles s = record { holds = λ a. member_none a }

-- one line more: its roles are joined, where it is the requestor's
module _ {objects roles : List ℕ} {s held i : ℕ} (h : RolesBy objects roles s held i) where
  one_more : {joined : ℕ} → ((a : ℕ) → member a joined ≡ (member a held || (eqb (at objects i) s && member a (at roles i))))
      → RolesBy objects roles s joined (i + 1)
  one_more m =
      record {
        holds =
            λ a.
            m a
            ∙ ap (λ (b : Bool). b || (eqb (at objects i) s && member a (at roles i))) (h.holds a)
            ∙ sym (any_more (λ u. eqb (at u 0) s && member a (at u 1)) i (λ j. at objects j ∷ at roles j ∷ []))
            ∙ ap (λ (n : ℕ). holds_role_in n objects roles s a) (sym (add-one i));
      }

  pub roles_more : at objects i ≡ s → RolesBy objects roles s (bit_or held (at roles i)) (i + 1)
  roles_more e = one_more (λ a. rw (eq-eqb (at objects i) s e) (member_or a held (at roles i)))

  pub roles_same : (at objects i ≡ s → ⊥) → RolesBy objects roles s held (i + 1)
  roles_same n = one_more (λ a. rw (ne_eqb (at objects i) s n) (or_false (member a held)))
    where
      or_false : (b : Bool) → b ≡ (b || false)
      or_false true = refl
      or_false false = refl
