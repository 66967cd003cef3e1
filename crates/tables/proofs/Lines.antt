-- Why tests of lines make the test of a table: lines that loading takes, and unused places.
use Prim.Native.Nat.{ℕ, zero, suc, ◌+◌, ◌≤◌, ◌<◌}
use mathlib.Core.Path.{◌≡◌, refl, sym, ◌∙◌, ap}
use mathlib.Core.Bool.{Bool, true, false, not, ◌&&◌, and_assoc}
use mathlib.Core.List.{List, [], ◌∷◌}
use native.Mathlib.Omega.{arith}
use native.Mathlib.Numerals.{add-one}
use lib.Dec.{ltb, leb, eqb}
use borrow.Author.Tests.{le-leb, lt-leb}
use Rattle.std.specs.Prelude.{Result, Ok, Err}
use Rattle.std.specs.Result.{is_ok}
use Rattle.common.specs.declared.Refusal.{Refusal}
use Rattle.common.specs.declared.Refusal.TheVariants.{WrongCharacters, WrongLength, WrongSum, WrongKind, OverLimit, OutOfRange, NotRising, WrongEnd, Circle, EdgeOutOfRange, EdgePresent, EdgeAbsent, EdgesFull, NoMethod, NoObject, NotUser, NoSet, ShortBuffer, NotLoadable, NotEnabled, NotConsistent, GuardNotMet}
use Rattle.common.specs.Lists.{every, below}
use Rattle.common.specs.ListLaws.{every_more}
use Rattle.common.specs.BoolLaws.{and_true}
use Rattle.common.specs.Causes.{first}
use Rattle.common.specs.RefusalNumbers.{outcome_number, number}
use Rattle.rows.specs.Checks.{causes}
use Rattle.tables.specs.Loads.{zero_from, lines_load, plain_refusal}

-- whether a line that rises by its key is taken, where the smallest key that may stand there is m
abbrev pub taken : (ℕ → Bool) → (ℕ → Bool) → (ℕ → ℕ) → ℕ → ℕ → Bool
taken over fits key i m = eqb (first (causes (over i) (not (fits i)) (ltb (key i) m))) 0

-- a refusal has a number other than 0
refused : (x : Refusal) → false ≡ eqb (number x) 0
refused WrongCharacters = refl
refused WrongLength = refl
refused WrongSum = refl
refused WrongKind = refl
refused OverLimit = refl
refused OutOfRange = refl
refused NotRising = refl
refused WrongEnd = refl
refused Circle = refl
refused EdgeOutOfRange = refl
refused EdgePresent = refl
refused EdgeAbsent = refl
refused EdgesFull = refl
refused NoMethod = refl
refused NoObject = refl
refused NotUser = refl
refused NoSet = refl
refused ShortBuffer = refl
refused NotLoadable = refl
refused NotEnabled = refl
refused NotConsistent = refl
refused GuardNotMet = refl

-- what was done is what no number refuses
pub done : {A : Type 0} {n : ℕ} {b : Bool} (r : Result A Refusal) → outcome_number r ≡ n → b ≡ is_ok r → b ≡ eqb n 0
done (Ok a) e f = f ∙ (λ j. eqb (e j) 0)
done (Err x) e f = f ∙ refused x ∙ (λ j. eqb (e j) 0)

-- one row more, as a loop goes
pub one_more : (p : ℕ → Bool) (i : ℕ) {fit b : Bool} → fit ≡ every p (below i) → b ≡ p i → fit && b ≡ every p (below (i + 1))
one_more p i e f =
    (λ j. e j && f j) ∙ sym (every_more p i (λ x. x)) ∙ ap (λ (n : ℕ). every p (below n)) (sym (add-one i))

-- more lines than there is room for
pub lines_over : {n : ℕ} (room : ℕ) (refusal : ℕ → ℕ) (columns : List (List ℕ)) → room < n → false ≡ lines_load room n refusal columns
unfolding lines_load
lines_over {n} room refusal columns l = rw (lt-leb n room l)

pub few : {n room : ℕ} {fit each : Bool} → n ≤ room → fit ≡ each → fit ≡ (leb n room && each)
few {n} {room} l e = rw (le-leb n room l) e

-- no more lines than there is room for, each of them taken, and the places of one, two or three columns after them zero
module _ (room n : ℕ) (refusal : ℕ → ℕ) {fit : Bool} (e : fit ≡ (leb n room && every (λ x. eqb (refusal x) 0) (below n))) where
  lines_all : {zeros : Bool} (columns : List (List ℕ)) → zeros ≡ every (zero_from n) columns → fit && zeros ≡ lines_load room n refusal columns
  unfolding lines_load
  lines_all columns f = (λ j. e j && f j) ∙ and_assoc (leb n room) _ _

  pub lines_one : {z : Bool} (c : List ℕ) → z ≡ zero_from n c → fit && z ≡ lines_load room n refusal (c ∷ [])
  lines_one c f = lines_all (c ∷ []) (f ∙ sym (and_true (zero_from n c)))

  pub lines_two : {z z₂ : Bool} (c c₂ : List ℕ) → z ≡ zero_from n c → z₂ ≡ zero_from n c₂
      → fit && z && z₂ ≡ lines_load room n refusal (c ∷ c₂ ∷ [])
  lines_two {z} c c₂ f f₂ =
      and_assoc fit z _ ∙ lines_all (c ∷ c₂ ∷ []) (λ j. f j && (f₂ ∙ sym (and_true (zero_from n c₂))) j)

  pub lines_three : {z z₂ z₃ : Bool} (c c₂ c₃ : List ℕ) → z ≡ zero_from n c → z₂ ≡ zero_from n c₂ → z₃ ≡ zero_from n c₃
      → fit && z && z₂ && z₃ ≡ lines_load room n refusal (c ∷ c₂ ∷ c₃ ∷ [])
  lines_three {z} {z₂} c c₂ c₃ f f₂ f₃ =
      and_assoc (fit && z) z₂ _ ∙ and_assoc fit z _
      ∙ lines_all (c ∷ c₂ ∷ c₃ ∷ []) (λ j. f j && (f₂ j && (f₃ ∙ sym (and_true (zero_from n c₃))) j))

-- lines of which none is out of range are all taken, up to their limit
pub plain_taken : (limit n : ℕ) → n ≤ limit → true ≡ every (λ x. eqb (plain_refusal limit (λ i. true) x) 0) (below n)
plain_taken limit zero l = refl
plain_taken limit (suc n) l =
    (λ j. plain_taken limit n (omega arith) j && eqb (first (causes (sym (lt-leb limit n (let h : n < limit = omega arith in h)) j) false false)) 0)
    ∙ sym (every_more (λ x. eqb (plain_refusal limit (λ i. true) x) 0) n (λ x. x))
