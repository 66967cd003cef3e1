-- The number of a refusal says which it is.
use Rattle.std.specs.Prelude.{◌≡◌, ℕ, [], ◌∷◌, get_or, refl}
use Rattle.std.proofs.Common.{sym, ◌∙◌, ap}
use Rattle.common.specs.RefusalNumbers.{number}
use Rattle.common.specs.declared.Refusal.{Refusal}
use Rattle.common.specs.declared.Refusal.TheVariants.{WrongCharacters, WrongLength, WrongSum, WrongKind, OverLimit, OutOfRange, NotRising, WrongEnd, Circle, EdgeOutOfRange, EdgePresent, EdgeAbsent, EdgesFull, NoMethod, NoObject, NotUser, NoSet, ShortBuffer, NotLoadable, NotEnabled, NotConsistent, GuardNotMet}

-- the refusal with a number; of a number that none has, any
refusal_with : ℕ → Refusal
refusal_with n =
    get_or
    (GuardNotMet ∷ WrongCharacters ∷ WrongLength ∷ WrongSum ∷ WrongKind ∷ OverLimit ∷ OutOfRange ∷ NotRising ∷ WrongEnd ∷ Circle
    ∷ EdgeOutOfRange ∷ EdgePresent ∷ EdgeAbsent ∷ EdgesFull
    ∷ NoMethod ∷ NoObject ∷ NotUser ∷ NoSet ∷ ShortBuffer ∷ NotLoadable ∷ NotEnabled ∷ NotConsistent ∷ GuardNotMet ∷ [])
    n GuardNotMet

its_own : (r : Refusal) → refusal_with (number r) ≡ r
unfolding refusal_with
its_own WrongCharacters = refl
its_own WrongLength = refl
its_own WrongSum = refl
its_own WrongKind = refl
its_own OverLimit = refl
its_own OutOfRange = refl
its_own NotRising = refl
its_own WrongEnd = refl
its_own Circle = refl
its_own EdgeOutOfRange = refl
its_own EdgePresent = refl
its_own EdgeAbsent = refl
its_own EdgesFull = refl
its_own NoMethod = refl
its_own NoObject = refl
its_own NotUser = refl
its_own NoSet = refl
its_own ShortBuffer = refl
its_own NotLoadable = refl
its_own NotEnabled = refl
its_own NotConsistent = refl
its_own GuardNotMet = refl

pub same_refusal : {a b : Refusal} → number a ≡ number b → a ≡ b
same_refusal {a} {b} e = sym (its_own a) ∙ ap refusal_with e ∙ its_own b
