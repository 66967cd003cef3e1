-- The decimal digits of a number, as the library writes them.
use Rattle.std.proofs.Common.{◌≡◌, ℕ, ◌^◌, ◌<◌, List, [], ◌∷◌, ◌++◌, decimal, sym, refl, ap, append_assoc, ◌∙◌, arith}
use borrow.Author.Tests.{lt-ltb, le-ltb}
use Rattle.std.proofs.lemmas.Fmt.{AppendsLastDigit, decimal_from_appends, length-decimal-le}
use Rattle.rewriting.specs.Program.{decimals, refused_text}

appends : AppendsLastDigit decimals
appends = record { one = λ k n l. rw (lt-ltb n 10 l) refl; more = λ k n l. rw (le-ltb n 10 l) refl }

-- of a number of at most k digits
pub decimals_are : (k n : ℕ) → 0 < k → n < 10 ^ k → n < 2 ^ 64 → decimals k n ≡ decimal n
decimals_are k n p l h = decimal_from_appends decimals appends k n h (length-decimal-le k n p l h)

-- the text of a refusal, piece after piece
pub refused_is : (number line : ℕ) → number < 10 → line < 100000
    → ((((82 ∷ 69 ∷ 70 ∷ 85 ∷ 83 ∷ 69 ∷ 68 ∷ 32 ∷ []) ++ decimal number) ++ (32 ∷ [])) ++ decimal line) ++ (10 ∷ [])
    ≡ refused_text number line
refused_is number line l m =
    let n = decimals_are 1 number (omega arith) (omega arith) (omega arith) in
    let d = decimals_are 5 line (omega arith) (omega arith) (omega arith) in
    (λ j. ((((82 ∷ 69 ∷ 70 ∷ 85 ∷ 83 ∷ 69 ∷ 68 ∷ 32 ∷ []) ++ sym n j) ++ (32 ∷ [])) ++ sym d j) ++ (10 ∷ []))
    ∙ ap (λ (t : List ℕ). 82 ∷ 69 ∷ 70 ∷ 85 ∷ 83 ∷ 69 ∷ 68 ∷ 32 ∷ t)
    (append_assoc (decimals 1 number ++ (32 ∷ [])) (decimals 5 line) (10 ∷ [])
    ∙ append_assoc (decimals 1 number) (32 ∷ []) (decimals 5 line ++ (10 ∷ [])))
