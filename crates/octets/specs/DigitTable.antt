-- The table of digits (document 02, 2026-02): "A table of 256 entries gives each byte's digit value or a mark for no digit."
use Rattle.std.specs.Prelude.{◌≡◌, ℕ, zero, suc, ◌+◌, ◌<◌, Bool, true, false, ◌&&◌, List, [], ◌∷◌, ◌==◌}
use Rattle.std.proofs.Common.{◌∙◌, ap, arith, le_of_suc-le-suc, eqb-true}
use Rattle.std.proofs.lemmas.Bool.{false≢true}
use Rattle.common.specs.Lists.{at}
use Rattle.common.specs.BoolLaws.{and_cases}
use Rattle.octets.specs.Line.{digit_value}

-- the table's rule at each byte: its entry is its value as a digit, or the mark
pub record IsDigitTable (table : List ℕ) : Type 0 where
  pub entry : (c : ℕ) → c < 256 → at table c ≡ digit_value c

-- the first n entries are right, where the first one is the byte c's
abbrev pub entries_right : ℕ → ℕ → List ℕ → Bool
entries_right zero c table = true
entries_right (suc n) c [] = false
entries_right (suc n) c (v ∷ table) = v == digit_value c && entries_right n (suc c) table

-- "The table's rule is established over all entries in a single test": of an entry for each byte
abbrev pub tested : ℕ
tested = 256

abbrev pub table_test : List ℕ → Bool
table_test table = entries_right tested 0 table

entry_right : (n c : ℕ) (table : List ℕ) → entries_right n c table ≡ true → (k : ℕ) → k < n → at table k ≡ digit_value (c + k)
entry_right zero c table e k l = absurd (omega arith)
entry_right (suc n) c [] e k l = absurd (false≢true e)
entry_right (suc n) c (v ∷ table) e zero l =
    eqb-true _ _ (and_cases (v == digit_value c) _ e).0 ∙ ap digit_value (let z : c ≡ c + 0 = omega arith in z)
entry_right (suc n) c (v ∷ table) e (suc k) l =
    entry_right n (suc c) table (and_cases (v == digit_value c) _ e).1 k (le_of_suc-le-suc l)
    ∙ ap digit_value (let z : suc c + k ≡ c + suc k = omega arith in z)

-- the test carries the rule to each entry
pub each_entry : (table : List ℕ) → table_test table ≡ true → IsDigitTable table
each_entry table e =
    record { entry = λ c l. entry_right tested 0 table e c l ∙ ap digit_value (let z : 0 + c ≡ c = omega arith in z) }
