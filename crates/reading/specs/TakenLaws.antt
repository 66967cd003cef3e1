-- What a load's number says: where it is 0, each line was taken, and the record is handed over after the last one.
use Rattle.std.specs.Prelude.{ℕ, ◌+◌, ◌≡◌, refl, Bool, true, false, not, cond, ◌||◌, List, ◌∷◌, eqb}
use Rattle.std.proofs.Common.{arith, eqb-true}
use Rattle.std.proofs.lemmas.Bool.{eqb-false}
use Rattle.common.specs.Refusals.{wrong_end}
use Rattle.common.specs.Refusals as refusals
use Rattle.closure.specs.Closure.{circular}
use Rattle.octets.specs.Line.{Framed, octets, kind_octet}
use Rattle.policy.specs.Table.{hierarchy, prerequisite, kind_of, rows, indexed}
use Rattle.reading.specs.Loaded.{Loaded}
use Rattle.reading.specs.Loading.{Reading, line_refusal, after_line, not_loaded, after_last_line, read}

-- the line is taken, and the rest is read after it
pub read_taken : (t : Reading) (os : List ℕ) (ls : List Framed) → (read t (octets os ∷ ls)).number ≡ 0
    → (line_refusal t (kind_of (kind_octet os)) os ≡ 0) × (read t (octets os ∷ ls) ≡ read (after_line t (kind_of (kind_octet os)) os) ls)
unfolding read
read_taken t os ls e₀ = go (eqb (line_refusal t (kind_of (kind_octet os)) os) 0) refl (read (after_line t (kind_of (kind_octet os)) os) ls) e₀
  where
    go : (x : Bool) → eqb (line_refusal t (kind_of (kind_octet os)) os) 0 ≡ x → (l : Loaded)
        → (cond x l (not_loaded (line_refusal t (kind_of (kind_octet os)) os) (t.lines + 1))).number ≡ 0
        → (line_refusal t (kind_of (kind_octet os)) os ≡ 0)
        × (cond x l (not_loaded (line_refusal t (kind_of (kind_octet os)) os) (t.lines + 1)) ≡ l)
    go true p l e = (eqb-true _ _ p, refl)
    go false p l e = absurd (eqb-false _ _ p e)

-- after the last line: the end line was read, and the record is handed over with its index
pub end_taken : (t : Reading) → (after_last_line t).number ≡ 0 → (t.last ≡ 0xFF) × ((after_last_line t).rules ≡ indexed t.rules)
unfolding after_last_line
end_taken t = go (eqb t.last 0xFF) (circular (rows hierarchy t.rules) || circular (rows prerequisite t.rules)) refl
  where
    go : (x y : Bool) → eqb t.last 0xFF ≡ x
        → (cond (not x) (not_loaded wrong_end (t.lines + 1))
        (cond y (not_loaded refusals.circle t.lines) (record { number = 0; line = 0; rules = indexed t.rules }))).number
        ≡ 0
        → (t.last ≡ 0xFF)
        × ((cond (not x) (not_loaded wrong_end (t.lines + 1))
        (cond y (not_loaded refusals.circle t.lines) (record { number = 0; line = 0; rules = indexed t.rules }))).rules
        ≡ indexed t.rules)
    go false y p n = absurd (omega arith)
    go true true p n = absurd (omega arith)
    go true false p n = (eqb-true _ _ p, refl)
