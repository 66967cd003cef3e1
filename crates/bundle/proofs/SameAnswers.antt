-- The number and values of an answer say which answer it is: of loading and writing.
use Rattle.std.specs.Prelude.{◌≡◌, ◌≢◌, ℕ, Result, Ok, Err}
use Rattle.std.proofs.Common.{sym, ap, refl, arith}
use Rattle.common.specs.RefusalNumbers.{number}
use Rattle.common.specs.RefusalLaws.{same_refusal}
use Rattle.common.specs.declared.Refusal.{Refusal}
use Rattle.policy.specs.declared.Record.{Record}
use Rattle.reading.specs.Loaded.{Loaded, loaded_values}
use Rattle.reading.specs.declared.BadLine.{BadLine}
use Rattle.bundle.specs.Written.{Written, written_values}
use Rattle.bundle.specs.declared.NotWritten.{NotWritten}
use Rattle.bundle.specs.declared.NotWritten.TheVariants.{NotLoadable, ShortBuffer}

-- no refusal has the number 0
some_number : (why : Refusal) → number why ≢ 0
some_number why e = grind arith

pub same_loaded : (a b : Result Record BadLine) → loaded_values a ≡ loaded_values b → a ≡ b
same_loaded (Ok r) (Ok s) e = ap (λ (v : Loaded). Ok v.rules) e
same_loaded (Ok r) (Err b) e = absurd (some_number b.refusal (sym (ap (λ (v : Loaded). v.number) e)))
same_loaded (Err a) (Ok s) e = absurd (some_number a.refusal (ap (λ (v : Loaded). v.number) e))
same_loaded (Err a) (Err b) e =
    λ j. Err (record { refusal = same_refusal {a = a.refusal} {b = b.refusal} (ap (λ (v : Loaded). v.number) e) j; line = ap (λ (v : Loaded). v.line) e j })

pub same_written : (a b : Result ℕ NotWritten) → written_values a ≡ written_values b → a ≡ b
same_written (Ok n) (Ok m) e = ap (λ (v : Written). Ok v.length) e
same_written (Ok n) (Err NotLoadable) e = let z = ap (λ (v : Written). v.number) e in absurd (omega arith)
same_written (Ok n) (Err (ShortBuffer k)) e = let z = ap (λ (v : Written). v.number) e in absurd (omega arith)
same_written (Err NotLoadable) (Ok m) e = let z = ap (λ (v : Written). v.number) e in absurd (omega arith)
same_written (Err (ShortBuffer k)) (Ok m) e = let z = ap (λ (v : Written). v.number) e in absurd (omega arith)
same_written (Err NotLoadable) (Err NotLoadable) e = refl
same_written (Err NotLoadable) (Err (ShortBuffer k)) e = let z = ap (λ (v : Written). v.number) e in absurd (omega arith)
same_written (Err (ShortBuffer k)) (Err NotLoadable) e = let z = ap (λ (v : Written). v.number) e in absurd (omega arith)
same_written (Err (ShortBuffer k)) (Err (ShortBuffer l)) e = ap (λ (v : Written). Err (ShortBuffer v.length)) e
