-- What a load's answer and the writer's answer print.
use Rattle.std.proofs.Common.{ℕ, ◌≡◌, ◌≢◌, ◌≤◌, ◌<◌, true, List, Result, Ok, Err, length, refl, sym, ◌∙◌, ap, subst, arith}
use Rattle.std.specs.Result.{result_unwrap_or}
use Rattle.common.specs.RefusalNumbers.{number}
use Rattle.common.specs.declared.Refusal.{Refusal}
use Rattle.common.specs.declared.Refusal.TheVariants.{WrongCharacters, WrongLength, WrongSum, WrongKind, OverLimit, OutOfRange, NotRising, WrongEnd, Circle, EdgeOutOfRange, EdgePresent, EdgeAbsent, EdgesFull, NoMethod, NoObject, NotUser, NoSet, ShortBuffer, NotLoadable, NotEnabled, NotConsistent, GuardNotMet}
use Rattle.policy.specs.declared.Record.{Record}
use Rattle.policy.specs.Table.{blank}
use Rattle.policy.specs.Loadable.{loadable}
use Rattle.policy.specs.Typed.{Typed}
use Rattle.reading.specs.Loaded.{Loaded}
use Rattle.reading.specs.Loading.{load}
use Rattle.reading.specs.LoadingLaws.{as_loaded}
use Rattle.bundle.specs.declared.NotWritten.{NotWritten}
use Rattle.bundle.specs.declared.NotWritten.TheVariants.{NotLoadable as Unloadable, ShortBuffer as Short}
use Rattle.bundle.specs.Written.{written_values}
use Rattle.bundle.specs.Writing.{bundle_of, written, buffer_after}
use Rattle.bundle.proofs.Altered.{load_answer}
use Rattle.rewriting.specs.Program.{most_bytes, refused_text, program, shown_length, shown}
use Rattle.rewriting.specs.ProgramLaws.{load_line, prints_refusal, prints_bundle, shown_same, writes_none, writes_whole}

-- a refusal's number is not that of success
some_number : (r : Refusal) → number r ≢ 0
some_number WrongCharacters e = absurd (omega arith)
some_number WrongLength e = absurd (omega arith)
some_number WrongSum e = absurd (omega arith)
some_number WrongKind e = absurd (omega arith)
some_number OverLimit e = absurd (omega arith)
some_number OutOfRange e = absurd (omega arith)
some_number NotRising e = absurd (omega arith)
some_number WrongEnd e = absurd (omega arith)
some_number Circle e = absurd (omega arith)
some_number EdgeOutOfRange e = absurd (omega arith)
some_number EdgePresent e = absurd (omega arith)
some_number EdgeAbsent e = absurd (omega arith)
some_number EdgesFull e = absurd (omega arith)
some_number NoMethod e = absurd (omega arith)
some_number NoObject e = absurd (omega arith)
some_number NotUser e = absurd (omega arith)
some_number NoSet e = absurd (omega arith)
some_number ShortBuffer e = absurd (omega arith)
some_number NotLoadable e = absurd (omega arith)
some_number NotEnabled e = absurd (omega arith)
some_number NotConsistent e = absurd (omega arith)
some_number GuardNotMet e = absurd (omega arith)

-- a text that is refused
module _ (t : List ℕ) (r : Refusal) (line : ℕ) (e : record { number = number r; line = line; rules = blank } ≡ load t)
    (short : length t ≤ most_bytes) where
  pub few : (number r < 10) × (line < 100000)
  few = (
    omega (arith, (load_answer t).number, ap (λ (x : Loaded). x.number) e),
    omega (arith, load_line t, ap (λ (x : Loaded). x.line) e),
  )

  pub prints_refused : refused_text (number r) line ≡ program t
  prints_refused =
      (λ j. refused_text (e j).number (e j).line)
      ∙ prints_refusal t short (λ z. some_number r (ap (λ (x : Loaded). x.number) e ∙ z))

-- a text that loads: what the writer does of its record
module _ (t : List ℕ) (r : Record) (e : record { number = 0; line = 0; rules = r } ≡ load t) (short : length t ≤ most_bytes) where
  loads : loadable r ≡ true
  loads = subst (λ (x : Loaded). loadable x.rules ≡ true) (sym e) (as_loaded t (ap (λ (x : Loaded). x.number) (sym e))).loads

  prints : bundle_of r ≡ program t
  prints = ap (λ (x : Loaded). bundle_of x.rules) e ∙ prints_bundle t short (ap (λ (x : Loaded). x.number) (sym e))

  pub writes_program : (b : List ℕ) {a : List ℕ} (w : Result ℕ NotWritten) → written_values w ≡ written r b → a ≡ buffer_after r b → Typed r
      → (result_unwrap_or w 0 ≡ shown_length (program t) b) × (a ≡ shown (program t) b)
  writes_program b (Ok n) f g y = shown_same b prints (writes_whole (record { answers = f; buffer = g; typed = y }) loads refl)
  writes_program b (Err Unloadable) f g y =
      shown_same b prints (writes_none (record { answers = f; buffer = g; typed = y }) loads (λ z. omega arith))
  writes_program b (Err (Short n)) f g y =
      shown_same b prints (writes_none (record { answers = f; buffer = g; typed = y }) loads (λ z. omega arith))
