-- What liberal and strict answer, in document 01's words: the number, and yes or no (for a refusal, no).
use Rattle.std.specs.Prelude.{ℕ, Bool, false, Result, Ok, Err}
use Rattle.common.specs.RefusalNumbers.{number}
use Rattle.common.specs.declared.Refusal.{Refusal}

pub record Verdict : Type 0 where
  pub number : ℕ
  pub yes : Bool

-- of each case of an answer
abbrev pub verdict_values : Result Bool Refusal → Verdict
verdict_values (Ok answer) = record { number = 0; yes = answer }
verdict_values (Err refusal) = record { number = number refusal; yes = false }
