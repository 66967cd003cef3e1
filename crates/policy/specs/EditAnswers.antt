-- What an edit answers, in document 01's words: the number, and the record.
use Rattle.std.specs.Prelude.{ℕ}
use Rattle.common.specs.RefusalNumbers.{outcome_number}
use Rattle.policy.specs.declared.Record.{Record}
use Rattle.policy.specs.declared.Edited as declared

pub record Edited : Type 0 where
  pub number : ℕ
  pub rules : Record

-- of an answer of the functions
abbrev pub edited_values : declared.Edited → Edited
edited_values e = record { number = outcome_number e.outcome; rules = e.rules }
