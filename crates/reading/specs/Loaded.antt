-- What loading answers, in document 01's words: the number, the line (0 for success), and the record, blank with every refusal.
use Rattle.std.specs.Prelude.{ℕ, Result, Ok, Err}
use Rattle.common.specs.RefusalNumbers.{number}
use Rattle.policy.specs.declared.Record.{Record}
use Rattle.policy.specs.Table.{blank}
use Rattle.reading.specs.declared.BadLine.{BadLine}

pub record Loaded : Type 0 where
  pub number : ℕ
  pub line : ℕ
  pub rules : Record

-- of each case of an answer
abbrev pub loaded_values : Result Record BadLine → Loaded
loaded_values (Ok rules) = record { number = 0; line = 0; rules = rules }
loaded_values (Err bad) = record { number = number bad.refusal; line = bad.line; rules = blank }
