-- What writing answers, in document 01's words: the number, and the length of the bundle (0 with 19; with 18 the length needed).
use Rattle.std.specs.Prelude.{ℕ, Result, Ok, Err}
use Rattle.common.specs.Refusals.{short_buffer, not_loadable}
use Rattle.bundle.specs.declared.NotWritten.{NotWritten}
use Rattle.bundle.specs.declared.NotWritten.TheVariants.{NotLoadable, ShortBuffer}

pub record Written : Type 0 where
  pub number : ℕ
  pub length : ℕ

-- of each case of an answer
abbrev pub written_values : Result ℕ NotWritten → Written
written_values (Ok length) = record { number = 0; length = length }
written_values (Err NotLoadable) = record { number = not_loadable; length = 0 }
written_values (Err (ShortBuffer needed)) = record { number = short_buffer; length = needed }
