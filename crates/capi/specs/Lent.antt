-- What the C interface over a lent record answers and leaves, by value: what loading, answering and writing come to.
use Rattle.std.specs.Prelude.{ℕ, ◌≡◌, List}
use Rattle.policy.specs.declared.Record.{Record}
use Rattle.policy.specs.Typed.{Typed}
use Rattle.reading.specs.Loading.{load}
use Rattle.bundle.specs.Writing.{written}
use Rattle.replay.specs.Replay.{answered_count, left_after, buffer_after}
use Rattle.capi.specs.Interface.{packed}

-- loading: its number and line
abbrev pub load_value : List ℕ → ℕ
load_value text = packed (load text).number (load text).line

-- writing: the writer's number and length
abbrev pub write_value : Record → List ℕ → ℕ
write_value r buffer = packed (written r buffer).number (written r buffer).length

-- answering, from the buffer `before`: the count, the record that the last call left, and the answers; the record is one of its type, so
-- that 19 says that no text loads to it
pub record Answers (r : Record) (calls before : List ℕ) (n : ℕ) (left : Record) (after : List ℕ) : Type 0 where
  pub count : n ≡ answered_count calls before
  pub rules : left ≡ left_after r calls (answered_count calls before)
  pub buffer : after ≡ buffer_after r calls before
  pub typed : Typed r
