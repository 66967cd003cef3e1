-- What the C interface answers: a number and a value in one number, number · 2^32 + value.
use Rattle.std.specs.Prelude.{ℕ, ◌+◌, ◌*◌, ◌%◌, cond, List, eqb}
use Rattle.reading.specs.Loaded.{Loaded}
use Rattle.bundle.specs.Writing.{written, buffer_after}
use Rattle.replay.specs.Replay.{answered_count}
use Rattle.replay.specs.Replay as replay

abbrev pub packed : ℕ → ℕ → ℕ
packed number value = number * 4294967296 + value % 4294967296

-- loads and writes. A refused bundle: its number and line, and the buffer as it was. Else the writer's number and length
unfoldable pub rewrite_value : Loaded → List ℕ → ℕ
rewrite_value l buffer =
    cond (eqb l.number 0) (packed (written l.rules buffer).number (written l.rules buffer).length) (packed l.number l.line)

unfoldable pub rewrite_buffer : Loaded → List ℕ → List ℕ
rewrite_buffer l buffer = cond (eqb l.number 0) (buffer_after l.rules buffer) buffer

-- loads, and answers the calls in turn. A refused bundle: its number, no answers, and the buffer as it was. Else the count of the answers
unfoldable pub replay_value : Loaded → List ℕ → List ℕ → ℕ
replay_value l calls buffer = cond (eqb l.number 0) (packed 0 (answered_count calls buffer)) (packed l.number 0)

unfoldable pub replay_buffer : Loaded → List ℕ → List ℕ → List ℕ
replay_buffer l calls buffer = cond (eqb l.number 0) (replay.buffer_after l.rules calls buffer) buffer
