-- The loop of `read_line` keeps `Run`: the octets read so far, and what is left of the text, are the line.
use Rattle.std.proofs.Common.{◌≡◌, drop}
use Rattle.std.specs.Slice.Iter.{chunks_rest, chunks_size}
use Rattle.octets.proofs.Running.{Run}
use Rattle.octets.proofs.read_line.Given as goal

abbrev pub invariant-loop-count : goal.invariant-loop-count
invariant-loop-count l =
    Run (drop l.offset l.text) (chunks_rest l.count-iterator.iter) l.count-iterator.count l.first l.sum l.total
    × (chunks_size l.count-iterator.iter ≡ 2)
