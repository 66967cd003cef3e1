-- The loop of `minus`: the first v entries are made.
use Rattle.std.proofs.Common.{ℕ, ◌<◌, ◌≡◌, not, ◌&&◌, length}
use Rattle.vertices.specs.Steps.{is_in}
use Rattle.vertices.proofs.minus.Given as goal

abbrev pub invariant-loop-v : goal.invariant-loop-v
invariant-loop-v l = ((w : ℕ) → w < l.v → is_in l.r w ≡ (is_in l.asked w && not (is_in l.t w))) × (length l.r ≡ 256)
