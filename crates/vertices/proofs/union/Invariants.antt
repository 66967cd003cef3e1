-- The loop of `union`: the first v entries are made.
use Rattle.std.proofs.Common.{ℕ, ◌<◌, ◌≡◌, ◌||◌, length}
use Rattle.vertices.specs.Steps.{is_in}
use Rattle.vertices.proofs.union.Given as goal

abbrev pub invariant-loop-v : goal.invariant-loop-v
invariant-loop-v l = ((w : ℕ) → w < l.v → is_in l.r w ≡ (is_in l.a w || is_in l.b w)) × (length l.r ≡ 256)
