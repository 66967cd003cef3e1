-- The loop's invariant: every candidate has k members or more.
use Rattle.std.proofs.Common.{ℕ, ◌≤◌, count_ones}
use Rattle.search.specs.Search.{Candidate}
use Rattle.search.proofs.Masks.least.Given as goal

abbrev pub invariant-loop-k : goal.invariant-loop-k
invariant-loop-k l = (t : ℕ) → Candidate l.self t → l.k ≤ count_ones t
