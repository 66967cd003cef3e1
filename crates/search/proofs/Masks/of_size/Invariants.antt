-- The loop's invariant: every candidate of k members has j role principals or more.
use Rattle.std.proofs.Common.{◌≡◌, ℕ, ◌≤◌, count_ones}
use Rattle.search.specs.Search.{Candidate, role_count_in}
use Rattle.search.proofs.Masks.of_size.Given as goal

abbrev pub invariant-loop-j : goal.invariant-loop-j
invariant-loop-j l = (t : ℕ) → Candidate l.self t → count_ones t ≡ l.k → l.j ≤ role_count_in l.self t
