-- `all_rise` meets its contract. The invariant: the bits of the rows below i are joined, and the smallest key that may follow is kept.
use Rattle.std.proofs.Common.{◌≡◌, ◌<◌, ◌+◌, ℕ, Bool}
use Rattle.common.specs.Lists.{every, below}
use Rattle.tables.specs.Loads.{minimum_at}
use Rattle.tables.proofs.all_rise.Given as goal

abbrev pub invariant-loop-i : goal.invariant-loop-i
invariant-loop-i g l = record {
  joined : (p : ℕ → ℕ → Bool) (key : ℕ → ℕ) → ((i m : ℕ) (r : Bool) → i < l.room → goal.F-post g l.fits i m r → r ≡ p i m)
      → ((i k : ℕ) → i < l.room → goal.N-post g l.next i k → k ≡ key i + 1) → l.fit ≡ every (λ i. p i (minimum_at key i)) (below l.i);
  kept : (key : ℕ → ℕ) → ((i k : ℕ) → i < l.room → goal.N-post g l.next i k → k ≡ key i + 1) → l.minimum ≡ minimum_at key l.i;
}
