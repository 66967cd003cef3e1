-- `all_fit` meets its contract. The invariant: the bits of the rows below i are joined.
use Rattle.std.proofs.Common.{◌≡◌, ◌<◌, ℕ, Bool}
use Rattle.common.specs.Lists.{every, below}
use Rattle.tables.proofs.all_fit.Given as goal

abbrev pub invariant-loop-i : goal.invariant-loop-i
invariant-loop-i g l =
    (p : ℕ → Bool) → ((i : ℕ) (r : Bool) → i < l.room → goal.F-post g l.fits i r → r ≡ p i) → l.fit ≡ every p (below l.i)
