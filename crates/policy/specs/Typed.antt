-- What the types of a record's fields say, of any record: each column is as long as its table has room, and each number fits its octets.
use Prim.{Unit}
use Rattle.std.specs.Prelude.{ℕ, ◌<◌, ◌^◌, ◌≡◌, Bool, List, [], ◌∷◌, drop}
use Rattle.common.specs.Lists.{at}
use Rattle.policy.specs.declared.Record.{Record}
use Rattle.policy.specs.Table.{Kind, row, widths}
use Rattle.policy.specs.TableLaws.{ColumnLengths}
use Rattle.policy.specs.Loadable.{loadable}

-- numbers fit into octets of these widths
abbrev pub Fit : List ℕ → List ℕ → Type 0
Fit [] v = Unit {0}
Fit (w ∷ ws) v = (at v 0 < 256 ^ w) × Fit ws (drop 1 v)

pub record Typed (r : Record) : Type 0 where
  pub sized : ColumnLengths r
  pub fits : (k : Kind) (i : ℕ) → Fit (widths k) (row k i r)

-- the test behind 19, of a record that is given: some bundle loads to it, memo aside, exactly when the answer is yes (by `Typed`, see
-- `bundle/proofs/RoundTrips.antt` `loadable_exactly`)
pub record Tests (r : Record) (answer : Bool) : Type 0 where
  pub decides : answer ≡ loadable r
  pub typed : Typed r
