-- What an edit looks up: the row of its edge, and what refuses any edit of it. For the contracts of `src`.
use Rattle.std.specs.Prelude.{ℕ, ◌≡◌, Bool, true, false, not, [], ◌∷◌}
use Rattle.common.specs.Causes.{cause, first}
use Rattle.common.specs.Refusals.{edge_out_of_range, not_loadable}
use Rattle.rows.specs.Checks.{edge_in_range, edge_key}
use Rattle.policy.specs.declared.Record.{Record}
use Rattle.policy.specs.declared.edges.Place.{Place}
use Rattle.policy.specs.declared.edges.Place.TheVariants.{Present, Absent}
use Rattle.policy.specs.Table.{edge, rows}
use Rattle.policy.specs.Loadable.{loadable}
use Rattle.policy.specs.Edits.{edge_in}
use Rattle.policy.specs.EdgeRows.{row_of}

-- some bundle loads to the record, the edge (l, x, y) is in range, stands or would stand at the row, and is there or not
pub record AtRow (r : Record) (l x y row : ℕ) (present : Bool) : Type 0 where
  pub loads : loadable r ≡ true
  pub fits : edge_in_range r.objects l x y ≡ true
  pub row_is : row ≡ row_of (edge_key l x y) (rows edge r)
  pub there : edge_in (rows edge r) (l ∷ x ∷ y ∷ []) ≡ present

abbrev pub StandsAt : Record → ℕ → ℕ → ℕ → Place → Type 0
StandsAt r l x y (Present row) = AtRow r l x y row true
StandsAt r l x y (Absent row) = AtRow r l x y row false

-- the number of what refuses any edit of the edge: 19, then 10
pub record Refused (r : Record) (l x y n : ℕ) : Type 0 where
  pub refuses : n ≡ first (cause not_loadable (not (loadable r)) ∷ cause edge_out_of_range (not (edge_in_range r.objects l x y)) ∷ [])
  pub some : n ≡ 0 → ⊥
