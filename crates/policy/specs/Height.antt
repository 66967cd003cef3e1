-- Heights of a record's formulas (document 01, "Formulas").
use Rattle.std.specs.Prelude.{ℕ}
unfoldable pub use Rattle.tables.specs.Height.{height_in}
use Rattle.policy.specs.declared.Record.{Record}

-- the height of the record's formula f, where it is below n; 0 of any other
abbrev pub height : Record → ℕ → ℕ → ℕ
height r = height_in r.formula_ops r.formula_lefts r.formula_rights
