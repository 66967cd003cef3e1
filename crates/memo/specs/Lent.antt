-- What is asked of principals that are lent.
use Rattle.std.specs.Prelude.{ℕ, ◌≤◌, ◌<◌, List}
use Rattle.common.specs.Limits.{most_formulas, most_principals}
use Rattle.common.specs.Lists.{at}

-- so many principals have a place in the table, and each of their formulas one in the memo
abbrev pub FormulasFit : ℕ → List ℕ → Type 0
FormulasFit n formulas = (n ≤ most_principals) × ((p : ℕ) → p < n → at formulas p < most_formulas)
