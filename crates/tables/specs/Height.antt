-- Heights of the formulas of three columns (document 01, "Formulas").
use Rattle.std.specs.Prelude.{cond, List, ℕ, zero, suc, eqb}
use Rattle.common.specs.Lists.{at}
use Rattle.rows.specs.Op.{op_of, height_of}

-- the height of formula f, where it is below n; 0 of any other
unfoldable pub height_in : List ℕ → List ℕ → List ℕ → ℕ → ℕ → ℕ
height_in ops lefts rights zero f = 0
height_in ops lefts rights (suc n) f =
    cond (eqb f n) (height_of (op_of (at ops f)) (at lefts f) (at rights f) (height_in ops lefts rights n)) (height_in ops lefts rights n f)
