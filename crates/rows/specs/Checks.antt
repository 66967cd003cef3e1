-- The checks of a line on plain numbers (refusals 5, 6 and 7).
use Rattle.std.specs.Prelude.{ℕ, ◌+◌, ◌*◌, Bool, not, ◌&&◌, List, [], ◌∷◌, ltb, leb, eqb}
use Rattle.common.specs.Causes.{Cause, cause}
use Rattle.common.specs.Limits.{highest_label}
use Rattle.common.specs.Refusals.{over_limit, out_of_range, not_rising}

-- an edge's label is 0 to 15, and its ends are below the object count n
abbrev pub edge_in_range : ℕ → ℕ → ℕ → ℕ → Bool
edge_in_range n l x y = leb l highest_label && (ltb x n && ltb y n)

-- two different things below n
abbrev pub pair_in_range : ℕ → ℕ → ℕ → Bool
pair_in_range n a b = ltb a n && (ltb b n && not (eqb a b))

-- rising lines are compared by one number, the key: of a triple and of a pair
abbrev pub edge_key : ℕ → ℕ → ℕ → ℕ
edge_key l x y = l * 65536 + x * 256 + y

abbrev pub pair_key : ℕ → ℕ → ℕ
pair_key a b = a * 256 + b

-- 5: one line over the kind's limit. 6: a number out of range or naming nothing. 7: not above the line before it
abbrev pub causes : Bool → Bool → Bool → List Cause
causes over out falls = cause over_limit over ∷ cause out_of_range out ∷ cause not_rising falls ∷ []
