-- Whether loading could have made a table, by its columns. `policy` says it of a record's tables, kind by kind (`table_loads`), and has
-- the laws that it is the same (`LoadableLaws`).
use Rattle.std.specs.Prelude.{ℕ, zero, suc, ◌+◌, Bool, true, false, not, ◌&&◌, List, [], ◌∷◌, drop, ltb, leb, eqb}
use Rattle.common.specs.Limits.{most_users, most_edges, most_formulas, most_demarcations, most_pairs, most_principals, most_exclusions}
use Rattle.common.specs.Limits.{most_methods}
use Rattle.common.specs.Lists.{at, every, below}
use Rattle.common.specs.Causes.{first}
use Rattle.closure.specs.Closure.{pairs_of, circular}
use Rattle.rows.specs.Op.{op_of, height_of, formula_in_range}
use Rattle.rows.specs.Checks.{causes, edge_in_range, pair_in_range, edge_key, pair_key}
use Rattle.tables.specs.Height.{height_in}

-- the places of a column from n on are zero
abbrev pub zero_from : ℕ → List ℕ → Bool
zero_from n c = every (λ x. eqb x 0) (drop n c)

-- a table of n lines: no more than there is room for, each one that loading takes at its row, and the unused places zero
unfoldable pub lines_load : ℕ → ℕ → (ℕ → ℕ) → List (List ℕ) → Bool
lines_load room n refusal columns = leb n room && (every (λ i. eqb (refusal i) 0) (below n) && every (zero_from n) columns)

-- the number that refuses the line at row i, where lines need not rise (5 over the limit, 6 out of range)
abbrev pub plain_refusal : ℕ → (ℕ → Bool) → ℕ → ℕ
plain_refusal limit fits i = first (causes (leb limit i) (not (fits i)) false)

-- the same where they rise by a key (7: the key is not above that of the line before it)
abbrev pub minimum_at : (ℕ → ℕ) → ℕ → ℕ
minimum_at key zero = 0
minimum_at key (suc i) = key i + 1

abbrev pub rising_refusal : (ℕ → Bool) → (ℕ → Bool) → (ℕ → ℕ) → ℕ → ℕ
rising_refusal over fits key i = first (causes (over i) (not (fits i)) (ltb (key i) (minimum_at key i)))

abbrev pub no_limit : ℕ → Bool
no_limit i = false

-- kind 02, of so many objects
abbrev pub user_fits : ℕ → List ℕ → ℕ → Bool
user_fits objects users i = ltb (at users i) objects

unfoldable pub users_load : ℕ → ℕ → List ℕ → List ℕ → Bool
users_load objects n users roles = lines_load most_users n (rising_refusal no_limit (user_fits objects users) (at users)) (users ∷ roles ∷ [])

-- kind 03: labels, sources, targets
abbrev pub edge_fits : ℕ → List ℕ → List ℕ → List ℕ → ℕ → Bool
edge_fits objects l x y i = edge_in_range objects (at l i) (at x i) (at y i)

abbrev pub edge_keys : List ℕ → List ℕ → List ℕ → ℕ → ℕ
edge_keys l x y i = edge_key (at l i) (at x i) (at y i)

unfoldable pub edges_load : ℕ → ℕ → List ℕ → List ℕ → List ℕ → Bool
edges_load objects n l x y = lines_load most_edges n (rising_refusal (leb most_edges) (edge_fits objects l x y) (edge_keys l x y)) (l ∷ x ∷ y ∷ [])

-- kind 04: ops, lefts, rights
abbrev pub formula_fits : List ℕ → List ℕ → List ℕ → ℕ → Bool
formula_fits ops a b i =
    formula_in_range i (at ops i) (at a i) (at b i) (height_of (op_of (at ops i)) (at a i) (at b i) (height_in ops a b i))

unfoldable pub formulas_load : ℕ → List ℕ → List ℕ → List ℕ → Bool
formulas_load n ops a b = lines_load most_formulas n (plain_refusal most_formulas (formula_fits ops a b)) (ops ∷ a ∷ b ∷ [])

-- kind 05: no number is out of range
unfoldable pub demarcations_load : ℕ → List ℕ → Bool
demarcations_load n privileges = lines_load most_demarcations n (plain_refusal most_demarcations (λ i. true)) (privileges ∷ [])

-- kinds 06 and 09: pairs of so many things
abbrev pub pair_fits : ℕ → List ℕ → List ℕ → ℕ → Bool
pair_fits things a b i = pair_in_range things (at a i) (at b i)

abbrev pub pair_keys : List ℕ → List ℕ → ℕ → ℕ
pair_keys a b i = pair_key (at a i) (at b i)

unfoldable pub pairs_load : ℕ → ℕ → List ℕ → List ℕ → Bool
pairs_load things n a b = lines_load most_pairs n (rising_refusal no_limit (pair_fits things a b) (pair_keys a b)) (a ∷ b ∷ [])

-- "neither may hold a circle"
abbrev pub relation_loads : ℕ → ℕ → List ℕ → List ℕ → Bool
relation_loads things n a b = pairs_load things n a b && not (circular (pairs_of n a b))

-- kind 07, of so many formulas and demarcations
abbrev pub principal_fits : ℕ → ℕ → List ℕ → List ℕ → ℕ → Bool
principal_fits formulas demarcations f d i = ltb (at f i) formulas && ltb (at d i) demarcations

unfoldable pub principals_load : ℕ → ℕ → ℕ → List ℕ → List ℕ → Bool
principals_load formulas demarcations n f d =
    lines_load most_principals n (plain_refusal most_principals (principal_fits formulas demarcations f d)) (f ∷ d ∷ [])

-- kind 08, of so many principals: the lower first
abbrev pub exclusion_fits : ℕ → List ℕ → List ℕ → ℕ → Bool
exclusion_fits principals p q i = ltb (at p i) (at q i) && ltb (at q i) principals

unfoldable pub exclusions_load : ℕ → ℕ → List ℕ → List ℕ → Bool
exclusions_load principals n p q =
    lines_load most_exclusions n (rising_refusal no_limit (exclusion_fits principals p q) (pair_keys p q)) (p ∷ q ∷ [])

-- kind 0A
unfoldable pub methods_load : ℕ → List ℕ → List ℕ → Bool
methods_load n forms privileges =
    lines_load most_methods n (plain_refusal most_methods (λ i. leb (at forms i) 1)) (forms ∷ privileges ∷ [])
