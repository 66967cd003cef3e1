-- What each line of a kind's table is held to: the one check that loading and `loadable` share (refusals 5, 6 and 7).
-- The numbers v are the line at row i of kind k's table. What they are held to stands in the tables before it and in the lines above it.
-- Loading has i at the count, the first unused place; `loadable` goes through every i below the count.
use Rattle.std.specs.Prelude.{ℕ, zero, suc, ◌+◌, Bool, true, false, not, ◌&&◌, List, ltb, leb, eqb}
use Rattle.common.specs.Limits.{most_objects}
use Rattle.common.specs.Lists.{at}
use Rattle.common.specs.Causes.{Cause, first}
use Rattle.policy.specs.declared.Record.{Record}
use Rattle.policy.specs.Table.{Kind, head, user, edge, formula, demarcation, hierarchy, principal, exclusion, prerequisite, method}
use Rattle.policy.specs.Table.{end, room, row}
use Rattle.rows.specs.Op.{op_of, height_of, formula_in_range}
use Rattle.rows.specs.Checks.{edge_in_range, pair_in_range, edge_key, pair_key, causes}
use Rattle.policy.specs.Height.{height}

-- the kinds that are given a limit
abbrev pub limited : Kind → Bool
limited head = false
limited user = false
limited edge = true
limited formula = true
limited demarcation = true
limited hierarchy = false
limited principal = true
limited exclusion = false
limited prerequisite = false
limited method = true
limited end = false

-- the numbers are in range and name what there is
unfoldable pub in_range : Kind → ℕ → Record → List ℕ → Bool
in_range head i r v = eqb (at v 0) 1 && (leb 1 (at v 1) && leb (at v 1) most_objects)
in_range user i r v = ltb (at v 0) r.objects
in_range edge i r v = edge_in_range r.objects (at v 0) (at v 1) (at v 2)
in_range formula i r v = formula_in_range i (at v 0) (at v 1) (at v 2) (height_of (op_of (at v 0)) (at v 1) (at v 2) (height r i))
in_range demarcation i r v = true
in_range hierarchy i r v = pair_in_range r.demarcation_count (at v 0) (at v 1)
in_range principal i r v = ltb (at v 0) r.formula_count && ltb (at v 1) r.demarcation_count
in_range exclusion i r v = ltb (at v 0) (at v 1) && ltb (at v 1) r.principal_count
in_range prerequisite i r v = pair_in_range r.principal_count (at v 0) (at v 1)
in_range method i r v = leb (at v 0) 1
in_range end i r v = true

-- rising kinds: by object, as a triple, as a pair. The key as one number
abbrev pub rising : Kind → Bool
rising head = false
rising user = true
rising edge = true
rising formula = false
rising demarcation = false
rising hierarchy = true
rising principal = false
rising exclusion = true
rising prerequisite = true
rising method = false
rising end = false

abbrev pub key : Kind → List ℕ → ℕ
key head v = 0
key user v = at v 0
key edge v = edge_key (at v 0) (at v 1) (at v 2)
key formula v = 0
key demarcation v = 0
key hierarchy v = pair_key (at v 0) (at v 1)
key principal v = 0
key exclusion v = pair_key (at v 0) (at v 1)
key prerequisite v = pair_key (at v 0) (at v 1)
key method v = 0
key end v = 0

-- the smallest key that may stand at row i: one more than the key of the line before it
abbrev pub minimum_key : Kind → ℕ → Record → ℕ
minimum_key k zero r = 0
minimum_key k (suc i) r = key k (row k i r) + 1

unfoldable pub row_causes : Kind → ℕ → Record → List ℕ → List Cause
row_causes k i r v = causes (limited k && leb (room k) i) (not (in_range k i r v)) (rising k && ltb (key k v) (minimum_key k i r))

unfoldable pub row_refusal : Kind → ℕ → Record → List ℕ → ℕ
row_refusal k i r v = first (row_causes k i r v)
