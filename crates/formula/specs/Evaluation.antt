-- What the evaluation's functions answer, on a request: slots, what formulas are evaluated in, and places.
use Rattle.std.specs.Prelude.{ℕ, ◌≤◌, ◌<◌, ◌≡◌, Bool, ◌&&◌, List, [], ◌∷◌, Option, None, Some, map, get_or, eqb}
use Rattle.common.specs.Limits.{most_formulas}
use Rattle.common.specs.Lists.{at, any, table}
use Rattle.common.specs.Sets.{member}
use Rattle.rows.specs.Op.{op_of}
use Rattle.policy.specs.declared.Record.{Record}
use Rattle.policy.specs.Table.{edge, rows}
use Rattle.vertices.specs.declared.Place.{Place}
use Rattle.vertices.specs.declared.pass.Direction.{Direction}
use Rattle.vertices.specs.declared.pass.Direction.TheVariants.{Forward, Backward}
use Rattle.vertices.specs.Places.{placed}
use Rattle.vertices.specs.Steps.{edges_in}
use Rattle.formula.specs.Formula.{Context, Formulas, Slot, unset, holding, all_unset, meaning, true_below, formulas_of}
use Rattle.formula.specs.declared.ContextNumbers.{ContextNumbers}

-- formulas in columns
abbrev pub formulas_in : List ℕ → List ℕ → List ℕ → Formulas
formulas_in ops lefts rights = record { ops = ops; lefts = lefts; rights = rights }

-- a slot by the vertex in it, where it is set; slot a of those
abbrev pub slot_of : Option ℕ → Slot
slot_of None = unset
slot_of (Some v) = holding v

abbrev pub slot_in : ContextNumbers → ℕ → Slot
slot_in q a = get_or (map slot_of q.slots) a unset

-- a requestor who holds the roles in a set of weights, at the start; the same with slots, on a record's edges
abbrev pub context_of : ℕ → ℕ → ℕ → List (List ℕ) → Context
context_of roles object requestor edges =
    record { roles = λ a. member a roles; edges = edges; object = object; requestor = requestor; slots = all_unset }

abbrev pub context_in : Record → ContextNumbers → Context
context_in r q =
    record {
      roles = λ a. member a q.roles;
      edges = rows edge r;
      object = q.object;
      requestor = q.requestor;
      slots = map slot_of q.slots;
    }

-- formula f by its parts, at v
unfoldable pub formula_at : Formulas → Context → ℕ → ℕ → Bool
formula_at fs c f v = meaning c (op_of (at fs.ops f)) (at fs.lefts f) (at fs.rights f) (λ d. true_below fs d f) v

-- a record's edges (label, from, to) for a step forward, (label, to, from) for one backward
abbrev pub turned_by : Direction → Record → List (List ℕ)
turned_by Forward r = rows edge r
turned_by Backward r = edges_in r.edge_count r.edge_labels r.edge_targets r.edge_sources

-- where a formula (op, a, b) is true; of one that has parts nothing is said: its op is 4 to 9, or 11
abbrev pub PlaceOf : ContextNumbers → ℕ → ℕ → Option Place → Type 0
PlaceOf q op a None = (4 ≤ op) × (op ≤ 11) × (op ≡ 10 → ⊥)
PlaceOf q op a (Some p) =
    (r : Record) (b : ℕ) (part : Context → ℕ → ℕ → Bool) (v : ℕ) → placed p v ≡ meaning (context_in r q) (op_of op) a b part v

-- where formula f is true, if it is below n, or is not; of one below n that has parts nothing is said
abbrev pub PlaceBelow : Record → ContextNumbers → ℕ → ℕ → Option Place → Type 0
PlaceBelow r q n f None = (f < n) × (4 ≤ at r.formula_ops f) × (at r.formula_ops f ≤ 11) × (at r.formula_ops f ≡ 10 → ⊥)
PlaceBelow r q n f (Some p) = (v : ℕ) → placed p v ≡ true_below (formulas_of r) (context_in r q) n f v

-- what `true_at_object` answers on a record's columns, where the requestor s holds the roles
abbrev pub true_at_object : Record → ℕ → ℕ → ℕ → ℕ → Bool
true_at_object r roles o s f = true_below (formulas_of r) (context_of roles o s (rows edge r)) most_formulas f o

-- one of the first n user lines in columns is that of s and has role a
abbrev pub holds_role_in : ℕ → List ℕ → List ℕ → ℕ → ℕ → Bool
holds_role_in n objects roles s a = any (λ u. eqb (at u 0) s && member a (at u 1)) (table n (λ i. at objects i ∷ at roles i ∷ []))
