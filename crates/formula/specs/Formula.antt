-- What each formula means (document 01, "Formulas"; request 2026-03, "Naming a vertex in a formula"), at the vertex here.
use Rattle.std.specs.Prelude.{ℕ, zero, suc, Bool, true, false, not, cond, ◌&&◌, ◌||◌, List, get_or, set, replicate, eqb}
use Rattle.common.specs.Limits.{slot_count}
use Rattle.common.specs.Lists.{at, any}
use Rattle.common.specs.Sets.{member}
use Rattle.rows.specs.Op.{
  Op,
  always,
  requestor,
  object,
  role,
  negation,
  conjunction,
  disjunction,
  forward,
  backward,
  keeping,
  in_slot,
  at_slot,
  unknown,
  op_of,
}
use Rattle.policy.specs.declared.Record.{Record}
use Rattle.policy.specs.Table.{user, edge, rows}
use Rattle.vertices.specs.Steps.{leads}

-- a slot holds a vertex, or is unset
pub data Slot : Type 0 where
  unset : Slot
  holding : ℕ → Slot

-- "All slots are unset at the start of an evaluation."
abbrev pub all_unset : List Slot
all_unset = replicate slot_count unset

-- "An unset slot makes 10 and 11 false": whether p is true of the vertex in the slot
abbrev pub true_of : Slot → (ℕ → Bool) → Bool
true_of unset p = false
true_of (holding v) p = p v

-- what a formula is evaluated in: the roles that the requestor holds, the edges (label, from, to), the object, the requestor, the slots
pub record Context : Type 0 where
  pub roles : ℕ → Bool
  pub edges : List (List ℕ)
  pub object : ℕ
  pub requestor : ℕ
  pub slots : List Slot

-- slot a; with the vertex v kept in slot a, whatever it held: "an inner op 9 on the same slot hides the outer"
abbrev pub slot : Context → ℕ → Slot
slot c a = get_or c.slots a unset

abbrev pub keep : Context → ℕ → ℕ → Context
keep c a v =
    record {
      roles = c.roles;
      edges = c.edges;
      object = c.object;
      requestor = c.requestor;
      slots = set c.slots a (holding v);
    }

-- the formulas (op, a, b) of a bundle, column by column
pub record Formulas : Type 0 where
  pub ops : List ℕ
  pub lefts : List ℕ
  pub rights : List ℕ

-- the formula (op, a, b); `part d g v` says whether formula g is true at v, evaluated in d
unfoldable pub meaning : Context → Op → ℕ → ℕ → (Context → ℕ → ℕ → Bool) → ℕ → Bool
meaning c always a b part here = true
meaning c requestor a b part here = eqb here c.requestor
meaning c object a b part here = eqb here c.object
meaning c role a b part here = c.roles a
meaning c negation a b part here = not (part c a here)
meaning c conjunction a b part here = part c a here && part c b here
meaning c disjunction a b part here = part c a here || part c b here
meaning c forward a b part here = leads c.edges 1 2 a (part c b) here
meaning c backward a b part here = leads c.edges 2 1 a (part c b) here
meaning c keeping a b part here = part (keep c a here) b here
meaning c in_slot a b part here = true_of (slot c a) (λ v. eqb here v)
meaning c at_slot a b part here = true_of (slot c a) (part c b)
meaning c unknown a b part here = false

-- formula f, where it is below n; a formula at or above n is false
unfoldable pub true_below : Formulas → Context → ℕ → ℕ → ℕ → Bool
true_below fs c zero f here = false
true_below fs c (suc n) f here =
    cond (eqb f n)
    (meaning c (op_of (at fs.ops f)) (at fs.lefts f) (at fs.rights f) (λ d. true_below fs d n) here)
    (true_below fs c n f here)

-- s is a user of the record; s holds role a
abbrev pub is_user : Record → ℕ → Bool
is_user r s = any (λ u. eqb (at u 0) s) (rows user r)

abbrev pub holds_role : Record → ℕ → ℕ → Bool
holds_role r s a = any (λ u. eqb (at u 0) s && member a (at u 1)) (rows user r)

-- the record's formulas; what they are evaluated in on the edges es, for an object o and a requestor s, at the start
abbrev pub formulas_of : Record → Formulas
formulas_of r = record { ops = r.formula_ops; lefts = r.formula_lefts; rights = r.formula_rights }

abbrev pub context_on : Record → List (List ℕ) → ℕ → ℕ → Context
context_on r es o s = record { roles = holds_role r s; edges = es; object = o; requestor = s; slots = all_unset }

-- formula f of the record is true at here, on the edges es; on the record's own
unfoldable pub holds_on : Record → List (List ℕ) → ℕ → ℕ → ℕ → ℕ → Bool
holds_on r es f here o s = true_below (formulas_of r) (context_on r es o s) r.formula_count f here

unfoldable pub holds : Record → ℕ → ℕ → ℕ → ℕ → Bool
holds r f here o s = holds_on r (rows edge r) f here o s
