-- What the ops 0 to 8 mean by document 01 alone, before there were slots. No other definition rests on this one: `SlotLaws` shows that
-- these ops still mean the same.
use Rattle.std.specs.Prelude.{ℕ, zero, suc, Bool, true, false, not, cond, ◌&&◌, ◌||◌, List, eqb}
use Rattle.common.specs.Lists.{at}
use Rattle.rows.specs.Op.{
  Op,
  always,
  requestor,
  object,
  role,
  negation,
  conjunction,
  disjunction,
  forward,
  backward,
  keeping,
  in_slot,
  at_slot,
  unknown,
  op_of,
}
use Rattle.vertices.specs.Steps.{leads}
use Rattle.formula.specs.Formula.{Formulas}

-- what a formula is evaluated in: the roles that the requestor holds, the edges (label, from, to), the object, the requestor
pub record FirstContext : Type 0 where
  pub roles : ℕ → Bool
  pub edges : List (List ℕ)
  pub object : ℕ
  pub requestor : ℕ

-- the formula (op, a, b); `part g v` says whether formula g is true at v; another op is true nowhere
unfoldable pub first_meaning : FirstContext → Op → ℕ → ℕ → (ℕ → ℕ → Bool) → ℕ → Bool
first_meaning c always a b part here = true
first_meaning c requestor a b part here = eqb here c.requestor
first_meaning c object a b part here = eqb here c.object
first_meaning c role a b part here = c.roles a
first_meaning c negation a b part here = not (part a here)
first_meaning c conjunction a b part here = part a here && part b here
first_meaning c disjunction a b part here = part a here || part b here
first_meaning c forward a b part here = leads c.edges 1 2 a (part b) here
first_meaning c backward a b part here = leads c.edges 2 1 a (part b) here
first_meaning c keeping a b part here = false
first_meaning c in_slot a b part here = false
first_meaning c at_slot a b part here = false
first_meaning c unknown a b part here = false

-- formula f, where it is below n; a formula at or above n is false
unfoldable pub first_below : Formulas → FirstContext → ℕ → ℕ → ℕ → Bool
first_below fs c zero f here = false
first_below fs c (suc n) f here =
    cond (eqb f n)
    (first_meaning c (op_of (at fs.ops f)) (at fs.lefts f) (at fs.rights f) (first_below fs c n) here)
    (first_below fs c n f here)
