-- The formulas that a formula uses, directly or through others.
use Rattle.std.specs.Prelude.{ℕ, zero, suc, Bool, true, false, not, cond, ◌&&◌, ◌||◌, List, [], ◌∷◌, eqb}
use Rattle.common.specs.Lists.{at, every}
use Rattle.rows.specs.Op.{
  Op,
  always,
  requestor,
  object,
  role,
  negation,
  conjunction,
  disjunction,
  forward,
  backward,
  keeping,
  in_slot,
  at_slot,
  unknown,
  op_of,
}
use Rattle.formula.specs.Formula.{Formulas}

-- which of a and b are formula numbers: "In 4 to 6, a and b are formula numbers; in 7 and 8, a is a label and b a formula number";
-- "In 9 and 11, b is a lower formula number"
abbrev pub parts_of : Op → ℕ → ℕ → List ℕ
parts_of always a b = []
parts_of requestor a b = []
parts_of object a b = []
parts_of role a b = []
parts_of negation a b = a ∷ []
parts_of conjunction a b = a ∷ b ∷ []
parts_of disjunction a b = a ∷ b ∷ []
parts_of forward a b = b ∷ []
parts_of backward a b = b ∷ []
parts_of keeping a b = b ∷ []
parts_of in_slot a b = []
parts_of at_slot a b = b ∷ []
parts_of unknown a b = []

-- the op of formula f, where f is below n, and those of the formulas that it uses all pass a test
unfoldable pub throughout : (Op → Bool) → Formulas → ℕ → ℕ → Bool
throughout p fs zero f = true
throughout p fs (suc n) f =
    cond (eqb f n)
    (p (op_of (at fs.ops f)) && every (throughout p fs n) (parts_of (op_of (at fs.ops f)) (at fs.lefts f) (at fs.rights f)))
    (throughout p fs n f)

-- neither op 10 nor op 11, which read a slot; none of the ops 9 to 11
abbrev pub reads_no_slot : Op → Bool
reads_no_slot always = true
reads_no_slot requestor = true
reads_no_slot object = true
reads_no_slot role = true
reads_no_slot negation = true
reads_no_slot conjunction = true
reads_no_slot disjunction = true
reads_no_slot forward = true
reads_no_slot backward = true
reads_no_slot keeping = true
reads_no_slot in_slot = false
reads_no_slot at_slot = false
reads_no_slot unknown = true

abbrev pub has_no_slot : Op → Bool
has_no_slot always = true
has_no_slot requestor = true
has_no_slot object = true
has_no_slot role = true
has_no_slot negation = true
has_no_slot conjunction = true
has_no_slot disjunction = true
has_no_slot forward = true
has_no_slot backward = true
has_no_slot keeping = false
has_no_slot in_slot = false
has_no_slot at_slot = false
has_no_slot unknown = true

-- the formula (op, a, b) reads what slot k holds where it is evaluated: an op 9 on slot k hides that from its part.
-- `part g` says whether formula g does
abbrev pub reads_of : Op → ℕ → ℕ → (ℕ → Bool) → ℕ → Bool
reads_of always a b part k = false
reads_of requestor a b part k = false
reads_of object a b part k = false
reads_of role a b part k = false
reads_of negation a b part k = part a
reads_of conjunction a b part k = part a || part b
reads_of disjunction a b part k = part a || part b
reads_of forward a b part k = part b
reads_of backward a b part k = part b
reads_of keeping a b part k = not (eqb a k) && part b
reads_of in_slot a b part k = eqb a k
reads_of at_slot a b part k = eqb a k || part b
reads_of unknown a b part k = false

-- formula f, where it is below n
unfoldable pub reads_slot : Formulas → ℕ → ℕ → ℕ → Bool
reads_slot fs zero f k = false
reads_slot fs (suc n) f k =
    cond (eqb f n)
    (reads_of (op_of (at fs.ops f)) (at fs.lefts f) (at fs.rights f) (λ g. reads_slot fs n g k) k)
    (reads_slot fs n f k)
