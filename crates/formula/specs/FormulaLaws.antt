-- Two graphs with the same edges, in whatever order, give a formula the same value, whatever its slots hold.
use Prim.Native.Nat.{ℕ, zero, suc}
use Rattle.std.specs.Prelude.{◌≡◌, Bool, ◌&&◌, ◌||◌, List, eqb}
use Rattle.std.proofs.Math.Path.{refl, ap}
use Rattle.std.proofs.Common.{◌∙◌}
use Rattle.std.proofs.Math.Bool.{not, cond}
use Rattle.common.specs.Lists.{at}
use Rattle.rows.specs.Op.{
  Op,
  always,
  requestor,
  object,
  role,
  negation,
  conjunction,
  disjunction,
  forward,
  backward,
  keeping,
  in_slot,
  at_slot,
  unknown,
  op_of,
}
use Rattle.policy.specs.declared.Record.{Record}
use Rattle.policy.specs.Edits.{edge_in}
use Rattle.vertices.specs.Steps.{leads}
use Rattle.vertices.specs.StepLaws.{same_any}
use Rattle.formula.specs.Formula.{
  Context,
  Formulas,
  Slot,
  unset,
  holding,
  true_of,
  slot,
  keep,
  meaning,
  true_below,
  formulas_of,
  context_on,
  holds_on,
}

-- the same but for the edges
abbrev pub on_edges : Context → List (List ℕ) → Context
on_edges c es = record { roles = c.roles; edges = es; object = c.object; requestor = c.requestor; slots = c.slots }

-- what is true of a slot's vertex
pub same_of_slot : (s : Slot) (p q : ℕ → Bool) → ((v : ℕ) → p v ≡ q v) → true_of s p ≡ true_of s q
same_of_slot unset p q h = refl
same_of_slot (holding v) p q h = h v

module _ (es fs : List (List ℕ)) (same_set : (e : List ℕ) → edge_in es e ≡ edge_in fs e) where
  same_meaning : (p q : Context → ℕ → ℕ → Bool) → ((c : Context) (g v : ℕ) → p (on_edges c es) g v ≡ q (on_edges c fs) g v)
      → (c : Context) (op : Op) (a b here : ℕ) → meaning (on_edges c es) op a b p here ≡ meaning (on_edges c fs) op a b q here
  unfolding meaning
  same_meaning p q h c always a b here = refl
  same_meaning p q h c requestor a b here = refl
  same_meaning p q h c object a b here = refl
  same_meaning p q h c role a b here = refl
  same_meaning p q h c negation a b here = ap not (h c a here)
  same_meaning p q h c conjunction a b here = λ j. h c a here j && h c b here j
  same_meaning p q h c disjunction a b here = λ j. h c a here j || h c b here j
  same_meaning p q h c forward a b here = same_any _ es fs same_set ∙ (λ j. leads fs 1 2 a (λ v. h c b v j) here)
  same_meaning p q h c backward a b here = same_any _ es fs same_set ∙ (λ j. leads fs 2 1 a (λ v. h c b v j) here)
  same_meaning p q h c keeping a b here = h (keep c a here) b here
  same_meaning p q h c in_slot a b here = refl
  same_meaning p q h c at_slot a b here = same_of_slot (slot c a) (p (on_edges c es) b) (q (on_edges c fs) b) (h c b)
  same_meaning p q h c unknown a b here = refl

  -- of any formulas, in any context: the slots may hold what they will
  pub same_below : (ps : Formulas) (n : ℕ) (c : Context) (f here : ℕ)
      → true_below ps (on_edges c es) n f here ≡ true_below ps (on_edges c fs) n f here
  unfolding true_below
  same_below ps zero c f here = refl
  same_below ps (suc n) c f here =
      λ j. cond (eqb f n)
      (same_meaning (λ d. true_below ps d n) (λ d. true_below ps d n) (same_below ps n) c (op_of (at ps.ops f)) (at ps.lefts f)
      (at ps.rights f) here j)
      (same_below ps n c f here j)

-- THE LAW
pub same_edges : (r : Record) (es fs : List (List ℕ)) (f here o s : ℕ) → ((e : List ℕ) → edge_in es e ≡ edge_in fs e)
    → holds_on r es f here o s ≡ holds_on r fs f here o s
unfolding holds_on
same_edges r es fs f here o s h = same_below es fs h (formulas_of r) r.formula_count (context_on r es o s) f here
