-- Which formulas read a slot, kept in a table beside them as a loop goes through them: one formula more.
use Prim.Native.Nat.{ℕ, ◌+◌, ◌<◌}
use mathlib.Core.Path.{◌≡◌, sym, ap, ◌∙◌}
use mathlib.Core.Bool.{Bool, false, cond}
use mathlib.Core.List.{List}
use native.Mathlib.Omega.{arith}
use native.Mathlib.Numerals.{add-one}
use native.Mathlib.Decide.{ℕ_discrete}
use lib.ListN.{length, set, replicate, length-set, length-replicate}
use lib.Seq.{get_or-set_same, get_or-set_other}
use lib.Dec.{eqb}
use borrow.Author.Tests.{eq-eqb, ne_eqb}
use Rattle.common.specs.Limits.{most_formulas}
use Rattle.common.specs.Lists.{at}
use Rattle.rows.specs.Op.{op_of}
use Rattle.vertices.specs.Steps.{is_in}
use Rattle.formula.specs.Formula.{Formulas}
use Rattle.formula.specs.Uses.{reads_of, reads_slot}
use Rattle.vertices.proofs.VertexSets.{all_false}

-- the formulas below i are marked where they read slot a; no other is
pub record Marked (fs : Formulas) (a : ℕ) (marks : List Bool) (i : ℕ) : Type 0 where
  pub size : length marks ≡ most_formulas
  pub each : (g : ℕ) → is_in marks g ≡ reads_slot fs i g a

pub marked_none : (fs : Formulas) (a : ℕ) → Marked fs a (replicate most_formulas false) 0
unfolding reads_slot
marked_none fs a = record { size = length-replicate most_formulas false; each = λ g. all_false most_formulas g }

-- one formula more
pub marked_more : {fs : Formulas} {a : ℕ} {marks : List Bool} {i : ℕ} (x : Bool) → Marked fs a marks i → i < most_formulas
    → x ≡ reads_of (op_of (at fs.ops i)) (at fs.lefts i) (at fs.rights i) (is_in marks) a → Marked fs a (set marks i x) (i + 1)
unfolding reads_slot
marked_more {fs} {a} {marks} {i} x m l e =
    record {
      size = length-set marks i x ∙ m.size;
      each = λ g. go g (ℕ_discrete g i) ∙ ap (λ (n : ℕ). reads_slot fs n g a) (sym (add-one i));
    }
  where
    go : (g : ℕ) → Dec (g ≡ i) → is_in (set marks i x) g
        ≡ cond (eqb g i) (reads_of (op_of (at fs.ops g)) (at fs.lefts g) (at fs.rights g) (λ h. reads_slot fs i h a) a)
        (reads_slot fs i g a)
    go g (yes p) =
        rw (eq-eqb g i p) (ap (is_in (set marks i x)) p ∙ get_or-set_same marks i x false (omega (arith, m.size)) ∙ e
        ∙ (λ j. reads_of (op_of (at fs.ops i)) (at fs.lefts i) (at fs.rights i) (λ h. m.each h j) a)
        ∙ (λ j. reads_of (op_of (at fs.ops (sym p j))) (at fs.lefts (sym p j)) (at fs.rights (sym p j)) (λ h. reads_slot fs i h a) a))
    go g (no q) = rw (ne_eqb g i q) (get_or-set_other marks i g x false q ∙ m.each g)
