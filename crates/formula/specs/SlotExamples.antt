-- Worked examples of ops 9 to 11, computed (docs/FORMAT.md, "Naming a vertex").
use Rattle.std.specs.Prelude.{ℕ, ◌≡◌, refl, Bool, true, false, List, [], ◌∷◌}
use Rattle.common.specs.Limits.{most_formulas}
use Rattle.formula.specs.Formula.{Formulas, all_unset, meaning, true_below}

-- formula f of a list of formulas (op, a, b), at the object 0, on edges (label, from, to)
abbrev true_at : List (List ℕ) → Formulas → ℕ → Bool
true_at es fs f =
    true_below fs (record { roles = λ a. false; edges = es; object = 0; requestor = 2; slots = all_unset }) most_formulas f 0

-- The formulas of `examples/prescriber.hex`. Objects 0 the crown, 1 the implant scan, 2 Ana, 3 Ben.
-- 4: "the prescriber of this crown also prescribed the implant scan". Keep the crown in slot 0 (4), go to a prescriber (3), back to
-- something that the person prescribed (2), back to something made from that (1): it is the crown in slot 0 (0).
-- 9: the prescriber of this crown also designed it. Keep the crown in slot 1 (9), go to a prescriber (8), keep that person in slot 0 (7),
-- go back to the crown (6), to a designer (5): it is the person in slot 0 (0).
-- 13: the same with the crown in slot 0 too, where the person hides it (11), so that op 11 stays at the person (10).
abbrev prescriber_formulas : Formulas
prescriber_formulas =
    record {
      ops = 10 ∷ 8 ∷ 8 ∷ 7 ∷ 9 ∷ 7 ∷ 11 ∷ 9 ∷ 7 ∷ 9 ∷ 11 ∷ 9 ∷ 7 ∷ 9 ∷ [];
      lefts = 0 ∷ 1 ∷ 0 ∷ 0 ∷ 0 ∷ 2 ∷ 1 ∷ 0 ∷ 0 ∷ 1 ∷ 0 ∷ 0 ∷ 0 ∷ 0 ∷ [];
      rights = 0 ∷ 0 ∷ 1 ∷ 2 ∷ 3 ∷ 0 ∷ 5 ∷ 6 ∷ 7 ∷ 8 ∷ 5 ∷ 10 ∷ 11 ∷ 12 ∷ [];
    }

-- label 0, x was prescribed by y; label 1, x was made from y; label 2, x was designed by y
abbrev prescribed : ℕ → ℕ → List ℕ
prescribed x y = 0 ∷ x ∷ y ∷ []

abbrev made : ℕ → ℕ → List ℕ
made x y = 1 ∷ x ∷ y ∷ []

abbrev designed : ℕ → ℕ → List ℕ
designed x y = 2 ∷ x ∷ y ∷ []

-- Ana prescribed both; Ana the crown and Ben the scan; both the crown, and Ben the scan
pub same_prescriber : true_at (prescribed 0 2 ∷ prescribed 1 2 ∷ made 0 1 ∷ []) prescriber_formulas 4 ≡ true
unfolding meaning true_below
same_prescriber = refl

pub other_prescriber : true_at (prescribed 0 2 ∷ prescribed 1 3 ∷ made 0 1 ∷ []) prescriber_formulas 4 ≡ false
unfolding meaning true_below
other_prescriber = refl

pub second_prescriber : true_at (prescribed 0 2 ∷ prescribed 0 3 ∷ prescribed 1 3 ∷ made 0 1 ∷ []) prescriber_formulas 4 ≡ true
unfolding meaning true_below
second_prescriber = refl

-- Ana prescribed the crown, and designed it; Ben designed it
pub prescriber_designed : true_at (prescribed 0 2 ∷ designed 0 2 ∷ []) prescriber_formulas 9 ≡ true
unfolding meaning true_below
prescriber_designed = refl

pub other_designed : true_at (prescribed 0 2 ∷ designed 0 3 ∷ []) prescriber_formulas 9 ≡ false
unfolding meaning true_below
other_designed = refl

-- with the crown hidden it is asked of the person whether the person designed it
pub crown_hidden : true_at (prescribed 0 2 ∷ designed 0 2 ∷ []) prescriber_formulas 13 ≡ false
unfolding meaning true_below
crown_hidden = refl

pub person_asked : true_at (prescribed 0 2 ∷ designed 2 2 ∷ []) prescriber_formulas 13 ≡ true
unfolding meaning true_below
person_asked = refl

-- One edge, from 0 to 1. 0: slot 0 holds here. 1: back over the edge, slot 0 holds here. 2: the same with here kept in slot 0 first.
-- 3: over the edge, 1. 4: keep here, 3. 5: over the edge, 2. 6: keep here, 5. 7: 2 or 1. 8: over the edge, 7. 9: keep here, 8.
-- 10: keep here, 0. 11: 10 and 0. 12: here is the object. 13: 12 at the vertex in slot 0. 14: over the edge, 13. 15: keep here, 14.
abbrev slot_formulas : Formulas
slot_formulas =
    record {
      ops = 10 ∷ 8 ∷ 9 ∷ 7 ∷ 9 ∷ 7 ∷ 9 ∷ 6 ∷ 7 ∷ 9 ∷ 9 ∷ 5 ∷ 2 ∷ 11 ∷ 7 ∷ 9 ∷ [];
      lefts = 0 ∷ 0 ∷ 0 ∷ 0 ∷ 0 ∷ 0 ∷ 0 ∷ 2 ∷ 0 ∷ 0 ∷ 0 ∷ 10 ∷ 0 ∷ 0 ∷ 0 ∷ 0 ∷ [];
      rights = 0 ∷ 0 ∷ 1 ∷ 1 ∷ 3 ∷ 2 ∷ 5 ∷ 1 ∷ 7 ∷ 8 ∷ 0 ∷ 0 ∷ 0 ∷ 12 ∷ 13 ∷ 14 ∷ [];
    }

abbrev one_edge : List (List ℕ)
one_edge = (0 ∷ 0 ∷ 1 ∷ []) ∷ []

-- "Op 9 keeps here in slot a (0 to 3) while b is evaluated"
pub kept_on_the_way : true_at one_edge slot_formulas 4 ≡ true
unfolding meaning true_below
kept_on_the_way = refl

-- "an inner op 9 on the same slot hides the outer"; past the inner one the outer is there again
pub inner_hides : true_at one_edge slot_formulas 6 ≡ false
unfolding meaning true_below
inner_hides = refl

pub outer_again : true_at one_edge slot_formulas 9 ≡ true
unfolding meaning true_below
outer_again = refl

-- a slot is kept while b is evaluated, and no longer
pub not_beside : true_at one_edge slot_formulas 11 ≡ false
unfolding meaning true_below
not_beside = refl

-- "Op 11 evaluates b at the vertex in slot a"
pub at_kept_vertex : true_at one_edge slot_formulas 15 ≡ true
unfolding meaning true_below
at_kept_vertex = refl

-- "An unset slot makes 10 and 11 false. All slots are unset at the start of an evaluation."
pub unset_slot : (true_at one_edge slot_formulas 0 ≡ false) × (true_at one_edge slot_formulas 13 ≡ false)
unfolding meaning true_below
unset_slot = (refl, refl)
