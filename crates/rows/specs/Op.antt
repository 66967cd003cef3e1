-- Formulas in range: their ops, parts and heights (document 01, "Formulas"; requests 2026-03 and 2026-05).
use Rattle.std.specs.Prelude.{Bool, false, cond, ◌&&◌, ℕ, suc, max, ltb, leb, eqb}
use Rattle.common.specs.Limits.{highest_label, highest_role, highest_slot, greatest_height}

-- 0 true; 1 here is s; 2 here is o; 3 s holds role a; 4 not a; 5 a and b; 6 a or b;
-- 7 some edge (a, here, v) has b true at v; 8 some edge (a, v, here) has b true at v;
-- "Op 9 keeps here in slot a (0 to 3) while b is evaluated"; "Op 10 is true when slot a holds here, with b = 0";
-- "Op 11 evaluates b at the vertex in slot a"
pub data Op : Type 0 where
  always requestor object role negation conjunction disjunction forward backward keeping in_slot at_slot unknown : Op

abbrev pub op_of : ℕ → Op
op_of n =
    cond (eqb n 0) always
    (cond (eqb n 1) requestor
    (cond (eqb n 2) object
    (cond (eqb n 3) role
    (cond (eqb n 4) negation
    (cond (eqb n 5) conjunction
    (cond (eqb n 6) disjunction
    (cond (eqb n 7) forward
    (cond (eqb n 8) backward
    (cond (eqb n 9) keeping
    (cond (eqb n 10) in_slot
    (cond (eqb n 11) at_slot
    unknown)))))))))))

-- a and b of the formula numbered i: formula numbers below i, a role or label 0 to 15, a slot 0 to 3, 0 where unused;
-- "An op is now out of range above 11."
abbrev pub parts_in_range : Op → ℕ → ℕ → ℕ → Bool
parts_in_range always i a b = eqb a 0 && eqb b 0
parts_in_range requestor i a b = eqb a 0 && eqb b 0
parts_in_range object i a b = eqb a 0 && eqb b 0
parts_in_range role i a b = leb a highest_role && eqb b 0
parts_in_range negation i a b = ltb a i && eqb b 0
parts_in_range conjunction i a b = ltb a i && ltb b i
parts_in_range disjunction i a b = ltb a i && ltb b i
parts_in_range forward i a b = leb a highest_label && ltb b i
parts_in_range backward i a b = leb a highest_label && ltb b i
parts_in_range keeping i a b = leb a highest_slot && ltb b i
parts_in_range in_slot i a b = leb a highest_slot && eqb b 0
parts_in_range at_slot i a b = leb a highest_slot && ltb b i
parts_in_range unknown i a b = false

-- 0 for ops 0 to 3, else one more than the highest child; "In 9 and 11, .. the height is one more than b's; op 10 has height 0";
-- `part g` is the height of formula g
abbrev pub height_of : Op → ℕ → ℕ → (ℕ → ℕ) → ℕ
height_of always a b part = 0
height_of requestor a b part = 0
height_of object a b part = 0
height_of role a b part = 0
height_of negation a b part = suc (part a)
height_of conjunction a b part = suc (max (part a) (part b))
height_of disjunction a b part = suc (max (part a) (part b))
height_of forward a b part = suc (part b)
height_of backward a b part = suc (part b)
height_of keeping a b part = suc (part b)
height_of in_slot a b part = 0
height_of at_slot a b part = suc (part b)
height_of unknown a b part = 0

-- the formula (op, a, b) numbered i, with a height h, is in range; request 2026-05: "Height 6 is out of range, in a bundle and in a record
-- handed in": both are judged by this
abbrev pub formula_in_range : ℕ → ℕ → ℕ → ℕ → ℕ → Bool
formula_in_range i op a b h = parts_in_range (op_of op) i a b && leb h greatest_height
