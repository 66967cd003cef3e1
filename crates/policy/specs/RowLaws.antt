-- What each kind's check of a line is, by the line's numbers; and what a line that passes says.
use Rattle.std.specs.Prelude.{ℕ, ◌<◌, ◌≡◌, Bool, true, not, ◌&&◌, List, [], ◌∷◌, leb}
use Rattle.std.proofs.Math.Path.{refl}
use Rattle.std.proofs.Common.{sym, ◌∙◌, ap, arith, leb-false}
use Rattle.std.proofs.Math.Bool.{false}
use Rattle.std.proofs.Math.Dec.{ltb}
use Rattle.common.specs.Limits.{most_demarcations, most_edges, most_formulas, most_methods, most_principals}
use Rattle.common.specs.Causes.{first}
use Rattle.policy.specs.declared.Record.{Record}
use Rattle.policy.specs.Table.{Kind, user, edge, formula, demarcation, hierarchy, principal, exclusion, prerequisite, method, room}
use Rattle.rows.specs.Op.{op_of, height_of, formula_in_range}
use Rattle.policy.specs.Height.{height}
use Rattle.rows.specs.Checks.{edge_in_range, pair_in_range, edge_key, pair_key, causes}
use Rattle.policy.specs.Rows.{limited, in_range, rising, key, minimum_key, row_causes, row_refusal}

module _ (r : Record) (i : ℕ) where
  pub user_values : (o w : ℕ) {least : ℕ} → least ≡ minimum_key user i r
      → first (causes false (not (ltb o r.objects)) (ltb o least)) ≡ row_refusal user i r (o ∷ w ∷ [])
  unfolding row_refusal row_causes in_range
  user_values o w e = λ j. first (causes false (not (ltb o r.objects)) (ltb o (e j)))

  pub edge_values : (l x y : ℕ) {least : ℕ} → least ≡ minimum_key edge i r
      → first (causes (leb most_edges i) (not (edge_in_range r.objects l x y)) (ltb (edge_key l x y) least))
      ≡ row_refusal edge i r (l ∷ x ∷ y ∷ [])
  unfolding row_refusal row_causes in_range
  edge_values l x y e = λ j. first (causes (leb most_edges i) (not (edge_in_range r.objects l x y)) (ltb (edge_key l x y) (e j)))

  pub formula_values : (op a b : ℕ) {h : ℕ} → h ≡ height_of (op_of op) a b (height r i)
      → first (causes (leb most_formulas i) (not (formula_in_range i op a b h)) false) ≡ row_refusal formula i r (op ∷ a ∷ b ∷ [])
  unfolding row_refusal row_causes in_range
  formula_values op a b e = λ j. first (causes (leb most_formulas i) (not (formula_in_range i op a b (e j))) false)

  pub demarcation_values : (w : ℕ) → first (causes (leb most_demarcations i) false false) ≡ row_refusal demarcation i r (w ∷ [])
  unfolding row_refusal row_causes in_range
  demarcation_values w = refl

  pub hierarchy_values : (a b : ℕ) {least : ℕ} → least ≡ minimum_key hierarchy i r
      → first (causes false (not (pair_in_range r.demarcation_count a b)) (ltb (pair_key a b) least))
      ≡ row_refusal hierarchy i r (a ∷ b ∷ [])
  unfolding row_refusal row_causes in_range
  hierarchy_values a b e = λ j. first (causes false (not (pair_in_range r.demarcation_count a b)) (ltb (pair_key a b) (e j)))

  pub principal_values : (f d : ℕ)
      → first (causes (leb most_principals i) (not (ltb f r.formula_count && ltb d r.demarcation_count)) false)
      ≡ row_refusal principal i r (f ∷ d ∷ [])
  unfolding row_refusal row_causes in_range
  principal_values f d = refl

  pub exclusion_values : (p q : ℕ) {least : ℕ} → least ≡ minimum_key exclusion i r
      → first (causes false (not (ltb p q && ltb q r.principal_count)) (ltb (pair_key p q) least))
      ≡ row_refusal exclusion i r (p ∷ q ∷ [])
  unfolding row_refusal row_causes in_range
  exclusion_values p q e = λ j. first (causes false (not (ltb p q && ltb q r.principal_count)) (ltb (pair_key p q) (e j)))

  pub prerequisite_values : (p q : ℕ) {least : ℕ} → least ≡ minimum_key prerequisite i r
      → first (causes false (not (pair_in_range r.principal_count p q)) (ltb (pair_key p q) least))
      ≡ row_refusal prerequisite i r (p ∷ q ∷ [])
  unfolding row_refusal row_causes in_range
  prerequisite_values p q e = λ j. first (causes false (not (pair_in_range r.principal_count p q)) (ltb (pair_key p q) (e j)))

  pub method_values : (f w : ℕ) → first (causes (leb most_methods i) (not (leb f 1)) false) ≡ row_refusal method i r (f ∷ w ∷ [])
  unfolding row_refusal row_causes in_range
  method_values f w = refl

-- ---- a line that passes

pub passed : (over out falls : Bool) → first (causes over out falls) ≡ 0 → (over ≡ false) × (out ≡ false) × (falls ≡ false)
passed true out falls e = absurd (omega arith)
passed false true falls e = absurd (omega arith)
passed false false true e = absurd (omega arith)
passed false false false e = (refl, refl, refl)

-- a kind with a limit has room for it
pub row_limit : (k : Kind) (i : ℕ) (r : Record) (v : List ℕ) → limited k ≡ true → row_refusal k i r v ≡ 0 → i < room k
unfolding row_refusal row_causes
row_limit k i r v l e =
    leb-false (room k) i (sym (ap (λ (b : Bool). b && leb (room k) i) l)
    ∙ (passed (limited k && leb (room k) i) (not (in_range k i r v)) (rising k && ltb (key k v) (minimum_key k i r)) e).0)
