-- A line is held to the same in two records that agree on what stands above it; and a loadable record's lines pass.
use Rattle.std.specs.Prelude.{ℕ, zero, suc, ◌+◌, ◌<◌, ◌≡◌, refl, true, not, ◌&&◌, List, ltb, leb, eqb}
use Rattle.std.proofs.Common.{sym, ◌∙◌, ap, arith, eq-eqb, ne_eqb, eqb-true}
use Rattle.std.proofs.Math.Decide.{ℕ_discrete}
use Rattle.common.specs.Lists.{at, below}
use Rattle.common.specs.ListLaws.{every_at, length_table, table_at}
use Rattle.common.specs.Causes.{first}
use Rattle.policy.specs.declared.Record.{Record}
use Rattle.policy.specs.Table.{Kind, head, user, edge, formula, demarcation, hierarchy, principal, exclusion, prerequisite, method, end}
use Rattle.policy.specs.Table.{code, count, room, row}
use Rattle.rows.specs.Op.{op_of, height_of, formula_in_range}
use Rattle.policy.specs.Height.{height_in, height}
use Rattle.rows.specs.Checks.{causes}
use Rattle.policy.specs.Rows.{limited, rising, key, minimum_key, in_range, row_causes, row_refusal}
use Rattle.policy.specs.Loadable.{loadable}
use Rattle.policy.specs.LoadableLaws.{loadable_table, table_rows}

-- p and r agree on what is above the place i of kind k's table: objects, counts of earlier kinds, earlier lines
pub record Agree (k : Kind) (i : ℕ) (p r : Record) : Type 0 where
  pub objects : p.objects ≡ r.objects
  pub counts : (j : Kind) → code j < code k → count j p ≡ count j r
  pub above : (m : ℕ) → m < i → row k m p ≡ row k m r

same_height : (p r : Record) (i : ℕ) → ((m : ℕ) → m < i → row formula m p ≡ row formula m r) → (g : ℕ) → height p i g ≡ height r i g
unfolding height_in
same_height p r zero e g = refl
same_height p r (suc i) e g = go (ℕ_discrete g i) (same_height p r i (λ m l. e m (omega arith)))
  where
    go : Dec (g ≡ i) → ((f : ℕ) → height p i f ≡ height r i f) → height p (suc i) g ≡ height r (suc i) g
    go (yes q) h = let u = e g (omega arith) in rw (eq-eqb g i q) (λ t. height_of (op_of (at (u t) 0)) (at (u t) 1) (at (u t) 2) (λ f. h f t))
    go (no q) h = rw (ne_eqb g i q) (h g)

same_least : (k : Kind) (i : ℕ) (p r : Record) → Agree k i p r → minimum_key k i p ≡ minimum_key k i r
same_least k zero p r a = refl
same_least k (suc i) p r a = λ t. key k (a.above i (omega arith) t) + 1

same_range : (k : Kind) (i : ℕ) (p r : Record) → Agree k i p r → (v : List ℕ) → in_range k i p v ≡ in_range k i r v
unfolding in_range
same_range head i p r a v = refl
same_range user i p r a v = rw a.objects
same_range edge i p r a v = rw a.objects
same_range formula i p r a v =
    λ t. formula_in_range i (at v 0) (at v 1) (at v 2) (height_of (op_of (at v 0)) (at v 1) (at v 2) (λ g. same_height p r i a.above g t))
same_range demarcation i p r a v = refl
same_range hierarchy i p r a v = rw (a.counts demarcation (omega arith))
same_range principal i p r a v = rw (a.counts formula (omega arith), a.counts demarcation (omega arith))
same_range exclusion i p r a v = rw (a.counts principal (omega arith))
same_range prerequisite i p r a v = rw (a.counts principal (omega arith))
same_range method i p r a v = refl
same_range end i p r a v = refl

-- THE LAW
pub same_refusal : (k : Kind) (i : ℕ) (p r : Record) → Agree k i p r → (v : List ℕ) → row_refusal k i p v ≡ row_refusal k i r v
unfolding row_refusal row_causes
same_refusal k i p r a v =
    λ t. first (causes (limited k && leb (room k) i) (not (same_range k i p r a v t)) (rising k && ltb (key k v) (same_least k i p r a t)))

-- the head is held to its own numbers only
pub head_refusal_lem : (p r : Record) (v : List ℕ) → row_refusal head 1 p v ≡ row_refusal head 0 r v
unfolding row_refusal row_causes in_range
head_refusal_lem p r v = refl

-- the lines of a loadable record pass their check
pub row_passes : (r : Record) → loadable r ≡ true → (k : Kind) (i : ℕ) → i < count k r → row_refusal k i r (row k i r) ≡ 0
row_passes r loads k i l =
    let n = length_table (count k r) (λ (m : ℕ). m) in
    let e = every_at (λ m. eqb (row_refusal k m r (row k m r)) 0) (below (count k r)) i 0 (table_rows r k (loadable_table r loads k))
    (omega arith) in
    let s = table_at (count k r) (λ (m : ℕ). m) i 0 l in
    eqb-true _ _ (ap (λ (m : ℕ). eqb (row_refusal k m r (row k m r)) 0) (sym s) ∙ e)
