-- The exclusions of each principal, pair by pair, as the loop goes.
use Rattle.std.specs.Prelude.{ℕ, suc, ◌+◌, ◌^◌, ◌<◌, ◌≡◌, refl, ◌↔◌, ◌⊎◌, true, List, [], ◌∷◌, length, set, eqb}
use Rattle.std.proofs.Common.{sym, ◌∙◌, ap, subst, inl, inr, ⊎_elim, arith, add-one, length-set, eqb-true, eq-eqb}
use Rattle.std.proofs.Math.Decide.{ℕ_discrete}
use Rattle.std.proofs.Math.Seq.{get_or-set_same, get_or-set_other}
use Rattle.std.specs.Int.Bits.{bit_or}
use Rattle.common.specs.Limits.{most_principals}
use Rattle.common.specs.Lists.{at, any, same}
use Rattle.common.specs.ListLaws.{any_more}
use Rattle.common.specs.Sets.{In}
use Rattle.common.specs.SetLaws.{in_or_l, in_or_r, or_in, in_pow, pow_in}
use Rattle.common.specs.BoolLaws.{and_cases, and_both, or_cases, or_left, or_right}
use Rattle.closure.specs.Closure.{pairs_of}
use Rattle.justification.specs.Satisfying.{AmongPairs}

-- ---- one member more at an index

pub set_in : (l : List ℕ) (i v x y : ℕ) → i < length l → {w : ℕ} → w ≡ bit_or (at l i) (2 ^ v)
    → (In y (at (set l i w) x) ↔ (In y (at l x) ⊎ ((i ≡ x) × (v ≡ y))))
set_in l i v x y h {w} e = go (ℕ_discrete x i)
  where
    go : Dec (x ≡ i) → (In y (at (set l i w) x) ↔ (In y (at l x) ⊎ ((i ≡ x) × (v ≡ y))))
    go (yes q) =
        let here : at (set l i w) x ≡ bit_or (at l x) (2 ^ v) = ap (at (set l i w)) q ∙ get_or-set_same l i w 0 h ∙ e ∙ ap
        (λ (n : ℕ). bit_or (at l n) (2 ^ v)) (sym q) in (
          λ m. ⊎_elim (λ z. inl z) (λ z. inr (sym q, sym (pow_in v z))) (or_in (at l x) (2 ^ v) (subst (In y) here m)),
          λ m. subst (In y) (sym here)
              (⊎_elim (λ z. in_or_l (2 ^ v) z) (λ z. in_or_r (at l x) (subst (λ (n : ℕ). In n (2 ^ v)) z.1 (in_pow v))) m),
        )
    go (no f) =
        let here : at (set l i w) x ≡ at l x = get_or-set_other l i x w 0 f in (
          λ m. inl (subst (In y) here m),
          λ m. subst (In y) (sym here) (⊎_elim (λ z. z) (λ z. absurd (f (sym z.0))) m),
        )

-- both members of a pair, each at the other's index
pub pair_in : (m : List ℕ) (a b : ℕ) → length m ≡ most_principals → a < most_principals → b < most_principals
    → {v w : ℕ} → v ≡ bit_or (at m a) (2 ^ b)
    → w ≡ bit_or (at (set m a v) b) (2 ^ a)
    → (x y : ℕ) → (In y (at (set (set m a v) b w) x) ↔ (In y (at m x) ⊎ (((a ≡ x) × (b ≡ y)) ⊎ ((b ≡ x) × (a ≡ y)))))
pair_in m a b long la lb {v} ev ew x y =
    let first = set_in m a b x y (omega arith) ev in
    let second = set_in (set m a v) b a x y (omega (arith, length-set m a v)) ew in (
      λ h. ⊎_elim (λ z. ⊎_elim (λ u. inl u) (λ u. inr (inl u)) (first.0 z)) (λ z. inr (inr z)) (second.0 h),
      λ h. second.1 (⊎_elim (λ z. inl (first.1 (inl z))) (⊎_elim (λ z. inl (first.1 (inr z))) (λ z. inr z)) h),
    )

-- ---- the pairs

same_pair : (x y a b : ℕ) → (same (x ∷ y ∷ []) (a ∷ b ∷ []) ≡ true ↔ ((a ≡ x) × (b ≡ y)))
same_pair x y a b = (
  λ e. let (p, q) = and_cases (eqb x a) _ e in (sym (eqb-true x a p), sym (eqb-true y b (and_cases (eqb y b) true q).0)),
  λ (p, q). and_both (eqb x a) _ (eq-eqb x a (sym p)) (and_both (eqb y b) true (eq-eqb y b (sym q)) refl),
)

module _ (lows highs : List ℕ) where
  pub record Excludes (i : ℕ) (sets : List ℕ) : Type 0 where
    pub sized : length sets ≡ most_principals
    pub each : (p q : ℕ) → p < most_principals → (In q (at sets p) ↔ AmongPairs i lows highs p q)

  one_more : (i p q : ℕ) → any (same (p ∷ q ∷ [])) (pairs_of (suc i) lows highs) ≡ true
      ↔ ((any (same (p ∷ q ∷ [])) (pairs_of i lows highs) ≡ true) ⊎ ((at lows i ≡ p) × (at highs i ≡ q)))
  one_more i p q =
      let e = any_more (same (p ∷ q ∷ [])) i (λ k. at lows k ∷ at highs k ∷ []) in
      let s = same_pair p q (at lows i) (at highs i) in (
        λ t. ⊎_elim (λ x. inl x) (λ x. inr (s.0 x)) (or_cases _ _ (sym e ∙ t)),
        λ t. e ∙ ⊎_elim (λ x. or_left _ _ x) (λ x. or_right (any (same (p ∷ q ∷ [])) (pairs_of i lows highs)) _ (s.1 x)) t,
      )

  pub excludes_more : {i a b v w : ℕ} {sets : List ℕ} → Excludes i sets → a ≡ at lows i → b ≡ at highs i
      → a < most_principals → b < most_principals → v ≡ bit_or (at sets a) (2 ^ b) → w ≡ bit_or (at (set sets a v) b) (2 ^ a)
      → Excludes (i + 1) (set (set sets a v) b w)
  excludes_more {i} {a} {b} {v} {w} {sets} h ea eb la lb ev ew =
      subst (λ (n : ℕ). Excludes n after) (sym (add-one i)) (record { sized = simp length-set h.sized; each = λ p q l. (there p q l, back p q l) })
    where
      after : List ℕ
      after = set (set sets a v) b w

      more : (x y : ℕ) → (In y (at after x) ↔ (In y (at sets x) ⊎ (((a ≡ x) × (b ≡ y)) ⊎ ((b ≡ x) × (a ≡ y)))))
      more = pair_in sets a b h.sized la lb ev ew

      there : (p q : ℕ) → p < most_principals → In q (at after p) → AmongPairs (suc i) lows highs p q
      there p q l m =
          ⊎_elim
          (λ x. ⊎_elim (λ y. or_left _ _ ((one_more i p q).1 (inl y)))
          (λ y. or_right (any (same (p ∷ q ∷ [])) (pairs_of (suc i) lows highs)) _ ((one_more i q p).1 (inl y)))
          (or_cases _ _ ((h.each p q l).0 x)))
          (λ x. ⊎_elim
          (λ (y, z). or_left _ _ ((one_more i p q).1 (inr (sym ea ∙ y, sym eb ∙ z))))
          (λ (y, z). or_right (any (same (p ∷ q ∷ [])) (pairs_of (suc i) lows highs)) _ ((one_more i q p).1 (inr (sym ea ∙ z, sym eb ∙ y))))
          x)
          ((more p q).0 m)

      back : (p q : ℕ) → p < most_principals → AmongPairs (suc i) lows highs p q → In q (at after p)
      back p q l m =
          (more p q).1
          (⊎_elim
          (λ x. ⊎_elim (λ y. inl ((h.each p q l).1 (or_left _ _ y))) (λ (y, z). inr (inl (ea ∙ y, eb ∙ z))) ((one_more i p q).0 x))
          (λ x. ⊎_elim (λ y. inl ((h.each p q l).1 (or_right (any (same (p ∷ q ∷ [])) (pairs_of i lows highs)) _ y)))
          (λ (y, z). inr (inr (eb ∙ z, ea ∙ y))) ((one_more i q p).0 x))
          (or_cases _ _ m))
