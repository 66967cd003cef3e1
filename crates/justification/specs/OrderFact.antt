-- The order fact: of the sets that pass, `first_among` over `all_sets` finds the one with fewest members; of those, with fewest role principals;
-- and of those, with the smallest number.
use Rattle.std.specs.Prelude.{ℕ, zero, suc, ◌+◌, ◌-◌, ◌%◌, ◌^◌, ◌≤◌, ◌<◌, ◌≡◌, refl, ◌⊎◌, Bool, true, false, cond, ◌&&◌, List, [], ◌∷◌, ◌++◌, map, eqb}
use Rattle.std.proofs.Common.{sym, ◌∙◌, ap, subst, inl, inr, ⊎_elim, arith, add_comm, eqb-true, eq-eqb, pow_pos}
use Rattle.std.proofs.lemmas.Bool.{false≢true}
use Rattle.std.proofs.Math.Option.{Option, none, some}
use Rattle.std.proofs.Math.Decide.{dec_lt}
use Rattle.std.specs.Int.Count.{ones}
use Rattle.std.proofs.lemmas.Nat.{ones-le}
use Rattle.common.specs.BoolLaws.{and_cases, and_both}
use Rattle.common.specs.CountLaws.{ones_zero, no_ones, ones_top, power_double}
use Rattle.common.specs.Lists.{every, those}
use Rattle.policy.specs.declared.Record.{Record}
use Rattle.search.specs.Search.{Before}
use Rattle.search.specs.Search.Before.{by_members, by_roles, by_number}
use Rattle.search.proofs.SearchLaws.{before_antisym}
use Rattle.justification.specs.Justification.{members, meets, consistent, role_count, sets, by_role_count, by_size, all_sets, first_among, candidates, least}
use Rattle.justification.specs.RoleCountLaws.{role_few}
use Rattle.justification.specs.Order.{IsLeast}

-- ---- `first_among` of a list in two parts, of a mapped list, of a list that was sifted
abbrev or_else : Option ℕ → Option ℕ → Option ℕ
or_else none o = o
or_else (some c) o = some c

abbrev mapped : (ℕ → ℕ) → Option ℕ → Option ℕ
mapped f none = none
mapped f (some c) = some (f c)

first_append : (p : ℕ → Bool) (l m : List ℕ) → first_among p (l ++ m) ≡ or_else (first_among p l) (first_among p m)
first_append p [] m = refl
first_append p (x ∷ l) m = go (p x) (first_append p l m)
  where
    go : (b : Bool) → first_among p (l ++ m) ≡ or_else (first_among p l) (first_among p m)
        → cond b (some x) (first_among p (l ++ m)) ≡ or_else (cond b (some x) (first_among p l)) (first_among p m)
    go true e = refl
    go false e = e

first_map : (p : ℕ → Bool) (f : ℕ → ℕ) (l : List ℕ) → first_among p (map f l) ≡ mapped f (first_among (λ x. p (f x)) l)
first_map p f [] = refl
first_map p f (x ∷ l) = go (p (f x)) (first_map p f l)
  where
    go : (b : Bool) → first_among p (map f l) ≡ mapped f (first_among (λ y. p (f y)) l)
        → cond b (some (f x)) (first_among p (map f l)) ≡ mapped f (cond b (some x) (first_among (λ y. p (f y)) l))
    go true e = refl
    go false e = e

pub first_those : (q p : ℕ → Bool) (l : List ℕ) → first_among q (those p l) ≡ first_among (λ x. p x && q x) l
first_those q p [] = refl
first_those q p (x ∷ l) = go (p x) (first_those q p l)
  where
    go : (b : Bool) → first_among q (those p l) ≡ first_among (λ y. p y && q y) l
        → first_among q (cond b (x ∷ those p l) (those p l)) ≡ cond (b && q x) (some x) (first_among (λ y. p y && q y) l)
    go true e = ap (cond (q x) (some x)) e
    go false e = e

-- ---- counting members

ones_above : (m x : ℕ) → x < 2 ^ m → ones (x + 2 ^ m) ≡ 1 + ones x
ones_above m x l = ap ones (add_comm x (2 ^ m)) ∙ ones_top m x l

-- y is below m, or holds m
split : (m y : ℕ) → y < 2 ^ suc m → (y < 2 ^ m) ⊎ ((x : ℕ) × (y ≡ x + 2 ^ m) × (x < 2 ^ m))
split m y l = elim (dec_lt y (2 ^ m)) [ yes h ↦ inl h | no f ↦ inr (y - 2 ^ m, omega arith, omega (arith, power_double m)) ]

-- ---- the sets of one size
abbrev LeastOf : ℕ → ℕ → (ℕ → Bool) → Option ℕ → Type 0
LeastOf n k p none = (y : ℕ) → y < 2 ^ n → ones y ≡ k → p y ≡ true → ⊥
LeastOf n k p (some c) = (c < 2 ^ n) × (ones c ≡ k) × (p c ≡ true) × ((y : ℕ) → y < 2 ^ n → ones y ≡ k → p y ≡ true → c ≤ y)

alone : (n : ℕ) (p : ℕ → Bool) (b : Bool) → p 0 ≡ b → LeastOf n 0 p (cond b (some 0) none)
alone n p true e = (pow_pos n, ones_zero, e, λ y l o t. omega arith)
alone n p false e = λ y l o t. false≢true (sym e ∙ subst (λ (z : ℕ). p z ≡ true) (no_ones y o) t)

both : (n k : ℕ) (p : ℕ → Bool) (a b : Option ℕ) → LeastOf n (suc k) p a → LeastOf n k (λ x. p (x + 2 ^ n)) b
    → LeastOf (suc n) (suc k) p (or_else a (mapped (λ x. x + 2 ^ n) b))
both n k p (some c) b f g =
    let d = power_double n in
    let q = f.0 in
    (omega arith, f.1, f.2, λ y l o t. ⊎_elim (λ h. f.3 y h o t) (λ h. let e = h.1 in omega arith) (split n y l))
both n k p none (some c) f g =
    let d = power_double n in
    let q = g.0 in
    let o = g.1 in
    let u = ones_above n c q in (
      omega arith,
      omega arith,
      g.2,
      λ y l s t. ⊎_elim
          (λ h. absurd (f y h s t))
          (λ h.
          let e = h.1 in
          let v = ones_above n h.0 h.2 in
          let w : ones (h.0 + 2 ^ n) ≡ suc k = subst (λ (z : ℕ). ones z ≡ suc k) e s in
          let m = g.3 h.0 h.2 (omega arith) (subst (λ (z : ℕ). p z ≡ true) e t) in
          omega arith)
          (split n y l),
    )
both n k p none none f g = λ y l s t. ⊎_elim
    (λ h. f y h s t)
    (λ h.
    let e = h.1 in
    let v = ones_above n h.0 h.2 in
    let w : ones (h.0 + 2 ^ n) ≡ suc k = subst (λ (z : ℕ). ones z ≡ suc k) e s in
    g h.0 h.2 (omega arith) (subst (λ (z : ℕ). p z ≡ true) e t))
    (split n y l)

of_size : (n k : ℕ) (p : ℕ → Bool) → LeastOf n k p (first_among p (sets n k))
of_size zero zero p = alone 0 p (p 0) refl
of_size zero (suc k) p = λ y l o t. let e : y ≡ 0 = omega arith in let z = subst (λ (x : ℕ). ones x ≡ suc k) e o in omega (arith, ones_zero)
of_size (suc n) zero p = alone (suc n) p (p 0) refl
of_size (suc n) (suc k) p =
    subst (LeastOf (suc n) (suc k) p)
    (sym (first_append p (sets n (suc k)) (map (λ c. c + 2 ^ n) (sets n k))
    ∙ ap (or_else (first_among p (sets n (suc k)))) (first_map p (λ c. c + 2 ^ n) (sets n k))))
    (both n k p (first_among p (sets n (suc k))) (first_among (λ x. p (x + 2 ^ n)) (sets n k)) (of_size n (suc k) p)
    (of_size n k (λ x. p (x + 2 ^ n))))

smaller : (a k : ℕ) → a < suc k → (a < k) ⊎ (a ≡ k)
smaller a k l = elim (dec_lt a k) [ yes h ↦ inl h | no f ↦ inr (omega arith) ]

-- ---- where `count` says how many members of a set are role principals
module _ (count : ℕ → ℕ) where
  -- ---- the sets of one size that have fewer than j of these
  abbrev LeastByRoleCount : ℕ → ℕ → ℕ → (ℕ → Bool) → Option ℕ → Type 0
  LeastByRoleCount n k j p none = (y : ℕ) → y < 2 ^ n → ones y ≡ k → count y < j → p y ≡ true → ⊥
  LeastByRoleCount n k j p (some c) =
      (c < 2 ^ n) × (ones c ≡ k) × (count c < j) × (p c ≡ true)
      × ((y : ℕ) → y < 2 ^ n → ones y ≡ k → count y < j → p y ≡ true → Before count c y)

  -- with j of them, and passing
  abbrev having : ℕ → (ℕ → Bool) → ℕ → Bool
  having j p c = eqb (count c) j && p c

  has_both : (j : ℕ) (p : ℕ → Bool) (y : ℕ) → count y ≡ j → p y ≡ true → having j p y ≡ true
  has_both j p y e t = and_both (eqb (count y) j) (p y) (eq-eqb (count y) j e) t

  next_role_count : (n k j : ℕ) (p : ℕ → Bool) (a b : Option ℕ) → LeastByRoleCount n k j p a → LeastOf n k (having j p) b
      → LeastByRoleCount n k (suc j) p (or_else a b)
  next_role_count n k j p (some c) b f g =
      let q = f.2 in (
        f.0,
        f.1,
        omega arith,
        f.3,
        λ y l o u t. ⊎_elim
            (λ h. f.4 y l o h t)
            (λ h. by_roles (f.1 ∙ sym o) (omega arith))
            (smaller (count y) j u),
      )
  next_role_count n k j p none (some c) f g =
      let (x, t) = and_cases (eqb (count c) j) (p c) g.2 in
      let e = eqb-true (count c) j x in (
        g.0,
        g.1,
        omega arith,
        t,
        λ y l o u v. ⊎_elim
            (λ h. absurd (f y l o h v))
            (λ h. by_number (g.1 ∙ sym o) (e ∙ sym h) (g.3 y l o (has_both j p y h v)))
            (smaller (count y) j u),
      )
  next_role_count n k j p none none f g = λ y l o u t. ⊎_elim
      (λ h. f y l o h t)
      (λ h. g y l o (has_both j p y h t))
      (smaller (count y) j u)

  of_role_count : (n k j : ℕ) (p : ℕ → Bool) → LeastByRoleCount n k j p (first_among p (by_role_count count (sets n k) j))
  of_role_count n k zero p = λ y l o u t. omega arith
  of_role_count n k (suc j) p =
      subst (LeastByRoleCount n k (suc j) p)
      (sym (first_append p (by_role_count count (sets n k) j) (those (λ c. eqb (count c) j) (sets n k))
      ∙ ap (or_else (first_among p (by_role_count count (sets n k) j))) (first_those p (λ c. eqb (count c) j) (sets n k))))
      (next_role_count n k j p (first_among p (by_role_count count (sets n k) j)) (first_among (having j p) (sets n k)) (of_role_count n k j p)
      (of_size n k (having j p)))

  -- ---- the sets of every size below k
  abbrev LeastUpTo : ℕ → ℕ → (ℕ → Bool) → Option ℕ → Type 0
  LeastUpTo n k p none = (y : ℕ) → y < 2 ^ n → ones y < k → p y ≡ true → ⊥
  LeastUpTo n k p (some c) =
      (c < 2 ^ n) × (ones c < k) × (p c ≡ true) × ((y : ℕ) → y < 2 ^ n → ones y < k → p y ≡ true → Before count c y)

  -- no set of principals below n has more role principals than members
  module _ (n : ℕ) (few : (y : ℕ) → y < 2 ^ n → count y ≤ ones y) where
    next : (k : ℕ) (p : ℕ → Bool) (a b : Option ℕ) → LeastUpTo n k p a → LeastByRoleCount n k (suc k) p b
        → LeastUpTo n (suc k) p (or_else a b)
    next k p (some c) b f g =
        let q = f.1 in
        (f.0, omega arith, f.2, λ y l o t. ⊎_elim (λ h. f.3 y l h t) (λ h. by_members (omega arith)) (smaller (ones y) k o))
    next k p none (some c) f g =
        let q = g.1 in (
          g.0,
          omega arith,
          g.3,
          λ y l o t. ⊎_elim (λ h. absurd (f y l h t)) (λ h. g.4 y l h (omega (arith, few y l)) t)
              (smaller (ones y) k o),
        )
    next k p none none f g = λ y l o t. ⊎_elim (λ h. f y l h t) (λ h. g y l h (omega (arith, few y l)) t) (smaller (ones y) k o)

    up_to : (k : ℕ) (p : ℕ → Bool) → LeastUpTo n k p (first_among p (by_size count n k))
    up_to zero p = λ y l o t. omega arith
    up_to (suc k) p =
        subst (LeastUpTo n (suc k) p) (sym (first_append p (by_size count n k) (by_role_count count (sets n k) (suc k))))
        (next k p (first_among p (by_size count n k)) (first_among p (by_role_count count (sets n k) (suc k))) (up_to k p) (of_role_count n k (suc k) p))

    whole : (p : ℕ → Bool) (o : Option ℕ) → LeastUpTo n (suc n) p o → IsLeast count n p o
    whole p none f = λ y l t. let h = ones-le n y l in f y l (omega arith) t
    whole p (some c) f = (f.0, f.2, λ y l t. let h = ones-le n y l in f.3 y l (omega arith) t)

    -- THE ORDER FACT
    pub first_is_least : (p : ℕ → Bool) → IsLeast count n p (first_among p (all_sets count n))
    unfolding all_sets
    first_is_least p = whole p (first_among p (by_size count n (suc n))) (up_to (suc n) p)

  -- ---- there is only one least

  pub only_least : (n : ℕ) (p : ℕ → Bool) (a b : Option ℕ) → IsLeast count n p a → IsLeast count n p b → a ≡ b
  only_least n p none none f g = refl
  only_least n p none (some b) f g = absurd (f b g.0 g.1)
  only_least n p (some a) none f g = absurd (g a f.0 f.1)
  only_least n p (some a) (some b) f g = ap some (before_antisym (f.2 b g.0 g.1) (g.2 a f.0 f.1))

  -- tests that agree on every set of principals below n have the same least
  pub least_passes : (n : ℕ) (p q : ℕ → Bool) (o : Option ℕ) → ((y : ℕ) → y < 2 ^ n → p y ≡ q y) → IsLeast count n p o
      → IsLeast count n q o
  least_passes n p q none h f = λ y l t. f y l (h y l ∙ t)
  least_passes n p q (some c) h f = (f.0, sym (h c f.0) ∙ f.1, λ y l t. f.2 y l (h y l ∙ t))

-- `least` is the least
pub least_is : (r : Record) (m : ℕ) (passes : ℕ → Bool)
    → IsLeast (role_count r) r.principal_count (λ c. (consistent r c && meets r m (members r c)) && every passes (members r c))
    (least r m passes)
unfolding least candidates
least_is r m passes =
    subst
    (IsLeast (role_count r) r.principal_count (λ c. (consistent r c && meets r m (members r c)) && every passes (members r c)))
    (sym (first_those (λ c. every passes (members r c)) (λ c. consistent r c && meets r m (members r c))
    (all_sets (role_count r) r.principal_count)))
    (first_is_least (role_count r) r.principal_count (role_few r)
    (λ c. (consistent r c && meets r m (members r c)) && every passes (members r c)))

-- of two principals, of which 0 is a role principal: none, 1 alone, 0 alone, both
pub role_last : all_sets (λ c. c % 2) 2 ≡ 0 ∷ 2 ∷ 1 ∷ 3 ∷ []
unfolding all_sets
role_last = refl
