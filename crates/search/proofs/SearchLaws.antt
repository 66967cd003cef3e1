-- Laws of the order of sets, `Before`: what it says of two sets, and that it is a total order.
use Rattle.std.specs.Prelude.{◌≡◌, ℕ, ◌<◌, ◌≤◌, ◌⊎◌, count_ones, refl}
use Rattle.std.proofs.Common.{sym, ◌∙◌, inl, inr, ⊎_elim, arith, eq-or-lt_of_le}
use Rattle.common.specs.SetLaws.{le_or_lt}
use Rattle.search.specs.Search.{Before}
use Rattle.search.specs.Search.Before.{by_members, by_roles, by_number}

module _ {role_count : ℕ → ℕ} {s t : ℕ} where
  -- what comes later has at least as many members
  pub before_members : Before role_count s t → count_ones s ≤ count_ones t
  before_members (by_members l) = omega arith
  before_members (by_roles e l) = omega arith
  before_members (by_number e f l) = omega arith

  -- of as many members, at least as many role principals
  pub before_role_count : count_ones s ≡ count_ones t → Before role_count s t → role_count s ≤ role_count t
  before_role_count q (by_members l) = omega arith
  before_role_count q (by_roles e l) = omega arith
  before_role_count q (by_number e f l) = omega arith

  -- and of as many of both, no smaller number
  pub before_number : count_ones s ≡ count_ones t → role_count s ≡ role_count t → Before role_count s t → s ≤ t
  before_number q r (by_members l) = omega arith
  before_number q r (by_roles e l) = omega arith
  before_number q r (by_number e f l) = l

-- one number is below the other, or they are one
three_ways : (a b : ℕ) → (a < b) ⊎ ((a ≡ b) ⊎ (b < a))
three_ways a b = ⊎_elim (λ l. ⊎_elim (λ e. inr (inl e)) (λ m. inl m) (eq-or-lt_of_le l)) (λ l. inr (inr l)) (le_or_lt a b)

module _ {role_count : ℕ → ℕ} where
  pub before_refl : (s : ℕ) → Before role_count s s
  before_refl s = by_number refl refl (omega arith)

  -- sets that come before each other are one
  pub before_antisym : {s t : ℕ} → Before role_count s t → Before role_count t s → s ≡ t
  before_antisym {s} {t} b c =
      let e : count_ones s ≡ count_ones t = omega (arith, before_members b, before_members c) in
      let d : count_ones t ≡ count_ones s = omega arith in
      let f : role_count s ≡ role_count t = omega (arith, before_role_count e b, before_role_count d c) in
      omega (arith, before_number e f b, before_number d (omega arith) c)

  pub before_trans : {s t u : ℕ} → Before role_count s t → Before role_count t u → Before role_count s u
  before_trans (by_members l) c = by_members (omega (arith, before_members c))
  before_trans (by_roles e l) (by_members m) = by_members (omega arith)
  before_trans (by_roles e l) (by_roles f m) = by_roles (e ∙ f) (omega arith)
  before_trans (by_roles e l) (by_number f g m) = by_roles (e ∙ f) (omega arith)
  before_trans (by_number e d l) (by_members m) = by_members (omega arith)
  before_trans (by_number e d l) (by_roles f m) = by_roles (e ∙ f) (omega arith)
  before_trans (by_number e d l) (by_number f g m) = by_number (e ∙ f) (d ∙ g) (omega arith)

  pub before_total : (s t : ℕ) → Before role_count s t ⊎ Before role_count t s
  before_total s t =
      ⊎_elim (λ l. inl (by_members l))
      (⊎_elim
      (λ e. ⊎_elim (λ l. inl (by_roles e l))
      (⊎_elim
      (λ f. ⊎_elim (λ l. inl (by_number e f l)) (λ l. inr (by_number (sym e) (sym f) (omega arith))) (le_or_lt s t))
      (λ l. inr (by_roles (sym e) l)))
      (three_ways (role_count s) (role_count t)))
      (λ l. inr (by_members l)))
      (three_ways (count_ones s) (count_ones t))

-- counts that agree on two sets order them alike
pub before_counts : (a b : ℕ → ℕ) {s t : ℕ} → a s ≡ b s → a t ≡ b t → Before a s t → Before b s t
before_counts a b e f (by_members l) = by_members l
before_counts a b e f (by_roles g l) = by_roles g (omega arith)
before_counts a b e f (by_number g h l) = by_number g (omega arith) l
