-- The search's steps: from what is found below m to what is found below n = m + 1.
use Rattle.std.proofs.Common.{◌≡◌, ℕ, Bool, true, false, refl, suc, ◌+◌, ◌-◌, ◌*◌, ◌^◌, ◌<◌, ◌≤◌, ◌⊎◌, sym, ap, ◌∙◌, subst, inl, inr, ⊎_elim, mul_assoc, add-mul, eq-or-lt_of_le, one-mul, arith, pow_pos, pow_mono}
use Rattle.std.proofs.lemmas.Nat.{ones-le}
use Rattle.std.specs.Int.Bits.{bit_or}
use Rattle.std.specs.Int.Count.{ones}
use Rattle.search.specs.declared.Masks.{Masks}
use Rattle.common.specs.Limits.{most_principals}
use Rattle.common.specs.Sets.{Apart, Within}
use Rattle.search.specs.Search.{Candidate, LeastCandidate, NoCandidate, role_count_in}
use Rattle.std.specs.Bool.{then_some}
use Rattle.search.specs.Answers.{FoundValues, found_values}
use Rattle.search.specs.Answers.GrantedOrDenied.{grants, denies}
use Rattle.search.specs.Search.Before.{by_members, by_roles, by_number}
use Rattle.search.specs.Steps.{Decides, State, LeastCompletion, NoCompletion, Completed, LeastOfSize, NoneOfSize}
use Rattle.common.specs.CountLaws.{ones_zero, no_ones, ones_top, power_double}
use Rattle.common.specs.SetLaws.{le_or_lt, or_in, pow_in, in_lt, in_ge, sum_in}
use Rattle.search.proofs.Counts.{ones_and, role_count_zero, role_count_top}

module _ {r : Masks} {n c : ℕ} where
  pub chosen_alone : Candidate r c → LeastCompletion r n 0 0 c c
  chosen_alone d = record {
    more = 0;
    is = omega arith;
    below = pow_pos n;
    size = ones_zero;
    roles = role_count_zero r.role_principals;
    candidate = d;
    smallest = λ y l e f x. omega arith;
  }

  pub chosen_fails : (Candidate r c → ⊥) → NoCompletion r n 0 0 c
  chosen_fails f = record { none = λ y l e o d. f (subst (λ (z : ℕ). Candidate r z) (omega (arith, no_ones y e)) d) }

  -- by the test whether the chosen ones are a candidate
  pub chosen_decided : (b : Bool) → Decides b (Candidate r c) → Completed r n 0 0 c (found_values (then_some b c))
  chosen_decided true d = grants c refl (chosen_alone (d.yes refl))
  chosen_decided false d = denies refl (chosen_fails (d.no refl))

  pub too_few : {k j : ℕ} → n < k → NoCompletion r n k j c
  too_few h = record { none = λ y l e o d. omega (arith, ones-le n y l) }

  pub too_many_roles : {k j : ℕ} → k < j → NoCompletion r n k j c
  too_many_roles h = record { none = λ y l e o d. omega (arith, ones_and y r.role_principals) }

-- no candidate of c, m and principals below m
pub record NoneWith (r : Masks) (m k j c : ℕ) : Type 0 where
  pub none : (x : ℕ) → x < 2 ^ m → 1 + ones x ≡ k → role_count_in r (2 ^ m) + role_count_in r x ≡ j → Candidate r (c + 2 ^ m + x) → ⊥

-- m is a role principal, and no more of these are to be added
pub no_role_left : {r : Masks} {m k j c w : ℕ} → w ≡ role_count_in r (2 ^ m) → j < w → NoneWith r m k j c
no_role_left e h = record { none = λ x l o q d. omega arith }

pub none_with : {r : Masks} {m k j c w : ℕ} → w ≡ role_count_in r (2 ^ m) → NoCompletion r m (k - 1) (j - w) (c + 2 ^ m) → NoneWith r m k j c
none_with e f = record { none = λ x l o q d. f.none x l (omega arith) (omega arith) d }

module _ {n m : ℕ} (e : n ≡ suc m) where
  double : 2 ^ n ≡ 2 * 2 ^ m
  double = ap (λ (x : ℕ). 2 ^ x) e ∙ power_double m

  -- y is below m, or holds m
  split : {y : ℕ} → y < 2 ^ n → (y < 2 ^ m) ⊎ ((x : ℕ) × (y ≡ 2 ^ m + x) × (x < 2 ^ m))
  split {y} l = ⊎_elim
      (λ h. inr (y - 2 ^ m, omega arith, omega (arith, double)))
      (λ h. inl h)
      (le_or_lt (2 ^ m) y)

  pub top_small : 2 ^ m < 2 ^ n
  top_small = omega (arith, double, pow_pos m)

module _ {r : Masks} {n m c : ℕ} (e : n ≡ suc m) where
  pub keep : {k j s : ℕ} → LeastCompletion r m k j c s → LeastCompletion r n k j c s
  keep f = record {
    more = f.more;
    is = f.is;
    below = omega (arith, double e, f.below);
    size = f.size;
    roles = f.roles;
    candidate = f.candidate;
    smallest = λ y l o q d. ⊎_elim (λ h. f.smallest y h o q d) (λ w. omega (arith, f.below, w.1)) (split e l);
  }

  pub neither : {k j : ℕ} → NoCompletion r m k j c → NoneWith r m k j c → NoCompletion r n k j c
  neither f g = record {
    none = λ y l o q d. ⊎_elim
        (λ h. f.none y h o q d)
        (λ w. g.none w.0 w.2
        (omega (arith, ones_top m w.0 w.2, ap ones w.1))
        (omega (arith, role_count_top r.role_principals m w.0 w.2, ap (role_count_in r) w.1))
        (subst (λ (z : ℕ). Candidate r z) (omega (arith, w.1)) d))
        (split e l);
  }

  -- m is added, with w role principals
  module _ {k j w : ℕ} (p : 0 < k) (u : w ≡ role_count_in r (2 ^ m)) (i : w ≤ j) (f : NoCompletion r m k j c) where
    include : {s : ℕ} → LeastCompletion r m (k - 1) (j - w) (c + 2 ^ m) s → LeastCompletion r n k j c s
    include {s} g = record {
      more = 2 ^ m + g.more;
      is = omega (arith, g.is);
      below = omega (arith, double e, g.below);
      size = omega (arith, ones_top m g.more g.below, g.size);
      roles = omega (arith, role_count_top r.role_principals m g.more g.below, g.roles);
      candidate = g.candidate;
      smallest = λ y l o q d. ⊎_elim
          (λ h. absurd (f.none y h o q d))
          (λ v. omega (
            arith,
            v.1,
            g.smallest v.0 v.2
                (omega (arith, ones_top m v.0 v.2, ap ones v.1))
                (omega (arith, role_count_top r.role_principals m v.0 v.2, ap (role_count_in r) v.1))
                (subst (λ (z : ℕ). Candidate r z) (omega (arith, v.1)) d),
          ))
          (split e l);
    }

    pub step : {a : FoundValues} → Completed r m (k - 1) (j - w) (c + 2 ^ m) a → Completed r n k j c a
    step (grants s q b) = grants s q (include b)
    step (denies q b) = denies q (neither f (none_with u b))

  halved : {b : ℕ} (s : State r n c b) → c ≡ s.head * 2 * 2 ^ m
  halved s = s.above ∙ ap (λ (x : ℕ). s.head * x) (double e) ∙ sym (mul_assoc s.head 2 (2 ^ m))

  -- m is passed by
  pub without : {b : ℕ} → State r n c b → State r m c (bit_or b (2 ^ m))
  without {b} s = record {
    small = omega (arith, s.small);
    head = s.head * 2;
    above = halved s;
    room = omega (arith, double e, s.room);
    barred = λ y l q i j.
        let l' : y < 2 ^ n = omega (arith, top_small e) in
        ⊎_elim
        (λ x. s.barred y l' q i x)
        (λ x. ⊎_elim
        (λ z. omega (arith, in_ge s.head n s.above z, pow_in m x))
        (λ z. omega (arith, in_lt m z l, pow_in m x))
        (sum_in s.head n s.above l' i))
        (or_in b (2 ^ m) j);
  }

  pub room : {b : ℕ} → State r n c b → (m < most_principals) × (c + 2 ^ m < 2 ^ most_principals)
  room s = (omega (arith, r.few, s.small), omega (arith, s.room, pow_mono r.few, double e, pow_pos m))

  -- m is added
  pub «with» : {b : ℕ} → State r n c b → State r m (c + 2 ^ m) b
  «with» {b} s = record {
    small = omega (arith, s.small);
    head = s.head * 2 + 1;
    above = omega (arith, halved s, add-mul (s.head * 2) 1 (2 ^ m), one-mul (2 ^ m));
    room = omega (arith, double e, s.room);
    barred = λ y l. subst (λ (z : ℕ). Apart z b) (omega arith) (s.barred (2 ^ m + y) (omega (arith, double e)));
  }

-- ---- from the search to the least candidate

-- every candidate of k members has j role principals or more
module _ {r : Masks} {k j : ℕ} (low : (t : ℕ) → Candidate r t → ones t ≡ k → j ≤ role_count_in r t) where
  pub first_of_size : {s : ℕ} → LeastCompletion r r.count k j 0 s → LeastOfSize r k s
  first_of_size {s} f =
      let e : s ≡ f.more = omega (arith, f.is) in
      let o : ones s ≡ k = ap ones e ∙ f.size in
      let p : role_count_in r s ≡ j = ap (role_count_in r) e ∙ f.roles in
      record {
        candidate = f.candidate;
        size = o;
        first = λ t d u. ⊎_elim
            (λ q. by_number
            (o ∙ sym u)
            (p ∙ q)
            (omega (arith, e, f.smallest t d.inside u (sym q) (subst (λ (z : ℕ). Candidate r z) (omega arith) d))))
            (λ l. by_roles (o ∙ sym u) (omega (arith, p, l)))
            (eq-or-lt_of_le (low t d u));
      }

  pub more_roles : NoCompletion r r.count k j 0 → (t : ℕ) → Candidate r t → ones t ≡ k → j + 1 ≤ role_count_in r t
  more_roles f t d u = ⊎_elim
      (λ q. absurd (f.none t d.inside u (sym q) (subst (λ (z : ℕ). Candidate r z) (omega arith) d)))
      (λ l. omega arith)
      (eq-or-lt_of_le (low t d u))

  -- no set of k allowed principals has so many
  pub past_roles : {most : ℕ} → ((t : ℕ) → Within t r.allowed → ones t ≡ k → role_count_in r t ≤ most) → most < j → NoneOfSize r k
  past_roles most h = record { none = λ t d u. omega (arith, low t d u, most t d.allowed u) }

-- every candidate has k members or more
module _ {r : Masks} {k : ℕ} (low : (t : ℕ) → Candidate r t → k ≤ ones t) where
  pub least_found : {s : ℕ} → LeastOfSize r k s → LeastCandidate r s
  least_found f = record {
    candidate = f.candidate;
    first = λ t d. ⊎_elim
        (λ q. f.first t d (sym q))
        (λ l. by_members (omega (arith, f.size, l)))
        (eq-or-lt_of_le (low t d));
  }

  pub higher : NoneOfSize r k → (t : ℕ) → Candidate r t → k + 1 ≤ ones t
  higher f t d = ⊎_elim (λ q. absurd (f.none t d (sym q))) (λ l. omega arith) (eq-or-lt_of_le (low t d))

  pub past : r.count < k → NoCandidate r
  past h t d = omega (arith, low t d, ones-le r.count t d.inside)
