-- Where the search may turn back, and why no candidate is missed.
use Rattle.std.proofs.Common.{◌≡◌, ℕ, suc, ◌+◌, ◌-◌, ◌*◌, ◌/◌, ◌%◌, ◌^◌, ◌<◌, ◌≤◌, Bool, true, false, refl, sym, ap, ◌∙◌, subst, ⊎_elim, zero-le, eq-or-lt_of_le, arith, pow_pos, shr-shr}
use Rattle.std.proofs.lemmas.Nat.{ones_cat, ones-le}
use Rattle.std.specs.Int.Bits.{bit_and, bit_or}
use Rattle.std.specs.Int.Count.{ones}
use Rattle.common.specs.Lists.{at}
use Rattle.common.specs.Sets.{In, Within}
use Rattle.common.specs.SetLaws.{le_or_lt, in_or_out, none_in_zero, some_in, and_in_l, or_in}
use Rattle.common.specs.SetLaws.{in_lt, in_ge, in_pow, pow_in, in_sum_l, in_sum_r, sum_in}
use Rattle.search.specs.declared.Masks.{Masks}
use Rattle.search.specs.declared.Limit.{Limit}
use Rattle.search.specs.Search.{Candidate, Met, NoCandidate, role_count_in}
use Rattle.search.specs.Steps.{MetBy, Gathers, NoneHolds, Gives, Asks, NoneFrom}
use Rattle.search.specs.Steps.{NeededBy, WithinFrom, Joins, State, NoCompletion, NoneOfSize}
use Rattle.common.specs.CountLaws.{ones_zero}
use Rattle.search.proofs.Counts.{ones_and, within_ones, within_role_count, same_members, role_count_zero, role_count_cat}
use Rattle.search.proofs.Sums.{met_by}
use Rattle.search.proofs.Steps.{NoneWith, «with», top_small}

-- ---- the members from n on

shift_in : {q : ℕ} (n a : ℕ) → In (n + q) a → In q (a / 2 ^ n)
shift_in {q} n a i = record { bit = ap (λ (x : ℕ). x % 2) (shr-shr a n q) ∙ i.bit }

in_shift : {q : ℕ} (n a : ℕ) → In q (a / 2 ^ n) → In (n + q) a
in_shift {q} n a i = record { bit = sym (ap (λ (x : ℕ). x % 2) (shr-shr a n q)) ∙ i.bit }

pub from_shift : (n a b : ℕ) → Within (a / 2 ^ n) (b / 2 ^ n) → WithinFrom n a b
from_shift n a b f = record {
  from = λ q l i.
      let e : n + (q - n) ≡ q = omega arith in
      subst (λ (z : ℕ). In z b) e (in_shift n b (f (q - n) (shift_in n a (subst (λ (z : ℕ). In z a) (sym e) i))));
}

pub shift_from : (n a b : ℕ) → WithinFrom n a b → Within (a / 2 ^ n) (b / 2 ^ n)
shift_from n a b f q i = shift_in n b (f.from (n + q) (omega arith) (in_shift n a i))

-- ---- a set that no candidate holds

module _ {r : Masks} {limit : Limit} {s b : ℕ} where
  pub too_large : limit.members < ones s → NoneHolds r limit s b
  too_large l t h = omega (arith, h.few, within_ones s t h.held)

  pub too_many : limit.role_principals < role_count_in r s → NoneHolds r limit s b
  too_many l t h = omega (arith, h.few_roles, within_role_count r.role_principals s t h.held)

  -- what s gives does not meet the guard, and there is no room for more
  pub no_room : {g : ℕ} → Gathers r.count s r.grants g → (MetBy r.every r.wanted g → ⊥) → limit.members ≤ ones s
      → NoneHolds r limit s b
  no_room f unmet l t h =
      let e : s ≡ t = same_members s t h.held (omega (arith, h.few)) in
      unmet (met_by r f r.every (rw e h.candidate.inside) (rw e h.candidate.met))

  -- ---- by way of the givers

  pub no_giver : {x : ℕ} → Asks r x → NoneFrom r limit s b x 0 → NoneHolds r limit s b
  no_giver a f t h = let g = a.some t h.candidate in f t h g.0 zero-le g.1 g.2

  pub past_all : {x p : ℕ} → r.count ≤ p → NoneFrom r limit s b x p
  past_all c t h q l i g = omega (arith, in_lt r.count i h.candidate.inside)

  -- none from p up to g gives any
  pub none_between : {x : ℕ} (p g : ℕ) → ((q : ℕ) → p ≤ q → q < g → MetBy false x (at r.grants q) → ⊥)
      → NoneFrom r limit s b x g → NoneFrom r limit s b x p
  none_between p g f n t h q l i k = ⊎_elim
      (λ u. n t h q u i k)
      (λ u. f q l u (k.privilege, k.asked, k.given))
      (le_or_lt g q)

  -- no candidate has p, and none without p has a later giver
  pub neither_way : {x : ℕ} (p : ℕ) → NoneHolds r limit (bit_or (bit_or s (2 ^ p)) (at r.needs p)) b
      → NoneFrom r limit s (bit_or b (2 ^ p)) x (p + 1) → NoneFrom r limit s b x p
  neither_way p f n t h q l i g = ⊎_elim
      (λ j. f t (record {
        candidate = h.candidate;
        few = h.few;
        few_roles = h.few_roles;
        held = λ v k. ⊎_elim
            (λ y. ⊎_elim (λ z. h.held v z) (λ z. subst (λ (w : ℕ). In w t) (sym (pow_in p z)) j) (or_in s (2 ^ p) y))
            (λ y. (h.candidate.consistent p j).whole v y)
            (or_in (bit_or s (2 ^ p)) (at r.needs p) k);
        apart = h.apart;
      }))
      (λ o.
      let out : (v : ℕ) → In v t → v ≡ p → ⊥ = λ v k e. let k' : In p t = subst (λ (w : ℕ). In w t) e k in omega (arith, k'.bit) in
      n t (record {
        candidate = h.candidate;
        few = h.few;
        few_roles = h.few_roles;
        held = h.held;
        apart = λ v k y. ⊎_elim (λ z. h.apart v k z) (λ z. out v k (pow_in p z)) (or_in b (2 ^ p) y);
      }) q (⊎_elim (λ e. absurd (out q i (sym e))) (λ u. omega arith) (eq-or-lt_of_le l)) i g)
      (in_or_out p t)

-- ---- what every candidate has a giver of

pub asks_part : {r : Masks} (y : ℕ) → r.every ≡ true → (bit_and r.wanted y ≡ 0 → ⊥) → Asks r (bit_and r.wanted y)
asks_part {r} y e f = record {
  some = λ t d.
      let m : Met true r t = subst (λ (v : Bool). Met v r t) e d.met in
      let k = some_in (bit_and r.wanted y) f in
      let g = m k.0 (and_in_l r.wanted y k.1) in
      (g.giver, g.member, record { privilege = k.0; asked = k.1; given = g.gives });
}

-- where g does not meet the guard of every wanted privilege, some privilege is wanted
some_wanted : (r : Masks) (g : ℕ) → (MetBy r.every r.wanted g → ⊥) → r.every ≡ true → r.wanted ≡ 0 → ⊥
some_wanted r g f e z =
    f (subst (λ (v : Bool). MetBy v r.wanted g) (sym e) (λ k i. absurd (none_in_zero k (subst (λ (w : ℕ). In k w) z i))))

wanted_giver : {r : Masks} {t : ℕ} (v : Bool) → (v ≡ true → r.wanted ≡ 0 → ⊥) → Met v r t → (q : ℕ) × In q t × Gives r r.wanted q
wanted_giver {r} true f m =
    let k = some_in r.wanted (f refl) in
    let g = m k.0 k.1 in
    (g.giver, g.member, record { privilege = k.0; asked = k.1; given = g.gives })
wanted_giver false f m = (m.2.giver, m.2.member, record { privilege = m.0; asked = m.1; given = m.2.gives })

pub asks_all : (r : Masks) (g : ℕ) → (MetBy r.every r.wanted g → ⊥) → Asks r r.wanted
asks_all r g f = record { some = λ t d. wanted_giver r.every (some_wanted r g f) d.met }

-- ---- in the search

module _ {r : Masks} {n c b : ℕ} (s : State r n c b) where
  ones_sum : (y : ℕ) → y < 2 ^ n → ones (c + y) ≡ ones c + ones y
  ones_sum y l =
      let e : c ≡ s.head * 2 ^ n + 0 = omega (arith, s.above) in
      omega (
        arith,
        ap (λ (z : ℕ). ones (z + y)) s.above ∙ ones_cat n s.head y l,
        ap ones e ∙ ones_cat n s.head 0 (pow_pos n),
        ones_zero,
      )

  role_count_sum : (y : ℕ) → y < 2 ^ n → role_count_in r (c + y) ≡ role_count_in r c + role_count_in r y
  role_count_sum y l =
      let e : c ≡ s.head * 2 ^ n + 0 = omega (arith, s.above) in
      omega (
        arith,
        ap (λ (z : ℕ). role_count_in r (z + y)) s.above ∙ role_count_cat r.role_principals n y l s.head,
        ap (role_count_in r) e ∙ role_count_cat r.role_principals n 0 (pow_pos n) s.head,
        role_count_zero r.role_principals,
      )

  -- no candidate of that size, with that many role principals, holds what is chosen and needed
  pub not_feasible : {k j w : ℕ} {limit : Limit} → NeededBy r c w → limit.members ≡ ones c + k → limit.role_principals ≡ role_count_in r c + j
      → NoneHolds r limit (bit_or c w) b → NoCompletion r n k j c
  not_feasible {k} {j} {w} h e g f = record {
    none = λ y l o p d.
        let keeps : Within c (c + y) = λ q i. in_sum_l s.head n s.above l i in
        f (c + y) (record {
          candidate = d;
          few = omega (arith, ones_sum y l);
          few_roles = omega (arith, role_count_sum y l);
          held = λ q i. ⊎_elim (λ x. keeps q x) (λ x. h.by (c + y) d keeps q x) (or_in c w i);
          apart = s.barred y l;
        });
  }

  pub no_join : {k j m : ℕ} → n ≡ suc m → (Joins r c m → ⊥) → NoneWith r m k j c
  no_join {k} {j} {m} e f = record {
    none = λ y l o p d.
        let w = «with» e s in
        let keeps : Within c (c + 2 ^ m + y) = λ q i. in_sum_l w.head m w.above l (in_sum_l s.head n s.above (top_small e) i) in
        let i = in_sum_l w.head m w.above l (in_sum_r s.head n s.above (top_small e) (in_pow m)) in
        let v = d.consistent m i in
        f (record {
          allowed = d.allowed m i;
          apart = λ q i j. v.apart q (keeps q i) j;
          whole = record {
            from = λ q u i. ⊎_elim
                (λ j. ⊎_elim
                (λ j'. j')
                (λ j'. absurd (omega (arith, pow_in m j')))
                (sum_in s.head n s.above (top_small e) j))
                (λ j. absurd (omega (arith, in_lt m j l)))
                (sum_in w.head m w.above l (v.whole q i));
          };
        });
  }

  -- m is needed, and the sets below m lack it
  pub needed_below : {k j m w : ℕ} → n ≡ suc m → NeededBy r c w → In m w → NoCompletion r m k j c
  needed_below {k} {j} {m} e h i = record {
    none = λ y l o p d.
        let l' : y < 2 ^ n = omega (arith, top_small e) in
        ⊎_elim
        (λ x. omega (arith, in_ge s.head n s.above x))
        (λ x. omega (arith, in_lt m x l))
        (sum_in s.head n s.above l' (h.by _ d (λ q x. in_sum_l s.head n s.above l' x) m i));
  }

  pub need_more : {m w : ℕ} → n ≡ suc m → NeededBy r c w → NeededBy r (c + 2 ^ m) (bit_or w (at r.needs m))
  need_more {m} {w} e h = record {
    by = λ t d f q i. ⊎_elim
        (λ x. h.by t d (λ v z. f v (in_sum_l s.head n s.above (top_small e) z)) q x)
        (λ x. (d.consistent m (f m (in_sum_r s.head n s.above (top_small e) (in_pow m)))).whole q x)
        (or_in w (at r.needs m) i);
  }

-- every candidate holds the empty set; none is within that limit
module _ {r : Masks} {limit : Limit} (f : NoneHolds r limit 0 0) where
  none_within : (t : ℕ) → Candidate r t → ones t ≤ limit.members → limit.members ≤ limit.role_principals → ⊥
  none_within t d l e = f t (record {
    candidate = d;
    few = l;
    few_roles = omega (arith, ones_and t r.role_principals);
    held = λ q i. absurd (none_in_zero q i);
    apart = λ q i j. none_in_zero q j;
  })

  pub no_candidate : r.count ≤ limit.members → limit.members ≤ limit.role_principals → NoCandidate r
  no_candidate c e t d = none_within t d (omega (arith, ones-le r.count t d.inside)) e

  pub none_of_size : {k : ℕ} → k ≤ limit.members → limit.members ≤ limit.role_principals → NoneOfSize r k
  none_of_size l e = record { none = λ t d o. none_within t d (omega arith) e }
