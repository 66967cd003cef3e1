-- The searches, round by round.
use Rattle.std.specs.Prelude.{ℕ, zero, suc, ◌+◌, ◌≤◌, ◌<◌, ◌≡◌, refl, Bool, true, false, not}
use Rattle.std.proofs.Common.{sym, ◌∙◌, ap, arith}
use Rattle.std.proofs.Math.Option.{Option, none, some}
use Rattle.common.specs.Sets.{member}
use Rattle.policy.specs.declared.Record.{Record}
use Rattle.policy.specs.declared.Memo.{Memo}
use Rattle.justification.specs.Justification.{members, least}
use Rattle.justification.specs.MarkedSets.{Marks}
use Rattle.memo.specs.declared.Tried.{Tried}
use Rattle.memo.specs.Walk.{granted, denied, tried, known_false, after_weighing, try_next, searching, weighed_of}
use Rattle.memo.specs.StepLaws.{least_ext}
use Rattle.access.proofs.Choosing.{marks_member}

module _ (truth : ℕ → Bool) (r : Record) (k : ℕ) (before : Memo) where
  -- after some rounds: what is left to do, with the memo as it is, comes to what the whole comes to
  pub record Round (rounds : ℕ) (memo : Memo) : Type 0 where
    pub fuel : ℕ
    pub sum : fuel + rounds ≡ r.principal_count + 1
    pub same : searching fuel truth r k memo ≡ searching (r.principal_count + 1) truth r k before

  pub round_first : Round 0 before
  round_first = record { fuel = r.principal_count + 1; sum = omega arith; same = refl }

  module _ {rounds : ℕ} {memo : Memo} (more : rounds ≤ r.principal_count) (h : Round rounds memo) {allowed : ℕ}
      (marks : Marks r.principal_count (λ p. not (known_false r memo p)) allowed) where
    -- the next search, among those that are allowed
    next : (found : Option ℕ) → found ≡ least r k (λ p. member p allowed) → (n : ℕ) → n + rounds ≡ r.principal_count + 1
        → searching n truth r k memo ≡ searching (r.principal_count + 1) truth r k before
        → (l : ℕ) × (l + (rounds + 1) ≡ r.principal_count + 1)
        × (try_next truth r memo found (searching l truth r k) ≡ searching (r.principal_count + 1) truth r k before)
    unfolding searching
    next found is zero e d = absurd (omega arith)
    next found is (suc l) e d = (
      l,
      omega arith,
      ap (λ (x : Option ℕ). try_next truth r memo x (searching l truth r k))
          (is ∙ least_ext r k (λ p. member p allowed) (λ p. not (known_false r memo p)) (marks_member marks))
          ∙ d,
    )

    pub round_denied : none ≡ least r k (λ p. member p allowed) → denied memo ≡ searching (r.principal_count + 1) truth r k before
    round_denied is = let (l, u, d) = next none is h.fuel h.sum h.same in d

    module _ {c : ℕ} (is : some c ≡ least r k (λ p. member p allowed)) (t : Tried) (w : weighed_of t ≡ tried truth r memo (members r c)) where
      weighed_next : (l : ℕ) → after_weighing c (weighed_of t) (searching l truth r k) ≡ try_next truth r memo (some c) (searching l truth r k)
      weighed_next l = ap (λ x. after_weighing c x (searching l truth r k)) w

      pub round_granted : t.survives ≡ true → granted c t.memo ≡ searching (r.principal_count + 1) truth r k before
      round_granted v =
          let (l, u, d) = next (some c) is h.fuel h.sum h.same in
          sym (sym d ∙ sym (weighed_next l) ∙ rw v refl)

      pub round_ended : t.survives ≡ false → Round (rounds + 1) t.memo
      round_ended v =
          let (l, u, d) = next (some c) is h.fuel h.sum h.same in
          let on : after_weighing c (weighed_of t) (searching l truth r k) ≡ searching l truth r k t.memo = rw v refl in
          record { fuel = l; sum = u; same = sym on ∙ weighed_next l ∙ d }

  pub round_last : {rounds : ℕ} {memo : Memo} → r.principal_count < rounds → Round rounds memo
      → denied memo ≡ searching (r.principal_count + 1) truth r k before
  unfolding searching
  round_last {rounds} {memo} l h = end h.fuel h.sum h.same
    where
      end : (n : ℕ) → n + rounds ≡ r.principal_count + 1
          → searching n truth r k memo ≡ searching (r.principal_count + 1) truth r k before
          → denied memo ≡ searching (r.principal_count + 1) truth r k before
      end zero e d = d
      end (suc n) e d = absurd (omega arith)
