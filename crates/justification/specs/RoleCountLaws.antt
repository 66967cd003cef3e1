-- As many numbers below n pass a test as the set of them has members. So of the role principals of a set.
use Rattle.std.specs.Prelude.{ℕ, zero, suc, ◌%◌, ◌^◌, ◌≤◌, ◌<◌, ◌≡◌, refl, Bool, true, false, cond, ◌&&◌, length}
use Rattle.std.proofs.Common.{sym, ◌∙◌, ap, ⊎_elim, arith, mod-eq_of_lt}
use Rattle.std.proofs.lemmas.Bool.{false≢true}
use Rattle.std.specs.Int.Bits.{bit_and}
use Rattle.std.specs.Int.Count.{ones}
use Rattle.common.specs.BoolLaws.{and_cases, and_both}
use Rattle.common.specs.CountLaws.{ones_zero, ones_more}
use Rattle.common.specs.Lists.{those, below}
use Rattle.common.specs.ListLaws.{those_more, those_both, those_few}
use Rattle.common.specs.Sets.{member}
use Rattle.common.specs.SetLaws.{bit, in_or_out, member_in, in_member, in_and, and_in_l, and_in_r, in_lt, all_lt}
use Rattle.policy.specs.declared.Record.{Record}
use Rattle.justification.specs.Justification.{members, is_role_principal, role_count}
use Rattle.justification.specs.MarkedSets.{Marks}

module _ {passes : ℕ → Bool} {s m : ℕ} (h : Marks m passes s) where
  up_to : (n : ℕ) → n ≤ m → length (those passes (below n)) ≡ ones (s % 2 ^ n)
  up_to zero l = let e : s % 2 ^ 0 ≡ 0 = omega arith in sym (ap ones e ∙ ones_zero)
  up_to (suc n) l =
      let i = up_to n (omega arith) in
      let c : cond (passes n) 1 0 ≡ bit n s = go (passes n) refl in
      those_more passes n ∙ omega (arith, i, c, ones_more s n)
    where
      go : (b : Bool) → passes n ≡ b → cond b 1 0 ≡ bit n s
      go true e = sym (h.all n (omega arith) e).bit
      go false e = ⊎_elim (λ i. absurd (false≢true (sym e ∙ (h.only n i).1))) (λ z. sym z) (in_or_out n s)

  -- as many pass as the set of those that pass has members
  marks_count : length (those passes (below m)) ≡ ones s
  marks_count = up_to m (omega arith) ∙ ap ones (mod-eq_of_lt (all_lt m s (λ p i. (h.only p i).0)))

-- ---- role principals

module _ (r : Record) (c : ℕ) (inside : c < 2 ^ r.principal_count) where
  -- a set has no more role principals than members
  pub role_few : role_count r c ≤ ones c
  role_few =
      let all : Marks r.principal_count (λ p. member p c) c =
      record { only = λ p i. (in_lt r.principal_count i inside, in_member i); all = λ p l e. member_in e } in
      omega (arith, those_few (is_role_principal r) (members r c), marks_count all)

  -- as many as it has in common with the set of all role principals
  pub role_count_lem : {all : ℕ} → Marks r.principal_count (is_role_principal r) all → ones (bit_and c all) ≡ role_count r c
  role_count_lem {all} h =
      let both : Marks r.principal_count (λ p. member p c && is_role_principal r p) (bit_and c all) =
      record {
        only =
            λ p i.
            let (l, e) = h.only p (and_in_r c all i) in
            (l, and_both (member p c) (is_role_principal r p) (in_member (and_in_l c all i)) e);
        all = λ p l e. let (x, y) = and_cases (member p c) (is_role_principal r p) e in in_and (member_in x) (h.all p l y);
      } in
      sym (marks_count both) ∙ ap length (sym (those_both (λ p. member p c) (is_role_principal r) (below r.principal_count)))
