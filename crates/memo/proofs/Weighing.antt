-- Weighing a candidate, member by member in rising number.
use Prim.Native.Nat.{ℕ, ◌+◌, ◌≤◌, ◌<◌}
use mathlib.Core.Path.{◌≡◌, refl, sym, ◌∙◌, ap}
use mathlib.Core.Bool.{Bool, true, false, cond}
use mathlib.Core.List.{List, ◌∷◌}
use native.Mathlib.Omega.{arith}
use lib.ListN.{length, drop, drop_of_length-le}
use Rattle.common.specs.Lists.{at, those, below}
use Rattle.common.specs.ListLaws.{drop_one, length_table, table_at}
use Rattle.common.specs.Sets.{member, In}
use Rattle.common.specs.SetLaws.{member_in, in_member}
use Rattle.policy.specs.declared.Record.{Record}
use Rattle.policy.specs.declared.Memo.{Memo}
use Rattle.search.specs.Steps.{Decides}
use Rattle.justification.specs.Justification.{members}
use Rattle.memo.specs.Memo.{value, evaluated}
use Rattle.memo.specs.Walk.{formula_of, survives, ends, tried}

-- the members of c from p on
abbrev pub rest : ℕ → ℕ → ℕ → List ℕ
rest c n p = those (λ k. member k c) (drop p (below n))

from_here : (n p : ℕ) → p < n → drop p (below n) ≡ p ∷ drop (p + 1) (below n)
from_here n p l =
    let long : length (below n) ≡ n = length_table n (λ (k : ℕ). k) in
    let here : at (below n) p ≡ p = table_at n (λ (k : ℕ). k) p 0 l in
    drop_one (below n) p (omega arith) ∙ ap (λ (k : ℕ). k ∷ drop (p + 1) (below n)) here

rest_next : (c n p : ℕ) → p < n → rest c n p ≡ cond (member p c) (p ∷ rest c n (p + 1)) (rest c n (p + 1))
rest_next c n p l = ap (those (λ k. member k c)) (from_here n p l)

decided_not : (p c : ℕ) (b : Bool) → Decides b (In p c) → b ≡ false → member p c ≡ false
decided_not p c b d e = go (member p c) refl
  where
    go : (x : Bool) → member p c ≡ x → member p c ≡ false
    go true h = absurd (d.no e (member_in h))
    go false h = h

module _ (truth : ℕ → Bool) (r : Record) (c : ℕ) where
  -- what is left to weigh, with the memo as it is
  pub record Left (start : Memo) (p : ℕ) (m : Memo) : Type 0 where
    pub same : tried truth r start (members r c) ≡ tried truth r m (rest c r.principal_count p)

  module _ {start m : Memo} {p : ℕ} (l : p < r.principal_count) (h : Left start p m) where
    pub left_skip : (b : Bool) → Decides b (In p c) → b ≡ false → Left start (p + 1) m
    left_skip b d e =
        record { same = h.same ∙ ap (tried truth r m) (rest_next c r.principal_count p l ∙ rw (decided_not p c b d e) refl) }

    module _ (b : Bool) (d : Decides b (In p c)) (e : b ≡ true) {f : ℕ} (is : f ≡ formula_of r p) {k : Memo} (now : k ≡ evaluated truth m f)
      where
        head_first : tried truth r start (members r c) ≡ tried truth r m (p ∷ rest c r.principal_count (p + 1))
        head_first = h.same ∙ ap (tried truth r m) (rest_next c r.principal_count p l ∙ rw (in_member (d.yes e)) refl)

        step :
            tried truth r m (p ∷ rest c r.principal_count (p + 1))
            ≡ cond (value k f) (tried truth r k (rest c r.principal_count (p + 1))) (ends k)
        unfolding tried
        step =
            sym (λ i. cond (value ((now ∙ ap (evaluated truth m) is) i) (is i))
            (tried truth r ((now ∙ ap (evaluated truth m) is) i) (rest c r.principal_count (p + 1)))
            (ends ((now ∙ ap (evaluated truth m) is) i)))

        pub left_on : value k f ≡ true → Left start (p + 1) k
        left_on v = record { same = head_first ∙ step ∙ rw v refl }

        pub left_ends : value k f ≡ false → ends k ≡ tried truth r start (members r c)
        left_ends v = sym (head_first ∙ step ∙ rw v refl)

  pub left_none : {start m : Memo} {p : ℕ} → r.principal_count ≤ p → Left start p m → survives m ≡ tried truth r start (members r c)
  unfolding tried
  left_none {start} {m} {p} l h =
      let long : length (below r.principal_count) ≡ r.principal_count = length_table r.principal_count (λ (k : ℕ). k) in
      let past : length (below r.principal_count) ≤ p = omega arith in
      sym
      (h.same ∙ ap (λ (ps : List ℕ). tried truth r m (those (λ k. member k c) ps)) (drop_of_length-le (below r.principal_count) past))

pub ruleset weighing = (left_skip, left_on, left_ends, left_none)
