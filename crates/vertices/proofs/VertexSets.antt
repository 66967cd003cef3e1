-- Sets of vertices as tables of bools: what is stored in them, and what the loops over them make.
use mathlib.Core.Path.{◌≡◌, refl, sym, ap, subst, ◌∙◌}
use mathlib.Core.Bool.{Bool, true, false}
use mathlib.Core.List.{List}
use Prim.Native.Nat.{ℕ, zero, suc, ◌+◌, ◌<◌, ◌≤◌}
use native.Mathlib.Omega.{arith}
use native.Mathlib.Decide.{dec_lt}
use native.Mathlib.Nat.{lt_irrefl, not-suc-le-zero, le_of_suc-le-suc}
use lib.ListN.{length, set, replicate, get_or-eq_default}
use lib.Seq.{get_or-set_same, get_or-set_other}
use borrow.Author.Count.{below_more}
use Rattle.vertices.specs.Steps.{is_in}

-- every entry of a table of n is false
pub all_false : (n v : ℕ) → is_in (replicate n false) v ≡ false
all_false zero v = refl
all_false (suc n) zero = refl
all_false (suc n) (suc v) = all_false n v

-- every entry of a table of n is true
pub all_true : (n v : ℕ) → v < n → is_in (replicate n true) v ≡ true
all_true zero v l = absurd (not-suc-le-zero l)
all_true (suc n) zero l = refl
all_true (suc n) (suc v) l = all_true n v (le_of_suc-le-suc l)

-- a table that is filled from the front with q
pub filled : (q : ℕ → Bool) (r : List Bool) (i : ℕ) → i < length r → ((v : ℕ) → v < i → is_in r v ≡ q v)
    → (v : ℕ) → v < i + 1 → is_in (set r i (q i)) v ≡ q v
filled q r i h done =
    below_more (λ (v : ℕ). is_in (set r i (q i)) v ≡ q v) i
    (λ v l. get_or-set_other r i v (q i) false (λ e. lt_irrefl v (subst (λ (k : ℕ). v < k) (sym e) l)) ∙ done v l)
    (get_or-set_same r i (q i) false h)

-- a table that is filled from the front with q, and is false from i on
pub record FilledTo (q : ℕ → Bool) (r : List Bool) (i : ℕ) : Type 0 where
  pub done : (v : ℕ) → v < i → is_in r v ≡ q v
  pub rest : (v : ℕ) → i ≤ v → is_in r v ≡ false

pub filled_none : (q : ℕ → Bool) (r : List Bool) → ((v : ℕ) → is_in r v ≡ false) → FilledTo q r 0
filled_none q r h = record { done = λ v l. absurd (not-suc-le-zero l); rest = λ v l. h v }

pub filled_more : (q : ℕ → Bool) (r : List Bool) (i : ℕ) (b : Bool) → b ≡ q i → i < length r → FilledTo q r i → FilledTo q (set r i b) (i + 1)
filled_more q r i b e h f =
    record {
      done = λ v l. ap (λ (x : Bool). is_in (set r i x) v) e ∙ filled q r i h f.done v l;
      rest = λ v l. get_or-set_other r i v b false (λ p. omega arith) ∙ f.rest v (omega arith);
    }

-- where q is false nothing need be stored
pub filled_skip : (q : ℕ → Bool) (r : List Bool) (i : ℕ) → q i ≡ false → FilledTo q r i → FilledTo q r (i + 1)
filled_skip q r i e f =
    record {
      done = below_more (λ (v : ℕ). is_in r v ≡ q v) i f.done (f.rest i (omega arith) ∙ sym e);
      rest = λ v l. f.rest v (omega arith);
    }

-- past its end a table is false
pub beyond : (s : List Bool) (n v : ℕ) → length s ≡ n → n ≤ v → is_in s v ≡ false
beyond s n v e h = get_or-eq_default s false (subst (λ (k : ℕ). k ≤ v) (sym e) h)

-- a table of 256 is q, where it is q at each of its indices and q is false past them
pub everywhere : (q : ℕ → Bool) (r : List Bool) → length r ≡ 256 → ((v : ℕ) → v < 256 → is_in r v ≡ q v)
    → ((v : ℕ) → 256 ≤ v → q v ≡ false) → (v : ℕ) → is_in r v ≡ q v
everywhere q r e inside outside v = go (dec_lt v 256)
  where
    go : Dec (v < 256) → is_in r v ≡ q v
    go (yes l) = inside v l
    go (no n) = let h : 256 ≤ v = omega arith in beyond r 256 v e h ∙ sym (outside v h)
