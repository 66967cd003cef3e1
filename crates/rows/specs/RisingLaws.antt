-- The keys of lines of octets are ordered as the lines are, whatever their width.
use Rattle.std.specs.Prelude.{ℕ, ◌+◌, ◌*◌, ◌<◌, ◌≡◌, ◌⊎◌, ◌↔◌, List, [], ◌∷◌, length}
use Rattle.std.proofs.Common.{sym, subst, inl, inr, ⊎_elim, arith, eq-or-lt_of_le}
use Rattle.common.specs.Order.{NotAfter}
use Rattle.common.specs.SetLaws.{le_or_lt}
use Rattle.rows.specs.Checks.{edge_key, pair_key}
use Rattle.rows.specs.Rising.{Rises}

-- every number of a list is an octet
abbrev pub Octets : List ℕ → Type 0
Octets [] = Unit {0}
Octets (x ∷ l) = (x < 256) × Octets l

-- octets as one number, their key: those of a list after a number v, and those of a list
abbrev pub key_from : ℕ → List ℕ → ℕ
key_from v [] = v
key_from v (x ∷ l) = key_from (v * 256 + x) l

abbrev pub key_of : List ℕ → ℕ
key_of l = key_from 0 l

-- an edge's and a pair's
pub edge_key_lem : (l x y : ℕ) → edge_key l x y ≡ key_of (l ∷ x ∷ y ∷ [])
edge_key_lem l x y = omega arith

pub pair_key_lem : (a b : ℕ) → pair_key a b ≡ key_of (a ∷ b ∷ [])
pair_key_lem a b = omega arith

-- what comes first decides
key_first : (l m : List ℕ) → length l ≡ length m → Octets l → Octets m → (v w : ℕ) → v < w → key_from v l < key_from w m
key_first [] [] e o p v w h = h
key_first [] (y ∷ m) e o p v w h = absurd (omega arith)
key_first (x ∷ l) [] e o p v w h = absurd (omega arith)
key_first (x ∷ l) (y ∷ m) e o p v w h =
    key_first l m (omega arith) o.1 p.1 (v * 256 + x) (w * 256 + y) (omega (arith, o.0, p.0))

less_or_more : (x y : ℕ) → (x < y) ⊎ ((x ≡ y) ⊎ (y < x))
less_or_more x y = ⊎_elim (λ h. ⊎_elim (λ e. inr (inl e)) (λ l. inl l) (eq-or-lt_of_le h)) (λ h. inr (inr h)) (le_or_lt x y)

from_rises : (l m : List ℕ) → length l ≡ length m → Octets l → Octets m → (v : ℕ) → (key_from v l < key_from v m ↔ Rises l m)
from_rises [] [] e o p v = (λ h. omega arith, λ z. absurd z)
from_rises [] (y ∷ m) e o p v = absurd (omega arith)
from_rises (x ∷ l) [] e o p v = absurd (omega arith)
from_rises (x ∷ l) (y ∷ m) e o p v =
    let rest = from_rises l m (omega arith) o.1 p.1 in (
      λ h. ⊎_elim
          (λ k. inl k)
          (λ k. ⊎_elim
          (λ q. inr (q, (rest (v * 256 + x)).0 (subst (λ (z : ℕ). key_from (v * 256 + x) l < key_from (v * 256 + z) m) (sym q) h)))
          (λ q. absurd (omega (arith, h, key_first m l (omega arith) p.1 o.1 (v * 256 + y) (v * 256 + x) (omega arith))))
          k)
          (less_or_more x y),
      λ h. ⊎_elim
          (λ k. key_first l m (omega arith) o.1 p.1 (v * 256 + x) (v * 256 + y) (omega arith))
          (λ k. subst (λ (z : ℕ). key_from (v * 256 + x) l < key_from (v * 256 + z) m) k.0 ((rest (v * 256 + x)).1 k.1))
          h,
    )

-- the order of keys is that in which lines rise
pub key_rises : (l m : List ℕ) → length l ≡ length m → Octets l → Octets m → (key_of l < key_of m ↔ Rises l m)
key_rises l m e o p = from_rises l m e o p 0

-- it is the order of `Order`, without what is equal
pub rises_after : (l m : List ℕ) → (Rises l m ↔ (NotAfter m l → ⊥))
rises_after [] [] = (λ z n. absurd z, λ h. h tt)
rises_after [] (y ∷ m) = (λ z n. n, λ h. tt)
rises_after (x ∷ l) [] = (λ z n. absurd z, λ h. h tt)
rises_after (x ∷ l) (y ∷ m) = (
  λ h n. ⊎_elim
      (λ k. ⊎_elim (λ q. omega arith) (λ q. let e = q.0 in omega arith) n)
      (λ k. ⊎_elim (λ q. let e = k.0 in omega arith) (λ q. (rises_after l m).0 k.1 q.1) n)
      h,
  λ h. ⊎_elim
      (λ k. inl k)
      (λ k. ⊎_elim (λ q. inr (q, (rises_after l m).1 (λ n. h (inr (sym q, n))))) (λ q. absurd (h (inl q))) k)
      (less_or_more x y),
)
