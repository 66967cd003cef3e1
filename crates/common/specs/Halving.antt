-- Halving: positions from `first` to before `stop`, along which a number does not fall, are parted by where it is below x.
use Rattle.std.specs.Prelude.{ℕ, zero, suc, ◌+◌, ◌≤◌, ◌<◌, ◌≡◌}
use Rattle.std.proofs.Common.{arith, add-one}
use Rattle.std.proofs.Math.Decide.{dec_lt}

-- below x before `low`, x or more from `high` on
pub record Parted (number : ℕ → ℕ) (x first stop low high : ℕ) : Type 0 where
  pub start : first ≤ low
  pub below : (p : ℕ) → first ≤ p → p < low → number p < x
  pub above : (p : ℕ) → first ≤ p → high ≤ p → p < stop → x ≤ number p

module _ {number : ℕ → ℕ} {first stop : ℕ} (rising : (p : ℕ) → first ≤ p → p + 1 < stop → number p ≤ number (p + 1)) where
  -- not falling from one position to the next, so not between any two
  pub not_falling : (p q : ℕ) → first ≤ p → p ≤ q → q < stop → number p ≤ number q
  not_falling p zero f l s = let e : p ≡ 0 = omega arith in rw e (omega arith)
  not_falling p (suc q) f l s = elim (dec_lt p (suc q)) [
    | yes m ↦ omega (arith, not_falling p q f (omega arith) (omega arith), rw add-one at (rising q (omega arith) (omega arith)))
    | no n ↦ (let e : p ≡ suc q = omega arith in rw e (omega arith))
  ]

  module _ {x low high : ℕ} (m : Parted number x first stop low high) (p : ℕ) (l : low ≤ p) (s : p < stop) where
    -- the number at p is below x, and so are those before it
    pub parted_below : number p < x → Parted number x first stop (p + 1) high
    parted_below t =
        record {
          start = omega (arith, m.start);
          below = λ q a b. omega (arith, not_falling q p a (omega arith) s);
          above = m.above;
        }

    -- it is not, and nor are those after it
    pub parted_above : x ≤ number p → Parted number x first stop low p
    parted_above t =
        record {
          start = m.start;
          below = m.below;
          above = λ q a b c. omega (arith, not_falling p q (omega (arith, m.start)) b c);
        }

-- nothing is parted yet
pub parted_none : (number : ℕ → ℕ) (x first stop : ℕ) → Parted number x first stop first stop
parted_none number x first stop =
    record { start = omega arith; below = λ p a b. absurd (omega arith); above = λ p a b c. absurd (omega arith) }

-- all are parted
pub parted_all : {number : ℕ → ℕ} {x first stop low high : ℕ} → high ≤ low → Parted number x first stop low high
    → Parted number x first stop low low
parted_all l m = record { start = m.start; below = m.below; above = λ p a b c. m.above p a (omega arith) c }
