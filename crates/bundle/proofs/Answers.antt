-- What the writer answers, refusal by refusal.
use Prim.Native.Nat.{ℕ, ◌≤◌, ◌<◌}
use mathlib.Core.Path.{◌≡◌, refl, ◌∙◌}
use mathlib.Core.Bool.{true, false}
use mathlib.Core.List.{List, ◌++◌}
use native.Mathlib.Omega.{arith}
use lib.ListN.{length, drop}
use borrow.Author.Tests.{lt-ltb, le-ltb}
use Rattle.policy.specs.declared.Record.{Record}
use Rattle.policy.specs.Loadable.{loadable}
use Rattle.bundle.specs.Writing.{bundle_of, length_needed, measured, written, buffer_after, write_refusal}

module _ (r : Record) where
  pub unmeasured : loadable r ≡ false → record { number = 19; length = 0 } ≡ measured r
  unfolding measured length_needed
  unmeasured e = rw e

  pub measured_length : {n : ℕ} → loadable r ≡ true → n ≡ length (bundle_of r) → record { number = 0; length = n } ≡ measured r
  unfolding measured length_needed
  measured_length e f = rw e (λ j. record { number = 0; length = f j })

  module _ (b : List ℕ) where
    -- what is answered, and what the buffer then holds
    abbrev pub Answered : ℕ → ℕ → List ℕ → Type 0
    Answered number n after = (record { number = number; length = n } ≡ written r b) × (after ≡ buffer_after r b)

    -- 19
    pub unloadable : loadable r ≡ false → Answered 19 0 b
    unfolding written buffer_after write_refusal length_needed
    unloadable e = (rw e refl, rw e refl)

    module _ (loads : loadable r ≡ true) {n : ℕ} (long : n ≡ length (bundle_of r)) where
      -- 18
      pub short : length b < n → Answered 18 n b
      unfolding written buffer_after write_refusal length_needed
      short l =
          let s = lt-ltb (length b) (length (bundle_of r)) (let m : length b < length (bundle_of r) = omega arith in m) in
          (rw (loads, s) (λ j. record { number = 18; length = long j }), rw (loads, s) refl)

      -- 0
      pub writes : {a : List ℕ} → n ≤ length b → a ≡ bundle_of r ++ drop (length (bundle_of r)) b → Answered 0 n a
      unfolding written buffer_after write_refusal length_needed
      writes l f =
          let s = le-ltb (length b) (length (bundle_of r)) (let m : length (bundle_of r) ≤ length b = omega arith in m) in
          (rw (loads, s) (λ j. record { number = 0; length = long j }), f ∙ rw (loads, s) refl)
