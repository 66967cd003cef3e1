-- The octets of the answers: five for each call, one answer after another.
use Prim.Native.Nat.{ℕ, zero, suc, ◌*◌, ◌/◌, ◌≤◌, ◌<◌, min}
use Rattle.std.specs.Prelude.{◌≡◌, length, drop}
use Rattle.std.proofs.Math.Path.{refl, sym, ap}
use Rattle.std.proofs.Common.{◌∙◌, arith, drop_at}
use mathlib.Core.List.{List, ◌++◌, append_assoc}
use Rattle.std.proofs.Math.Decide.{dec_lt}
use Rattle.std.proofs.Math.ListN.{take, length-append}
use Rattle.policy.specs.declared.Record.{Record}
use Rattle.access.specs.Answers.{Answer}
use Rattle.replay.specs.Replay.{call_octets, answer_to, answer_octets, listed_call_at, left_after, replies, answered_count, buffer_after}

-- as many as are whole and fit
pub whole_fit : (a b n : ℕ) → n ≡ min (a / call_octets) (b / 5) → (call_octets * n ≤ a) × (5 * n ≤ b)
whole_fit a b n e = (omega arith, omega arith)

module _ (r : Record) (calls : List ℕ) where
  -- what call i answers
  abbrev pub answer_at : ℕ → Answer
  answer_at i = answer_to (left_after r calls i) (listed_call_at calls i)

  pub length_replies : (n : ℕ) → length (replies r calls n) ≡ 5 * n
  unfolding replies
  length_replies zero = refl
  length_replies (suc n) = omega (arith, length_replies n, length-append (replies r calls n) (answer_octets (answer_at n)))

  -- the octets of answer i among those of n, whatever follows them
  pub reply_at : (n i : ℕ) → i < n → (rest : List ℕ) → take 5 (drop (5 * i) (replies r calls n ++ rest)) ≡ answer_octets (answer_at i)
  unfolding replies
  reply_at zero i l rest = absurd (omega arith)
  reply_at (suc n) i l rest =
      ap (λ (os : List ℕ). take 5 (drop (5 * i) os)) (append_assoc (replies r calls n) (answer_octets (answer_at n)) rest)
      ∙ elim (dec_lt i n) [ yes h ↦ reply_at n i h (answer_octets (answer_at n) ++ rest) | no f ↦ last (omega arith) ]
    where
      last : n ≡ i → take 5 (drop (5 * i) (replies r calls n ++ (answer_octets (answer_at n) ++ rest))) ≡ answer_octets (answer_at i)
      last e =
          (λ j. take 5 (drop (5 * sym e j) (replies r calls n ++ (answer_octets (answer_at n) ++ rest))))
          ∙ ap (take 5) (drop_at (replies r calls n) (answer_octets (answer_at n) ++ rest) (5 * n) (length_replies n))
          ∙ ap (λ (k : ℕ). answer_octets (answer_at k)) e

  -- the octets of answer i in the buffer
  pub answer_at_lem : (buffer : List ℕ) (i : ℕ) → i < answered_count calls buffer
      → take 5 (drop (5 * i) (buffer_after r calls buffer)) ≡ answer_octets (answer_at i)
  unfolding buffer_after
  answer_at_lem buffer i l = reply_at (answered_count calls buffer) i l (drop (5 * answered_count calls buffer) buffer)
