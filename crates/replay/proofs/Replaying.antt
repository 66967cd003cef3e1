-- The loop of `answer_all`: the answers so far stand first, and the rest of the buffer is as it was.
use Prim.Native.Nat.{ℕ, ◌+◌, ◌*◌, ◌≤◌}
use Rattle.std.specs.Prelude.{◌≡◌, Bool, List, ◌++◌, length, take, drop}
use Rattle.std.proofs.Common.{refl, sym, ◌∙◌, ap, arith, add-one, take-append-drop}
use borrow.Rule.Slice.PartMut.{put_mid}
use Rattle.std.proofs.lemmas.List.{drop-drop}
use Rattle.std.proofs.lemmas.Slice.{take-put_mid, drop-put_mid}
use Rattle.policy.specs.declared.Record.{Record}
use Rattle.policy.specs.Loadable.{loadable}
use Rattle.access.specs.Answers.{Answer}
use Rattle.replay.specs.LoadLaws.{answer_loads}
use Rattle.replay.specs.Replay.{ListedCall, answer_to, answer_octets, listed_call_at, left_after, replies, answered_count, buffer_after}

-- i calls have been answered
pub record Replaying (calls before : List ℕ) (first : Record) (loads : Bool) (buffer : List ℕ) (r : Record) (i : ℕ) : Type 0 where
  pub answers : take (5 * i) buffer ≡ replies first calls i
  pub others : drop (5 * i) buffer ≡ drop (5 * i) before
  pub left : r ≡ left_after first calls i
  pub given : loads ≡ loadable r

pub replaying_start : (calls buffer : List ℕ) (r : Record) (loads : Bool) → loads ≡ loadable r → Replaying calls buffer r loads buffer r 0
unfolding replies left_after
replaying_start calls buffer r loads e = record { answers = refl; others = refl; left = refl; given = e }

-- one more, whose octets are written after those so far; whether some bundle loads to the record is as it was
module _ {calls before : List ℕ} {first : Record} {loads : Bool} {buffer : List ℕ} {r : Record} {i : ℕ}
    (w : Replaying calls before first loads buffer r i) where
  pub replaying_more : (got : Answer) {x : ListedCall} {octets : List ℕ} {k : ℕ} → 5 * i + 5 ≤ length buffer → k ≡ 5
      → x ≡ listed_call_at calls i → got ≡ answer_to r x → octets ≡ answer_octets got
      → Replaying calls before first loads (put_mid (5 * i) k buffer octets) got.rules (i + 1)
  unfolding replies left_after
  replaying_more got {x} {octets} {k} room five call answer written =
      record {
        answers =
            take-put_mid (5 * i) k buffer octets (5 * (i + 1)) (omega (arith, ap length written)) (omega arith)
            ∙ (λ j. w.answers j ++ (written ∙ ap answer_octets told) j)
            ∙ more;
        others =
            drop-put_mid (5 * i) k buffer octets (5 * (i + 1)) (omega arith) (omega arith) (omega (arith, ap length written))
            ∙ later;
        left = ap (λ (a : Answer). a.rules) told ∙ on;
        given = w.given ∙ sym (ap (λ (a : Answer). loadable a.rules) answer ∙ answer_loads r x);
      }
    where
      told : got ≡ answer_to (left_after first calls i) (listed_call_at calls i)
      told = answer ∙ (λ j. answer_to (w.left j) (call j))

      more : replies first calls i ++ answer_octets (answer_to (left_after first calls i) (listed_call_at calls i)) ≡ replies first calls (i + 1)
      more = rw (add-one i) refl

      on : (answer_to (left_after first calls i) (listed_call_at calls i)).rules ≡ left_after first calls (i + 1)
      on = rw (add-one i) refl

      later : drop (5 * (i + 1)) buffer ≡ drop (5 * (i + 1)) before
      later =
          let m : 5 * i + 5 ≡ 5 * (i + 1) = omega arith in
          ap (λ (n : ℕ). drop n buffer) (sym m) ∙ sym (drop-drop 5 (5 * i) buffer) ∙ ap (drop 5) w.others ∙ drop-drop 5 (5 * i) before
          ∙ ap (λ (n : ℕ). drop n before) m

  pub replaying_end : i ≡ answered_count calls before → buffer ≡ buffer_after first calls before
  unfolding buffer_after
  replaying_end e =
      sym (take-append-drop (5 * i) buffer)
      ∙ (λ j. w.answers j ++ w.others j)
      ∙ (λ j. replies first calls (e j) ++ drop (5 * e j) before)
