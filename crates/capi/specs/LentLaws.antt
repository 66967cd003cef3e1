-- Demand 3, of what the caller of the C interface sees: a record that `access_load` left with 0, and any `access_answer` calls on it,
-- known by their contracts alone.
use Rattle.std.specs.Prelude.{ℕ, ◌<◌, ◌≡◌, refl, List, [], ◌∷◌}
use Rattle.std.proofs.Common.{sym, ◌∙◌, ap, subst, arith}
use Rattle.policy.specs.declared.Record.{Record}
use Rattle.reading.specs.Loading.{load}
use Rattle.tickets.specs.declared.Ticket.{Ticket}
use Rattle.history.specs.Book.{Call, check_ticket, engine_after}
use Rattle.history.specs.IndexAnew.{IndexAnew}
use Rattle.history.proofs.IndexAnew.{index_anew}
use Rattle.replay.specs.Replay.{call, listed_call_at, buffer_after}
use Rattle.replay.specs.BookCalls.{calls_before}
use Rattle.replay.proofs.ReplayLaws.{tickets_leave}
use Rattle.replay.specs.Parts.{Part, left_after_parts, parts_calls, parts_count, PointHolds}
use Rattle.replay.proofs.PartLaws.{parts_hold}
use Rattle.capi.specs.Lent.{load_value, Answers}

-- `access_answer` calls, from the record r to the record left: each is given a part, on the record that the one before it left
pub data Answered : Record → List Part → Record → Type 0 where
  none : {r : Record} → Answered r [] r
  first : {r next left : Record} {p : Part} {ps : List Part} {n : ℕ} {after : List ℕ}
      → Answers r p.calls p.buffer n next after → Answered next ps left → Answered r (p ∷ ps) left

-- the record is the engine's after all calls so far, and its index the one that building anew would give; and whatever part
-- `access_answer` is given next, each call that it answers holds beside the book after all calls before it, and has its answer in the buffer
pub record LentHolds (text : List ℕ) (loads : (load text).number ≡ 0) (ps : List Part) (left : Record) : Type 0 where
  pub engine : left ≡ engine_after (load text).rules (calls_before (parts_calls ps) (parts_count ps))
  pub index : IndexAnew left
  pub next : (p : Part) {n : ℕ} {then : Record} {after : List ℕ} → Answers left p.calls p.buffer n then after
      → (i : ℕ) → i < n → (c : Call) → listed_call_at p.calls i ≡ call c → PointHolds text loads ps p i c after

-- a value of 0 is a bundle that was loaded
pub loaded : (text : List ℕ) → load_value text ≡ 0 → (load text).number ≡ 0
loaded text e = omega arith

answered_left : {r left : Record} (ps : List Part) → Answered r ps left → left ≡ left_after_parts r ps
unfolding left_after_parts
answered_left [] none = refl
answered_left (p ∷ ps) (first a rest) = answered_left ps rest ∙ ap (λ (x : Record). left_after_parts x ps) a.rules

pub lent_holds : (text : List ℕ) (e : load_value text ≡ 0) (ps : List Part) (left : Record) → Answered (load text).rules ps left
    → LentHolds text (loaded text e) ps left
lent_holds text e ps left h =
    let same = answered_left ps h in
    let all = parts_hold text (loaded text e) ps in
    record {
      engine = same ∙ all.left;
      index = subst IndexAnew (sym (same ∙ all.left)) (index_anew text (loaded text e) _);
      next = λ p a i l c f.
          let buffer = a.buffer ∙ ap (λ (x : Record). buffer_after x p.calls p.buffer) same in
          subst (PointHolds text (loaded text e) ps p i c) (sym buffer) (all.next p i (subst (λ (n : ℕ). i < n) a.count l) c f);
    }

-- an `access_answer` of tickets alone leaves the caller's record as it was, memo included
pub lent_tickets : {r left : Record} {calls before after : List ℕ} {n : ℕ} → Answers r calls before n left after
    → ((i : ℕ) → i < n → (t : Ticket) × (listed_call_at calls i ≡ call (check_ticket t))) → left ≡ r
lent_tickets {r} {calls = calls} a all =
    a.rules ∙ tickets_leave r calls _ (λ i l. all i (subst (λ (k : ℕ). i < k) (sym a.count) l))
