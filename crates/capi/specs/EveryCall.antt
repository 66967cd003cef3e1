-- Refusal 19 by every call. Document 01: "no bundle loads to this record (memo aside)"; request 2026-05: a record handed in with a formula
-- that is too high.
use Rattle.std.specs.Prelude.{ℕ, ◌<◌, ◌≡◌, refl, false, List}
use Rattle.common.specs.Limits.{greatest_height}
use Rattle.common.specs.Refusals.{not_loadable}
use Rattle.policy.specs.declared.Record.{Record}
use Rattle.policy.specs.Height.{height}
use Rattle.policy.specs.Loadable.{loadable}
use Rattle.policy.specs.Edits.{added, removed}
use Rattle.justification.specs.declared.Question.{Question}
use Rattle.justification.specs.Predicates.{question_refusal, liberal, strict}
use Rattle.access.specs.Access.{eager, lazy}
use Rattle.tickets.specs.Tickets.{ticket_refusal}
use Rattle.loading.proofs.HighestFormula.{too_high_19}
use Rattle.history.specs.Book.{Call, add, remove, ask_eagerly, ask_lazily, check_ticket}
use Rattle.replay.specs.Replay.{call, liberally, strictly, number_answer, answer_to}
use Rattle.bundle.specs.Writing.{write_refusal, length_needed, written, buffer_after, measured}

-- the number alone, and the very record: an edit, a question, a ticket; a predicate. The writer: length 0, and the buffer as it was
pub record RefusedByAll (r : Record) : Type 0 where
  pub calls : (c : Call) → answer_to r (call c) ≡ number_answer r not_loadable
  pub liberally : (q : Question) → answer_to r (liberally q) ≡ number_answer r not_loadable
  pub strictly : (q : Question) → answer_to r (strictly q) ≡ number_answer r not_loadable
  pub writer : (buffer : List ℕ) → written r buffer ≡ record { number = not_loadable; length = 0 }
  pub buffer : (buffer : List ℕ) → buffer_after r buffer ≡ buffer
  pub measure : measured r ≡ record { number = not_loadable; length = 0 }

each_call : (r : Record) → loadable r ≡ false → (c : Call) → answer_to r (call c) ≡ number_answer r not_loadable
unfolding answer_to added removed eager lazy ticket_refusal question_refusal
each_call r e (add l x y) = rw e refl
each_call r e (remove l x y) = rw e refl
each_call r e (ask_eagerly q) = rw e refl
each_call r e (ask_lazily q) = rw e refl
each_call r e (check_ticket t) = rw e refl

pub refused_by_all : (r : Record) → loadable r ≡ false → RefusedByAll r
unfolding answer_to liberal strict question_refusal written write_refusal length_needed buffer_after measured
refused_by_all r e =
    record {
      calls = each_call r e;
      liberally = λ q. rw e refl;
      strictly = λ q. rw e refl;
      writer = λ buffer. rw e refl;
      buffer = λ buffer. rw e refl;
      measure = rw e refl;
    }

-- "Height 6 is out of range, .. in a record handed in"
pub too_high_by_all : (r : Record) (f : ℕ) → f < r.formula_count → greatest_height < height r r.formula_count f → RefusedByAll r
too_high_by_all r f there h = refused_by_all r (too_high_19 r f there h)
