-- Grant tickets (document 02, 2026-01): what the checker answers.
use Rattle.std.specs.Prelude.{ℕ, ◌^◌, ◌≤◌, ◌≡◌, ◌↔◌, ◌⊎◌, Bool, false, not, cond, ◌&&◌, [], ◌∷◌, ltb, eqb}
use Rattle.common.specs.Lists.{at, every}
use Rattle.common.specs.Causes.{cause, first}
use Rattle.common.specs.Refusals.{not_enabled, not_consistent, guard_not_met}
use Rattle.common.specs.Sets.{In}
use Rattle.policy.specs.declared.Record.{Record}
use Rattle.formula.specs.Requests.{Asked}
use Rattle.formula.specs.Formula.{holds}
use Rattle.justification.specs.declared.Question.{Question}
use Rattle.justification.specs.Justification.{members, consistent, meets}
use Rattle.justification.specs.Predicates.{question_refusal, is_enabled}
use Rattle.justification.specs.Satisfying.{IsConsistent, GuardMet, AllEnabled, Satisfies}
use Rattle.tickets.specs.declared.Ticket.{Ticket}

abbrev pub ticket_of : Question → ℕ → Ticket
ticket_of q c = record { question = q; set = c }

-- "21 for a set that isn't consistent, 22 for a guard not met", of method m, "tested in that order"
unfoldable pub constraint_refusal : Record → ℕ → ℕ → ℕ
constraint_refusal r m c = first (cause not_consistent (not (consistent r c)) ∷ cause guard_not_met (not (meets r m (members r c))) ∷ [])

-- before these, "20 for a member that is no principal or isn't enabled"
unfoldable pub set_refusal : Record → (ℕ → Bool) → ℕ → ℕ → ℕ
set_refusal r enabled m c =
    cond (ltb c (2 ^ r.principal_count) && every enabled (members r c)) (constraint_refusal r m c) not_enabled

-- 20 to 22 are "after 19 and 14 to 16": what refuses the question, if anything does, comes first
abbrev pub after_question : ℕ → ℕ → ℕ
after_question refusal n = cond (eqb refusal 0) n refusal

-- principal p is enabled for a request: its formula is true at the object
abbrev pub enabled_for : Asked → ℕ → Bool
enabled_for q p = holds q.rules (at q.rules.principal_formulas p) q.object q.object q.requestor

-- "The checker evaluates afresh": `is_enabled` reads no memo
unfoldable pub ticket_refusal : Record → Ticket → ℕ
ticket_refusal r t =
    let q = t.question in
    after_question (question_refusal r q) (set_refusal r (is_enabled r q) q.method t.set)

-- ---- the same in quantifiers (`TicketLaws` `set_number`)

-- "a member that is no principal or isn't enabled"
pub record Unfit (r : Record) (enabled : ℕ → Bool) (c : ℕ) : Type 0 where
  pub who : ℕ
  pub member : In who c
  pub why : (r.principal_count ≤ who) ⊎ (enabled who ≡ false)

-- what the number n says of the set c, proposed for method m where these principals are enabled: accepted "exactly when every member is a
-- principal and enabled, the set is consistent, and it meets the guard"; else "20 .., 21 .., 22 .., tested in that order"
pub record SetNumber (r : Record) (enabled : ℕ → Bool) (m c n : ℕ) : Type 0 where
  pub accepted : (n ≡ 0) ↔ Satisfies r enabled m c
  pub unfit : (n ≡ not_enabled) ↔ Unfit r enabled c
  pub inconsistent : (n ≡ not_consistent) ↔ (AllEnabled r enabled c × (IsConsistent r c → ⊥))
  pub unmet : (n ≡ guard_not_met) ↔ (AllEnabled r enabled c × IsConsistent r c × (GuardMet r m c → ⊥))
