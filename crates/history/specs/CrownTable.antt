-- The crown table of document 01, (a) to (k), and the course example of tickets, each from a fresh load of the crown's bytes, computed.
use Rattle.std.specs.Prelude.{ℕ, ◌≡◌, true, false, List, [], ◌∷◌}
use Rattle.common.specs.Refusals.{not_enabled, not_consistent, guard_not_met}
use Rattle.policy.specs.declared.Record.{Record}
use Rattle.policy.specs.Edits.{removed}
use Rattle.justification.specs.declared.Question.{Question}
use Rattle.justification.specs.Predicates.{liberal, strict}
use Rattle.access.specs.Answers.{Answer}
use Rattle.access.specs.Access.{eager, lazy}
use Rattle.tickets.specs.Tickets.{ticket_of, ticket_refusal}
use Rattle.reading.specs.Loading.{load}
use Rattle.loading.specs.Crown.{crown}

-- a fresh load
abbrev pub fresh : Record
fresh = (load crown).rules

-- an answer's number, set number and evaluations; the set {1, 2} is 6, {0} is 1, the empty set is 0
abbrev pub seen : Answer → List ℕ
seen a = a.number ∷ a.set ∷ a.evaluations ∷ []

-- a question with this method about the crown (object 0), by a requestor (1 Ana, 2 Ben)
abbrev pub by : ℕ → ℕ → Question
by method requestor = record { method = method; object = 0; requestor = requestor }

pub record CrownTable : Type 0 where
  pub loads : (load crown).number ≡ 0
  pub a : seen (lazy fresh (by 0 1)) ≡ 0 ∷ 6 ∷ 2 ∷ []
  pub b : seen (eager fresh (by 0 1)) ≡ 0 ∷ 6 ∷ 3 ∷ []
  pub c : seen (lazy fresh (by 1 1)) ≡ 0 ∷ 1 ∷ 1 ∷ []
  pub d : seen (lazy fresh (by 2 1)) ≡ 0 ∷ 0 ∷ 0 ∷ []
  pub e : seen (lazy fresh (by 3 1)) ≡ 17 ∷ 0 ∷ 0 ∷ []
  pub f : liberal fresh (by 3 1) ≡ record { number = 0; yes = true }
  pub g : strict fresh (by 3 1) ≡ record { number = 0; yes = false }
  pub h : seen (lazy fresh (by 0 2)) ≡ 17 ∷ 0 ∷ 2 ∷ []
  pub i : strict fresh (by 0 2) ≡ record { number = 0; yes = true }
  pub j : seen (lazy (removed fresh 1 0 1).rules (by 0 1)) ≡ 17 ∷ 0 ∷ 1 ∷ []
  pub k : seen (lazy fresh (by 0 0)) ≡ 16 ∷ 0 ∷ 0 ∷ []

-- tickets for method 0 about the crown, by Ana (1) and Ben (2); the set {1, 2} is 6, {1} is 2, {0, 1} is 3, {2} is 4
abbrev pub ticket_by : ℕ → ℕ → ℕ
ticket_by requestor set = ticket_refusal fresh (ticket_of (by 0 requestor) set)

pub record CrownTickets : Type 0 where
  pub ana_both : ticket_by 1 6 ≡ 0
  pub ana_one : ticket_by 1 2 ≡ not_consistent
  pub ana_excluded : ticket_by 1 3 ≡ not_consistent
  pub ana_unmet : ticket_by 1 4 ≡ guard_not_met
  pub ben_one : ticket_by 2 2 ≡ not_consistent
  pub ben_both : ticket_by 2 6 ≡ not_enabled
