-- What the functions below the two predicates say to each other.
use Rattle.std.specs.Prelude.{ℕ, ◌^◌, ◌<◌, ◌≡◌, ◌↔◌, true, not, eqb}
use Rattle.common.specs.Limits.{privilege_count}
use Rattle.common.specs.Lists.{at}
use Rattle.common.specs.Sets.{In}
use Rattle.policy.specs.declared.Record.{Record}
use Rattle.formula.specs.Requests.{Asked}
use Rattle.justification.specs.Justification.{demarcation_has}
use Rattle.justification.specs.declared.Question.{Question}
use Rattle.justification.specs.Predicates.{question_refusal}
use Rattle.predicates.specs.declared.guard.Guard.{Guard}

-- g is the guard of method m, with what each principal gives
pub record Guards (r : Record) (m : ℕ) (g : Guard) : Type 0 where
  pub count : g.count ≡ r.principal_count
  pub every : g.every ≡ not (eqb (at r.method_forms m) 0)
  pub wanted : g.wanted ≡ at r.method_privileges m
  pub bounded : g.wanted < 2 ^ privilege_count
  pub gives : (p k : ℕ) → p < r.principal_count
      → (In k (at g.grants p) ↔ (demarcation_has r (at r.principal_demarcations p) k ≡ true))

-- a question may be put to a record: the request, and the guard of its method
pub record Puts (r : Record) (q : Question) (request : Asked) (g : Guard) : Type 0 where
  pub may : question_refusal r q ≡ 0
  pub asks : request ≡ record { rules = r; object = q.object; requestor = q.requestor }
  pub guards : Guards r q.method g
