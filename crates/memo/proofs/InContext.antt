-- In the context of a request, with the roles that its requestor holds, the steps come to what they come to by evaluation afresh.
use Rattle.std.specs.Prelude.{ℕ, ◌+◌, ◌<◌, ◌≡◌, true}
use Rattle.common.specs.Lists.{below}
use Rattle.policy.specs.declared.Record.{Record}
use Rattle.policy.specs.declared.Memo.{Memo}
use Rattle.policy.specs.Table.{formula}
use Rattle.policy.specs.Loadable.{loadable}
use Rattle.policy.specs.LoadableLaws.{loadable_table, table_few}
use Rattle.formula.specs.Requests.{Asked, RolesHeld}
use Rattle.formula.specs.EvaluationLaws.{true_at_holds}
use Rattle.evaluation.specs.declared.context.ObjectContext.{ObjectContext}
use Rattle.justification.specs.Justification.{members}
use Rattle.memo.specs.Memo.{truth_for, truth_in}
use Rattle.memo.specs.Walk.{formula_of, evaluated_all, tried, searching}
use Rattle.memo.specs.StepLaws.{evaluated_ext, tried_ext, searching_ext}
use Rattle.memo.proofs.Places.{formula_named}

module _ (q : Asked) (c : ObjectContext) (loads : loadable q.rules ≡ true) (rules : c.rules ≡ q.rules) (object : c.object ≡ q.object)
    (requestor : c.requestor ≡ q.requestor) (held : RolesHeld q.rules q.requestor c.roles) where
  -- a principal's formula
  pub truth_same : (p : ℕ) → p < q.rules.principal_count → truth_in c (formula_of q.rules p) ≡ truth_for q (formula_of q.rules p)
  truth_same p l =
      let few = table_few q.rules formula (loadable_table q.rules loads formula) in
      rw (rules, object, requestor)
      (true_at_holds q.rules (formula_of q.rules p) q.object q.requestor c.roles held (formula_named q.rules p loads l) few)

  -- with the principals of the same record: all evaluated, a candidate weighed, searched in rounds
  module _ {r : Record} (is : r ≡ q.rules) (m : Memo) where
    pub evaluated_for : evaluated_all (truth_in c) r m (below r.principal_count)
        ≡ evaluated_all (truth_for q) q.rules m (below q.rules.principal_count)
    evaluated_for = rw is (evaluated_ext (truth_in c) (truth_for q) q.rules truth_same m)

    pub tried_for : (s : ℕ) → tried (truth_in c) r m (members r s) ≡ tried (truth_for q) q.rules m (members q.rules s)
    tried_for s = rw is (tried_ext (truth_in c) (truth_for q) q.rules truth_same m s)

    pub searching_for : (k : ℕ) → searching (r.principal_count + 1) (truth_in c) r k m
        ≡ searching (q.rules.principal_count + 1) (truth_for q) q.rules k m
    searching_for k = rw is (searching_ext (truth_in c) (truth_for q) q.rules truth_same (q.rules.principal_count + 1) k m)
