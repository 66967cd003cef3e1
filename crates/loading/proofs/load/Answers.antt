-- `load` meets its contract: each reader leaves what loading answers as it is.
use Rattle.std.proofs.Common.{sym, ◌∙◌, subst, eqb-true}
use Rattle.std.proofs.lemmas.Result.{err_from_is_err_and}
use Rattle.policy.specs.Table.{Kind}
use Rattle.reading.specs.Stages.{Ready}
use Rattle.reading.proofs.Partway.{from_refused}
use Rattle.loading.proofs.Ends.{load_empty}
use Rattle.loading.proofs.KindOrder.{followed}
use Rattle.loading.proofs.load.Goals as goal

pub returns-then-is_empty : goal.returns-then-is_empty
returns-then-is_empty c = load_empty _ (eqb-true _ _ (sym c.if-is_empty.ensures))

pub returns-in_err-stage : goal.returns-in_err-stage
returns-in_err-stage c =
    let p = err_from_is_err_and c.from_residual.result c.from_residual.ensures.1 in
    let h = rw c.of-reader.ensures at c.in_err-stage.ensures in
    rw (p.1, p.2) (sym (from_refused _ _) ∙ h.same)

pub returns-in_err-stage-2 : goal.returns-in_err-stage-2
returns-in_err-stage-2 c =
    let p = err_from_is_err_and c.from_residual-in_err-stage-2.result c.from_residual-in_err-stage-2.ensures.1 in
    let h = rw c.of-reader.ensures at c.in_err-stage-2.ensures in
    rw (p.1, p.2) (sym (from_refused _ _) ∙ h.same ∙ c.loop-kind.invariant.same)

pub loop-kind-preserved : goal.loop-kind-preserved
loop-kind-preserved c =
    let h = rw c.of-reader.ensures at c.in_ok-stage-2.ensures in
    record {
      same = h.same ∙ c.loop-kind.invariant.same;
      ready = subst (λ (k : Kind). Ready c.args.text.now k c.in_ok-stage-2.stage) (followed _ c.loop-kind-test.true _) h.ready;
    }
