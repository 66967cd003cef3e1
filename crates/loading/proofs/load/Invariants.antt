-- The kinds so far have been read.
use Rattle.std.proofs.Common.{◌≡◌, ◌+◌, Ok}
use Rattle.policy.specs.Table.{kind_of}
use Rattle.reading.specs.Loading.{load}
use Rattle.reading.specs.Stages.{loaded_from, Ready}
use Rattle.loading.proofs.load.Given as goal

abbrev pub invariant-loop-kind : goal.invariant-loop-kind
invariant-loop-kind l =
    record { same : loaded_from l.text (Ok l.stage) ≡ load l.text; ready : Ready l.text (kind_of (l.kind-index + 2)) l.stage }
