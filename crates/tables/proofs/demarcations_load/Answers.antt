-- `demarcations_load` meets its contract: as many lines as there is room for are taken, and the unused places are zero or not.
use Rattle.std.proofs.Common.{◌∙◌}
use borrow.Author.Tests.{lt-leb}
use Rattle.common.specs.Limits.{most_demarcations}
use Rattle.tables.specs.Loads.{demarcations_load}
use Rattle.tables.proofs.Lines.{few, lines_over, lines_one, plain_taken}
use Rattle.tables.proofs.demarcations_load.Goals as goal

pub returns-then-count-le-MOST_DEMARCATIONS : goal.returns-then-count-le-MOST_DEMARCATIONS
unfolding demarcations_load
returns-then-count-le-MOST_DEMARCATIONS c =
    let h = c.if-count-le-MOST_DEMARCATIONS.true in
    lines_one _ _ _ (few h (plain_taken most_demarcations c.args.count h)) c.args.privileges.now c.filled_from.ensures

pub returns-else-count-le-MOST_DEMARCATIONS : goal.returns-else-count-le-MOST_DEMARCATIONS
unfolding demarcations_load
returns-else-count-le-MOST_DEMARCATIONS c =
    let h = c.if-count-le-MOST_DEMARCATIONS.false in
    lt-leb c.args.count most_demarcations h ∙ lines_over _ _ _ h
