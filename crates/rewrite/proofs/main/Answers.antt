-- `main` is safe and ends: what it prints lies within the output.
use Rattle.rewriting.specs.ProgramLaws.{shown_within}
use Rattle.rewrite.proofs.main.Goals as goal

pub slice_bounds-output-end : goal.slice_bounds-output-end
slice_bounds-output-end c = (shown_within _ _ c.rewritten-length.ensures).0

pub slice_bounds-write_all-end : goal.slice_bounds-write_all-end
slice_bounds-write_all-end c = (shown_within _ _ c.rewritten-length.ensures).1
