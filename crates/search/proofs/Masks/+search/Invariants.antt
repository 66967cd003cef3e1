-- `search` calls itself, n falling.
use Rattle.search.proofs.Masks.+search.Given as goal

abbrev pub decreases-search : goal.decreases-search
decreases-search l = l.n
