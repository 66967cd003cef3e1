-- `closure::circular` meets its contract: the circles of the closure are those of the ways.
use Rattle.closure.proofs.Closing.{circle_closed}
use Rattle.closure.proofs.circular.Goals as goal

pub returns : goal.returns
returns c =
    let e = circle_closed c.closed.ensures in
    (λ r. e.0 (c.has_circle.ensures.0 r), λ w. c.has_circle.ensures.1 (e.1 w))
