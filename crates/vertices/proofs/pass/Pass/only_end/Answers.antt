-- `only_end` meets its contract: the first position and the next say whether there is one edge, none or several.
use Rattle.std.proofs.Common.{◌+◌, ap, ◌∙◌, arith}
use Rattle.std.proofs.Math.Decide.{dec_lt}
use Rattle.vertices.proofs.Halving.{none_below, none_after}
use Rattle.vertices.proofs.OwnEdges.{none_leads, one_leads}
use Rattle.vertices.proofs.pass.Pass.only_end.Goals as goal

-- the first position is not x's: none is
pub returns-in_default : goal.returns-in_default
returns-in_default c =
    let s = c.args.self.now in
    let own = c.first_from-own.ensures in
    λ n labels l listed P. none_leads s.starts s.ends listed c.args.x P (λ q f b e. elim (dec_lt q c.first_from-own.result) [
      | yes d ↦ absurd (none_below own.passable own.parted q f d e)
      | no d ↦ absurd (none_after own.passable own.parted c.first_from-own.result (omega arith) (c.in_default.ensures (omega arith)) q (omega arith) b e)
    ])

-- the first position is x's, the next is not
pub returns-in-None : goal.returns-in-None
returns-in-None c =
    let s = c.args.self.now in
    let own = c.first_from-own.ensures in
    let here = c.in-Some.ensures in
    λ n labels l listed P. one_leads s.starts s.ends listed c.args.x P c.first_from-own.result own.parted.start here.0
    here.2 (none_below own.passable own.parted)
    (λ q m b. none_after own.passable own.parted (c.first_from-own.result + 1) (omega arith)
    (c.in-None.ensures (omega arith)) q m b)
    ∙ ap P here.3

pub overflow_add-own : goal.overflow_add-own
overflow_add-own c = omega (arith, c.in-Some.ensures)
