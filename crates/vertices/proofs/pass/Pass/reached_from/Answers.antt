-- `reached_from` meets its contract: a whole pass marks the ends of the edges that start at an asked vertex.
use Rattle.std.proofs.Common.{arith}
use Rattle.vertices.specs.Steps.{is_in}
use Rattle.vertices.proofs.Marking.{marked_to_the_end, ends_marked}
use Rattle.vertices.proofs.pass.Pass.reached_from.Goals as goal

pub returns : goal.returns
returns c =
    rw (← c.self.view_is) (λ n labels l listed. ends_marked c.self.inside.starts.now c.self.inside.ends.now listed (is_in c.args.asked.now)
    (marked_to_the_end c.loop-p.invariant (λ q a b. absurd (omega arith))))
