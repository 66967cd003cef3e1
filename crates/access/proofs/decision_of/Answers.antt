-- `decision_of` meets its contract: what refuses the question leaves the very memo.
use Rattle.common.specs.RefusalNumbers.{number}
use Rattle.access.proofs.Choosing.{refused_is}
use Rattle.access.proofs.decision_of.Goals as goal

pub returns-in-Err : goal.returns-in-Err
returns-in-Err c = λ r e. rw c.in-Err.is (refused_is r (number c.in-Err.refusal) c.args.memo e)
