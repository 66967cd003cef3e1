-- `answer_all` meets its contract.
use Rattle.replay.proofs.Replaying.{Replaying}
use Rattle.replay.proofs.answer_all.Given as goal

abbrev pub invariant-loop-i : goal.invariant-loop-i
invariant-loop-i l = Replaying l.calls l.fn.answers l.fn.rules l.loads l.answers l.rules l.i
