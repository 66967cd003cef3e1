-- `possible` meets its contract: no candidate has the giver at hand, and none without it has a later one.
use Rattle.std.proofs.Common.{◌≡◌, ℕ, ◌+◌, subst, arith}
use Rattle.std.specs.Int.Bits.{bit_or}
use Rattle.common.specs.Lists.{at}
use Rattle.search.specs.Steps.{NoneHolds}
use Rattle.search.proofs.Prunes.{no_room, no_giver, past_all, none_between, neither_way}
use Rattle.search.proofs.Masks.+possible.Goals as goal
use Rattle.search.proofs.Masks.+possible.Goals.{then-meets-2+else-admissible, else-meets-2}
use Rattle.search.proofs.Masks.+possible.Goals.{else-admissible-via-then-admissible+else-possible, else-admissible-via-else-admissible}

pub loop-giver-preserved : goal.loop-giver-preserved
loop-giver-preserved t c =
    let r = c.args.self.now in
    let p = c.loop-giver.giver in
    let b = c.loop-giver.barred in
    elim c.if-meets-2.branch [
      | then-meets-2+else-admissible w ↦
          let none : NoneHolds r c.args.limit (bit_or w.add.result (at r.needs p)) b =
          elim w.else-admissible.branch [
            | else-admissible-via-then-admissible+else-possible v ↦ v.possible.ensures v.if-possible.false
            | else-admissible-via-else-admissible v ↦ w.admissible.ensures v.if-admissible.false
          ] in
          λ f. c.loop-giver.invariant
          (neither_way p
          (subst (λ (z : ℕ). NoneHolds r c.args.limit (bit_or z (at r.needs p)) b) w.add.ensures none)
          (rw (w.barred-is, w.add-barred.ensures) at f))
      | else-meets-2 w ↦
          λ f. c.loop-giver.invariant
          (none_between p (p + 1) (λ q l u m. let e : q ≡ p = omega arith in c.meets-in-loop-giver.ensures.no w.if-meets-2.false (rw e at m))
          (rw w.barred-is at f))
    ]

pub returns-then-limit-size : goal.returns-then-limit-size
returns-then-limit-size t c = λ e. no_room c.granted_by-granted.ensures (c.meets.ensures.no c.if-meets.false) (omega arith)

pub returns : goal.returns
returns t c = λ e. no_giver c.asked-x.ensures (c.loop-giver.invariant (past_all (omega arith)))
