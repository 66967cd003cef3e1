-- `search_by` meets its contract: round by round, for the method that the masks are of.
use Rattle.std.proofs.Common.{◌+◌, ◌≤◌, ◌<◌, refl, arith}
use Rattle.access.proofs.Rounds.{round_first, round_denied, round_granted, round_ended, round_last}
use Rattle.access.proofs.search_by.Goals as goal

pub loop-round-init : goal.loop-round-init
loop-round-init c = λ k m. round_first _ _ k _

pub returns-then-tried : goal.returns-then-tried
returns-then-tried c =
    let more : c.loop-round._round ≤ c.args.principals.now.principal_count = grind arith in
    λ k m. (
      refl,
      round_granted _ _ k _ more (c.loop-round.invariant k m) c.not_known_false-open.ensures (c.in-Some.ensures _ k 0 m)
          c.weigh-tried.result c.weigh-tried.ensures c.if-tried.true,
    )

pub loop-round-preserved : goal.loop-round-preserved
loop-round-preserved c =
    let more : c.loop-round._round ≤ c.args.principals.now.principal_count = grind arith in
    λ k m. round_ended _ _ k _ more (c.loop-round.invariant k m) c.not_known_false-open.ensures (c.in-Some.ensures _ k 0 m)
    c.weigh-tried.result c.weigh-tried.ensures c.if-tried.false

pub returns-in_default : goal.returns-in_default
returns-in_default c =
    let more : c.loop-round._round ≤ c.args.principals.now.principal_count = grind arith in
    λ k m. (refl, round_denied _ _ k _ more (c.loop-round.invariant k m) c.not_known_false-open.ensures (c.in_default.ensures _ k 0 m))

pub returns-else-tried : goal.returns-else-tried
returns-else-tried c =
    let more : c.loop-round._round ≤ c.args.principals.now.principal_count = grind arith in
    let last : c.args.principals.now.principal_count < c.loop-round._round + 1 = grind arith in
    λ k m. (
      refl,
      round_last _ _ k _ last (round_ended _ _ k _ more (c.loop-round.invariant k m) c.not_known_false-open.ensures
          (c.in-Some.ensures _ k 0 m) c.weigh-tried.result c.weigh-tried.ensures c.if-tried.false),
    )
