-- `check_constraints` meets its contract: what the masks say of a set is what the record says.
use Rattle.std.proofs.Common.{ℕ, ◌^◌, ◌<◌, subst}
use Rattle.policy.specs.declared.Record.{Record}
use Rattle.search.specs.declared.Masks.{Masks}
use Rattle.justification.specs.Masked.{Masked}
use Rattle.justification.proofs.MaskLaws.{consistent_is, met_meets}
use Rattle.tickets.proofs.Checking.{not_consistent_lem, guard_not_met_lem, will_do, decided_yes, decided_no}
use Rattle.tickets.proofs.check_constraints.Goals as goal

-- the set is of the record's principals
inside : {r : Record} {m a : ℕ} {s : Masks} → Masked r m a s → (c : ℕ) → c < 2 ^ s.count → c < 2 ^ r.principal_count
inside k c l = subst (λ (n : ℕ). c < 2 ^ n) k.count l

pub returns-then-not-consistent : goal.returns-then-not-consistent
returns-then-not-consistent c = λ r m a k.
    not_consistent_lem r m c.args.set
    (decided_no _ c.consistent.ensures (consistent_is r m a _ k _ (inside k c.args.set c.requires)) c.if-not-consistent.true)

pub returns-then-not-met : goal.returns-then-not-met
returns-then-not-met c = λ r m a k.
    let l = inside k c.args.set c.requires in
    guard_not_met_lem r m c.args.set (decided_yes c.consistent.ensures (consistent_is r m a _ k _ l) c.if-not-consistent.false)
    (decided_no _ c.met.ensures (met_meets r m a _ k _ l) c.if-not-met.true)

pub returns : goal.returns
returns c = λ r m a k.
    let l = inside k c.args.set c.requires in
    will_do r m c.args.set (decided_yes c.consistent.ensures (consistent_is r m a _ k _ l) c.if-not-consistent.false)
    (decided_yes c.met.ensures (met_meets r m a _ k _ l) c.if-not-met.false)
