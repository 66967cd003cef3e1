-- `search` meets its contract.
use Rattle.std.proofs.Common.{◌≡◌, ℕ, suc, ◌-◌, ◌<◌, refl, arith}
use Rattle.search.specs.Answers.GrantedOrDenied.{grants, denies}
use Rattle.search.specs.Steps.{NoCompletion}
use Rattle.search.proofs.AnswerLaws.{found_set, found_nothing}
use Rattle.search.proofs.Steps.{chosen_decided, too_few, too_many_roles, no_role_left, keep, neither, without, «with», room}
use Rattle.search.proofs.Steps.{step}
use Rattle.search.proofs.Prunes.{not_feasible, needed_below, no_join, need_more}
use Rattle.search.proofs.Masks.+search.Goals as goal
use Rattle.search.proofs.Masks.+search.Goals.{then-not-has+in_default, else-not-has, Joined-not-has}

pub returns-then-k-j : goal.returns-then-k-j
returns-then-k-j t c = denies refl (too_many_roles c.if-k-j.true)

pub returns-then-n-k : goal.returns-then-n-k
returns-then-n-k t c = denies refl (too_few c.if-n-k.true)

pub returns-then-k-eq0 : goal.returns-then-k-eq0
returns-then-k-eq0 t c =
    let e : c.args.j ≡ 0 = omega arith in
    rw (c.then_some.ensures, c.if-k-eq0.true, e) (chosen_decided _ c.candidate.ensures)

pub returns-then-not-feasible : goal.returns-then-not-feasible
returns-then-not-feasible t c =
    let limited = c.limit_with-limit.ensures in
    denies refl
    (not_feasible c.requires.state c.requires.needed_by limited.0 limited.1 (c.feasible.ensures c.if-not-feasible.true))

pub search-requires : goal.search-requires
search-requires t c =
    let pos : c.args.n ≡ suc (c.args.n - 1) = omega arith in
    (omega arith, rw c.passing.ensures (without pos c.requires.state, c.requires.needed_by))

pub returns-in-Some : goal.returns-in-Some
returns-in-Some t c =
    let pos : c.args.n ≡ suc (c.args.n - 1) = omega arith in
    grants _ refl (keep pos (found_set (rw (c.in-Some.is, c.passing.ensures) at c.search.ensures)))

-- the sets without m have been searched or skipped, and there is no candidate among them
skipped : {t : ℕ} (c : Joined-not-has t) → NoCompletion c.args.self.now (c.args.n - 1) c.args.k c.args.j c.args.choice.chosen
skipped {t} c =
    let pos : c.args.n ≡ suc (c.args.n - 1) = omega arith in
    elim c.if-not-has.branch [
      | then-not-has+in_default w ↦ found_nothing (rw (w.in_default.is, w.passing.ensures) at w.search.ensures)
      | else-not-has w ↦ needed_below c.requires.state pos c.requires.needed_by (c.has.ensures.yes w.if-not-has.false)
    ]

pub returns-then-not-joins : goal.returns-then-not-joins
returns-then-not-joins t c =
    let pos : c.args.n ≡ suc (c.args.n - 1) = omega arith in
    let none = no_join c.requires.state pos (c.joins.ensures.no c.if-not-joins.true) in
    denies refl (neither pos (skipped (goal.at.returns-then-not-joins t c).Joined-not-has) none)

pub returns-then-j-added : goal.returns-then-j-added
returns-then-j-added t c =
    let pos : c.args.n ≡ suc (c.args.n - 1) = omega arith in
    denies refl
    (neither pos (skipped (goal.at.returns-then-j-added t c).Joined-not-has) (no_role_left c.role_count_of-added.ensures c.if-j-added.true))

pub taking-requires-clause-fits : goal.taking-requires-clause-fits
taking-requires-clause-fits t c =
    let pos : c.args.n ≡ suc (c.args.n - 1) = omega arith in
    (room pos c.requires.state).1

pub search-requires-2 : goal.search-requires-2
search-requires-2 t c =
    let s = c.requires.state in
    let pos : c.args.n ≡ suc (c.args.n - 1) = omega arith in
    (omega arith, rw c.taking.ensures («with» pos s, need_more s pos c.requires.needed_by))

pub returns : goal.returns
returns t c =
    let pos : c.args.n ≡ suc (c.args.n - 1) = omega arith in
    let some : 0 < c.args.k = omega arith in
    step pos some c.role_count_of-added.ensures c.if-j-added.false (skipped (goal.at.returns t c).Joined-not-has)
    (rw c.taking.ensures at c.search-2.ensures)
