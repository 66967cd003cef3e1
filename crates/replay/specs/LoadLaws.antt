-- Whether some bundle loads to a record is not changed by a call: one test does for a whole list.
use Rattle.std.specs.Prelude.{ℕ, ◌≡◌, refl, List, [], ◌∷◌}
use Rattle.std.proofs.Common.{sym, ◌∙◌}
use borrow.Author.Tests.{eq-eqb, ne_eqb}
use native.Mathlib.Decide.{ℕ_discrete}
use Rattle.common.specs.Lists.{below}
use Rattle.policy.specs.declared.Record.{Record}
use Rattle.policy.specs.declared.Memo.{Memo}
use Rattle.policy.specs.Table.{edge, rows}
use Rattle.policy.specs.Loadable.{loadable}
use Rattle.policy.specs.Edits.{inserted, without, memo_left, edited, add_refusal, remove_refusal, added, removed}
use Rattle.policy.specs.EditLaws.{adds, added_loadable, removes, removed_loadable}
use Rattle.policy.specs.MemoLaws.{memo_aside}
use Rattle.justification.specs.Justification.{candidates}
use Rattle.justification.specs.Predicates.{question_refusal}
use Rattle.memo.specs.Walk.{Outcome, granted, denied, evaluated_all, eagerly, walk}
use Rattle.memo.specs.Memo.{memo_for}
use Rattle.access.specs.Access.{truth_at, answered, asked, eager, lazy}
use Rattle.history.specs.Book.{add, remove, ask_eagerly, ask_lazily, check_ticket}
use Rattle.replay.specs.Replay.{ListedCall, call, liberally, strictly, unknown, answer_to}

-- an edit, by its number
edit_loads : (r : Record) (n : ℕ) (es : List (List ℕ)) (m : Memo)
    → ((edited r n es m).number ≡ 0 → loadable (edited r n es m).rules ≡ loadable r) → loadable (edited r n es m).rules ≡ loadable r
edit_loads r n es m accepted = elim (ℕ_discrete n 0) [ yes z ↦ accepted (rw (eq-eqb n 0 z) refl) | no z ↦ rw (ne_eqb n 0 z) refl ]

add_loads : (r : Record) (l x y : ℕ) → loadable (added r l x y).rules ≡ loadable r
unfolding added
add_loads r l x y =
    edit_loads r (add_refusal r l x y) (inserted (l ∷ x ∷ y ∷ []) (rows edge r)) (memo_left r l)
    (λ ok. added_loadable r l x y ok ∙ sym (adds r l x y ok).loads)

remove_loads : (r : Record) (l x y : ℕ) → loadable (removed r l x y).rules ≡ loadable r
unfolding removed
remove_loads r l x y =
    edit_loads r (remove_refusal r l x y) (without (l ∷ x ∷ y ∷ []) (rows edge r)) (memo_left r l)
    (λ ok. removed_loadable r l x y ok ∙ sym (removes r l x y ok).loads)

-- a question
answered_loads : (r : Record) (before : Memo) (x : Outcome) → loadable (answered r before x).rules ≡ loadable r
unfolding answered
answered_loads r before (granted c after) = memo_aside r after
answered_loads r before (denied after) = memo_aside r after

asked_loads : (r : Record) (n : ℕ) (before : Memo) (x : Outcome) → loadable (asked r n (answered r before x)).rules ≡ loadable r
asked_loads r n before x =
    elim (ℕ_discrete n 0) [ yes z ↦ rw (eq-eqb n 0 z) (answered_loads r before x) | no z ↦ rw (ne_eqb n 0 z) refl ]

pub answer_loads : (r : Record) (x : ListedCall) → loadable (answer_to r x).rules ≡ loadable r
unfolding answer_to eager lazy
answer_loads r (call (add l x y)) = add_loads r l x y
answer_loads r (call (remove l x y)) = remove_loads r l x y
answer_loads r (call (ask_eagerly q)) =
    asked_loads r (question_refusal r q) (memo_for r.memo q)
    (eagerly r q.method (evaluated_all (truth_at r q) r (memo_for r.memo q) (below r.principal_count)))
answer_loads r (call (ask_lazily q)) =
    asked_loads r (question_refusal r q) (memo_for r.memo q) (walk (truth_at r q) r (memo_for r.memo q) (candidates r q.method))
answer_loads r (call (check_ticket t)) = refl
answer_loads r (liberally q) = refl
answer_loads r (strictly q) = refl
answer_loads r unknown = refl
