-- Both questions answer with the least set of the principals enabled in the record's own graph, and leave a memo that tells the truth.
use Rattle.std.specs.Prelude.{ℕ, zero, suc, ◌<◌, ◌≡◌, refl, Bool, true, false, cond, ◌&&◌, length, replicate, get_or, eqb}
use Rattle.std.proofs.Common.{sym, ◌∙◌, subst, arith, eqb-true, lt-ltb}
use Rattle.std.proofs.Math.Path.{ap}
use Rattle.std.proofs.lemmas.Bool.{false≢true}
use Rattle.common.specs.Limits.{most_formulas}
use Rattle.common.specs.Lists.{below}
use Rattle.common.specs.BoolLaws.{and_cases}
use Rattle.policy.specs.declared.Record.{Record}
use Rattle.policy.specs.declared.Memo.{Memo}
use Rattle.policy.specs.Table.{Kind, emptied}
use Rattle.policy.specs.Loadable.{table_loads}
use Rattle.formula.specs.Formula.{holds}
use Rattle.justification.specs.Justification.{candidates, least}
use Rattle.justification.specs.declared.Question.{Question}
use Rattle.justification.specs.Predicates.{question_refusal, is_enabled}
use Rattle.memo.specs.Memo.{known, value, memo_for}
use Rattle.memo.specs.Walk.{formula_of, Outcome, granted, denied, chosen, left, evaluated_all, eagerly, walk}
use Rattle.memo.specs.EvaluatedLaws.{view, known_view, unknown_view, in_place, Reached, reached_same}
use Rattle.memo.specs.WalkLaws.{MemoLengths, chosen_outcome, left_eagerly, eager_reached, eager_value, walk_reached, agree}
use Rattle.memo.specs.StepLaws.{formulas_in_memo, lengths_for, least_ext}
use Rattle.access.specs.Answers.{Answer}
use Rattle.access.specs.Access.{truth_at, answered, asked, eager, lazy}
use Rattle.access.specs.CorrectMemo.{CorrectMemo, number_of, set_of, LeastAnswer}

-- ---- the memo for a question

unknown : (n f : ℕ) → get_or (replicate n false) f false ≡ false
unknown zero f = refl
unknown (suc n) zero = refl
unknown (suc n) (suc f) = unknown n f

-- an emptied memo knows nothing
pub emptied_correct : (r : Record) (o s : ℕ) → CorrectMemo r (emptied o s)
unfolding emptied
emptied_correct r o s = record { values = λ f k. absurd (false≢true (sym (unknown most_formulas f) ∙ k)) }

pub correct_for : (r : Record) (m : Memo) (q : Question) → CorrectMemo r m → CorrectMemo r (memo_for m q)
unfolding memo_for
correct_for r m q h = go (eqb m.object q.object && eqb m.requestor q.requestor)
  where
    go : (b : Bool) → CorrectMemo r (cond b m (emptied q.object q.requestor))
    go true = h
    go false = emptied_correct r q.object q.requestor

object_for : (m : Memo) (q : Question) → (memo_for m q).object ≡ q.object
unfolding memo_for emptied
object_for m q =
    go (eqb m.object q.object && eqb m.requestor q.requestor)
    (λ e. eqb-true m.object q.object (and_cases (eqb m.object q.object) (eqb m.requestor q.requestor) e).0)
  where
    go : (b : Bool) → (b ≡ true → m.object ≡ q.object) → (cond b m (emptied q.object q.requestor)).object ≡ q.object
    go true h = h refl
    go false h = refl

requestor_for : (m : Memo) (q : Question) → (memo_for m q).requestor ≡ q.requestor
unfolding memo_for emptied
requestor_for m q =
    go (eqb m.object q.object && eqb m.requestor q.requestor)
    (λ e. eqb-true m.requestor q.requestor (and_cases (eqb m.object q.object) (eqb m.requestor q.requestor) e).1)
  where
    go : (b : Bool) → (b ≡ true → m.requestor ≡ q.requestor) → (cond b m (emptied q.object q.requestor)).requestor ≡ q.requestor
    go true h = h refl
    go false h = refl

module _ (r : Record) (q : Question) where
  -- a memo of the question's pair that tells the truth
  record Kept (m : Memo) : Type 0 where
    object : m.object ≡ q.object
    requestor : m.requestor ≡ q.requestor
    lengths : MemoLengths m
    values : (f : ℕ) → known m f ≡ true → value m f ≡ truth_at r q f

  kept_correct : {m : Memo} → Kept m → CorrectMemo r m
  kept_correct h = record { values = λ f k. h.values f k ∙ sym (λ i. holds r f (h.object i) (h.object i) (h.requestor i)) }

  kept_for : MemoLengths r.memo → CorrectMemo r r.memo → Kept (memo_for r.memo q)
  kept_for room true-memo =
      record {
        object = object_for r.memo q;
        requestor = requestor_for r.memo q;
        lengths = lengths_for r.memo q room;
        values = λ f k.
            (correct_for r r.memo q true-memo).values f k
            ∙ (λ i. holds r f (object_for r.memo q i) (object_for r.memo q i) (requestor_for r.memo q i));
      }

  -- ---- evaluations keep it

  -- it takes every formula with a place to be what it is
  view_true : {m : Memo} → Kept m → (f : ℕ) → f < most_formulas → view (truth_at r q) m f ≡ truth_at r q f
  view_true {m} h f l = go (known m f) refl
    where
      go : (b : Bool) → known m f ≡ b → view (truth_at r q) m f ≡ truth_at r q f
      go true e = sym (known_view (truth_at r q) m f e) ∙ h.values f e
      go false e =
          unknown_view (truth_at r q) m f e
          ∙ rw (lt-ltb f (length m.value) (let a = h.lengths.values in omega arith)) refl

  reached_kept : {m n : Memo} → Reached (truth_at r q) r n m → Kept m → Kept n
  reached_kept {m} {n} a h =
      let s = reached_same (truth_at r q) r a in
      record {
        object = s.object ∙ h.object;
        requestor = s.requestor ∙ h.requestor;
        lengths = record { knowns = s.knowns ∙ h.lengths.knowns; values = s.values ∙ h.lengths.values };
        values = λ f k.
            known_view (truth_at r q) n f k
            ∙ s.views f
            ∙ view_true h f (omega (arith, in_place n.known f k, s.knowns, h.lengths.knowns));
      }

  -- ---- the answers

  -- the least set of the enabled, with a memo that is kept
  answers_least : (before : Memo) (a : Outcome) → chosen a ≡ least r q.method (is_enabled r q) → Kept (left a)
      → LeastAnswer r q (answered r before a)
  unfolding answered
  answers_least before (granted c n) e k =
      record { number = ap number_of e; set = ap set_of e; memo = n; left = refl; lengths = k.lengths; correct = kept_correct k }
  answers_least before (denied n) e k =
      record { number = ap number_of e; set = ap set_of e; memo = n; left = refl; lengths = k.lengths; correct = kept_correct k }

  not_refused : {n : ℕ} → n ≡ 0 → (a : Answer) → LeastAnswer r q a → LeastAnswer r q (asked r n a)
  not_refused e a j = subst (λ (n : ℕ). LeastAnswer r q (asked r n a)) (sym e) j

  module _ (loads : (j : Kind) → table_loads r j ≡ true) (room : MemoLengths r.memo) (true-memo : CorrectMemo r r.memo) where
    abbrev before : Memo
    before = memo_for r.memo q

    abbrev after : Memo
    after = evaluated_all (truth_at r q) r before (below r.principal_count)

    kept_before : Kept before
    kept_before = kept_for room true-memo

    chosen_eager : chosen (eagerly r q.method after) ≡ least r q.method (is_enabled r q)
    unfolding eagerly is_enabled
    chosen_eager =
        chosen_outcome after (least r q.method (λ p. value after (formula_of r p)))
        ∙ least_ext r q.method (λ p. value after (formula_of r p)) (is_enabled r q)
        (λ p l. eager_value (truth_at r q) r before p l ∙ view_true kept_before (formula_of r p) (formulas_in_memo r loads p l))

    answers_least_eager : LeastAnswer r q (answered r before (eagerly r q.method after))
    answers_least_eager =
        answers_least before (eagerly r q.method after) chosen_eager
        (subst Kept (sym (left_eagerly r q.method after)) (reached_kept (eager_reached (truth_at r q) r before) kept_before))

    answers_least_lazy : LeastAnswer r q (answered r before (walk (truth_at r q) r before (candidates r q.method)))
    answers_least_lazy =
        answers_least before (walk (truth_at r q) r before (candidates r q.method))
        (sym (agree (truth_at r q) r q.method before) ∙ chosen_eager)
        (reached_kept (walk_reached (truth_at r q) r (candidates r q.method) before) kept_before)

module _ (r : Record) (loads : (j : Kind) → table_loads r j ≡ true) (room : MemoLengths r.memo) (true-memo : CorrectMemo r r.memo)
    (q : Question) (taken : question_refusal r q ≡ 0) where
  pub eager_true : LeastAnswer r q (eager r q)
  unfolding eager
  eager_true = not_refused r q taken _ (answers_least_eager r q loads room true-memo)

  pub lazy_true : LeastAnswer r q (lazy r q)
  unfolding lazy
  lazy_true = not_refused r q taken _ (answers_least_lazy r q loads room true-memo)
