-- From what is chosen to the answer: eager is one least set of the enabled, lazy at most P + 1 searches.
use Rattle.std.specs.Prelude.{ℕ, ◌+◌, ◌<◌, ◌≡◌, ◌≢◌, refl, Bool, true, false, Option, Some, None, ok_or}
use Rattle.std.proofs.Common.{sym, ◌∙◌, ap, arith}
use Rattle.std.proofs.Math.Option as maybe
use Rattle.common.specs.Lists.{below}
use Rattle.common.specs.BoolLaws.{same_test}
use Rattle.common.specs.Sets.{member}
use Rattle.common.specs.SetLaws.{member_in, in_member}
use Rattle.common.specs.RefusalNumbers.{number, outcome_number}
use Rattle.common.specs.declared.Refusal.{Refusal}
use Rattle.common.specs.declared.Refusal.TheVariants.{NoSet, NotLoadable}
use Rattle.common.specs.Refusals.{not_loadable}
use borrow.Author.Tests.{ne_eqb}
use Rattle.policy.specs.declared.Record.{Record}
use Rattle.policy.specs.declared.Memo.{Memo}
use Rattle.policy.specs.Table.{with_memo}
use Rattle.policy.specs.Loadable.{loadable}
use Rattle.policy.specs.LoadableLaws.{loadable_table}
use Rattle.formula.specs.Requests.{Asked}
use Rattle.search.specs.Answers.{found_values}
use Rattle.justification.specs.Justification.{least}
use Rattle.justification.specs.declared.Question.{Question}
use Rattle.justification.specs.Masked.{least_values}
use Rattle.justification.specs.MarkedSets.{Marks}
use Rattle.justification.specs.Predicates.{question_refusal}
use Rattle.justification.proofs.Asking.{asked as may_be_asked}
use Rattle.memo.specs.Memo.{value, memo_for, newly}
use Rattle.memo.specs.Walk.{formula_of, outcome, evaluated_all, eagerly, searching}
use Rattle.memo.specs.WalkLaws.{MemoLengths, walk_searches}
use Rattle.memo.specs.StepLaws.{formulas_in_memo, least_ext}
use Rattle.access.specs.declared.Choice.{Choice}
use Rattle.access.specs.Answers.{Answer, set_granted}
use Rattle.access.specs.Access.{truth_at, answered, leaves, refused, asked, eager, lazy}
use Rattle.access.specs.Choices.{found, outcome_of}

-- where the question may be put, there is such a method
pub method_there : (r : Record) (q : Question) → question_refusal r q ≡ 0 → q.method < r.method_count
method_there r q e = (may_be_asked r q e).method

-- a set of marked principals, as a test
pub marks_member : {n s : ℕ} {t : ℕ → Bool} → Marks n t s → (p : ℕ) → p < n → member p s ≡ t p
marks_member {n} {s} {t} h p l = same_test (member p s) (t p) (λ e. (h.only p (member_in e)).1, λ e. in_member (h.all p l e))

-- the number and the set of an answer say what was found
pub least_found : (o : Option ℕ) (m : maybe.Option ℕ) → found_values o ≡ least_values m → found o ≡ m
unfolding least_values
least_found (Some c) (maybe.some d) e = ap (λ v. maybe.some v.set) e
least_found (Some c) maybe.none e = absurd (let z = ap (λ v. v.number) e in omega arith)
least_found None (maybe.some d) e = absurd (let z = ap (λ v. v.number) e in omega arith)
least_found None maybe.none e = refl

-- ---- evaluation for a request

-- a request that may be put is on rules that load
pub asked_loads : (r : Record) (q : Question) {a : Asked} → question_refusal r q ≡ 0
    → a ≡ record { rules = r; object = q.object; requestor = q.requestor } → loadable a.rules ≡ true
asked_loads r q may asks = rw asks (may_be_asked r q may).loads

-- ---- the answer, with the record as it is left

pub chosen_is : (r : Record) (c : Choice) {n : ℕ} → n ≡ newly c.before c.after
    → leaves r (record { number = outcome_number (ok_or c.set NoSet); set = set_granted (ok_or c.set NoSet); evaluations = n; memo = c.after })
    ≡ answered r c.before (outcome_of c)
unfolding answered
chosen_is r c {n} e = go c.set
  where
    go : (o : Option ℕ)
        → leaves r (record { number = outcome_number (ok_or o NoSet); set = set_granted (ok_or o NoSet); evaluations = n; memo = c.after })
        ≡ answered r c.before (outcome c.after (found o))
    go (Some x) = ap (λ (k : ℕ). record { number = 0; set = x; evaluations = k; rules = with_memo r c.after }) e
    go None = ap (λ (k : ℕ). record { number = number NoSet; set = 0; evaluations = k; rules = with_memo r c.after }) e

pub refused_is : (r : Record) (n : ℕ) (m : Memo) → m ≡ r.memo
    → leaves r (record { number = n; set = 0; evaluations = 0; memo = m }) ≡ refused n r
unfolding with_memo
refused_is r n m e = ap (λ (k : Memo). record { number = n; set = 0; evaluations = 0; rules = with_memo r k }) e

-- ---- what refuses the question

-- no refusal has the number 0
some_number : (why : Refusal) → number why ≢ 0
some_number why e = grind arith

refused_asked : (r : Record) (why : Refusal) {n : ℕ} → number why ≡ n → (a : Answer) → refused (number why) r ≡ asked r n a
refused_asked r why {n} e a =
    ap (λ (k : ℕ). refused k r) e ∙ sym (rw (ne_eqb n 0 (λ z. some_number why (e ∙ z))) refl)

module _ (r : Record) (q : Question) where
  pub eager_refused : (why : Refusal) → number why ≡ question_refusal r q → refused (number why) r ≡ eager r q
  unfolding eager
  eager_refused why e = refused_asked r why e _

  pub lazy_refused : (why : Refusal) → number why ≡ question_refusal r q → refused (number why) r ≡ lazy r q
  unfolding lazy
  lazy_refused why e = refused_asked r why e _

  pub not_loadable_is : loadable r ≡ false → number NotLoadable ≡ question_refusal r q
  unfolding question_refusal
  not_loadable_is e = rw e refl

  pub eager_unloadable : loadable r ≡ false → refused not_loadable r ≡ eager r q
  eager_unloadable e = eager_refused NotLoadable (not_loadable_is e)

  pub lazy_unloadable : loadable r ≡ false → refused not_loadable r ≡ lazy r q
  lazy_unloadable e = lazy_refused NotLoadable (not_loadable_is e)

  -- ---- the two forms

  module _ (may : question_refusal r q ≡ 0) {before : Memo} (first : before ≡ memo_for r.memo q) where
    -- all evaluated, then the least set of those with the value true
    pub eager_answer : {after : Memo} {enabled : ℕ} {chosen : maybe.Option ℕ}
        → after ≡ evaluated_all (truth_at r q) r before (below r.principal_count)
        → Marks r.principal_count (λ p. value after (formula_of r p)) enabled → chosen ≡ least r q.method (λ p. member p enabled)
        → answered r before (outcome after chosen) ≡ eager r q
    unfolding eager eagerly
    eager_answer {after} {enabled} {chosen} e marks f =
        let is : chosen ≡ least r q.method (λ p. value after (formula_of r p)) = f ∙ least_ext r q.method (λ p. member p enabled)
        (λ p. value after (formula_of r p)) (marks_member marks) in
        rw (may, is, e, first) refl

    -- the outcome of at most P + 1 searches
    pub lazy_answer : MemoLengths before → answered r before (searching (r.principal_count + 1) (truth_at r q) r q.method before) ≡ lazy r q
    unfolding lazy
    lazy_answer lengths =
        let tables = loadable_table r (may_be_asked r q may).loads in
        rw (sym (walk_searches (truth_at r q) r q.method before (formulas_in_memo r tables) lengths), may, first) refl
