-- The number and values of an answer say which answer it is: of edits, questions and predicates.
use Prim.{Unit}
use Rattle.std.specs.Prelude.{◌≡◌, ◌≢◌, ℕ, Bool, Result, Ok, Err}
use Rattle.std.proofs.Common.{sym, ap, refl, arith}
use Rattle.common.specs.RefusalNumbers.{number, outcome_number}
use Rattle.common.specs.RefusalLaws.{same_refusal}
use Rattle.common.specs.declared.Refusal.{Refusal}
use Rattle.policy.specs.EditAnswers.{Edited, edited_values}
use Rattle.policy.specs.declared.Edited as edits
use Rattle.justification.specs.Verdicts.{Verdict, verdict_values}
use Rattle.access.specs.Answers.{Answer, Decision, set_granted, answer_values, decision_values}
use Rattle.access.specs.declared.Answer as answers
use Rattle.access.specs.declared.Decision as decisions

-- no refusal has the number 0
some_number : (why : Refusal) → number why ≢ 0
some_number why e = grind arith

-- what was granted, or refused
same_granted : (a b : Result ℕ Refusal) → outcome_number a ≡ outcome_number b → set_granted a ≡ set_granted b → a ≡ b
same_granted (Ok s) (Ok t) n e = ap Ok e
same_granted (Ok s) (Err r) n e = absurd (some_number r (sym n))
same_granted (Err r) (Ok s) n e = absurd (some_number r n)
same_granted (Err q) (Err r) n e = ap Err (same_refusal n)

pub same_edited : (a b : edits.Edited) → edited_values a ≡ edited_values b → a ≡ b
same_edited a b e = λ j. record { outcome = go a.outcome b.outcome (ap (λ (v : Edited). v.number) e) j; rules = ap (λ (v : Edited). v.rules) e j }
  where
    go : (x y : Result Unit Refusal) → outcome_number x ≡ outcome_number y → x ≡ y
    go (Ok s) (Ok t) n = refl
    go (Ok s) (Err r) n = absurd (some_number r (sym n))
    go (Err r) (Ok s) n = absurd (some_number r n)
    go (Err q) (Err r) n = ap Err (same_refusal n)

pub same_answer : (a b : answers.Answer) → answer_values a ≡ answer_values b → a ≡ b
same_answer a b e =
    λ j. record {
      outcome = same_granted a.outcome b.outcome (ap (λ (v : Answer). v.number) e) (ap (λ (v : Answer). v.set) e) j;
      evaluations = ap (λ (v : Answer). v.evaluations) e j;
      rules = ap (λ (v : Answer). v.rules) e j;
    }

pub same_decision : (a b : decisions.Decision) → decision_values a ≡ decision_values b → a ≡ b
same_decision a b e =
    λ j. record {
      outcome = same_granted a.outcome b.outcome (ap (λ (v : Decision). v.number) e) (ap (λ (v : Decision). v.set) e) j;
      evaluations = ap (λ (v : Decision). v.evaluations) e j;
      memo = ap (λ (v : Decision). v.memo) e j;
    }

pub same_verdict : (a b : Result Bool Refusal) → verdict_values a ≡ verdict_values b → a ≡ b
same_verdict (Ok s) (Ok t) e = ap (λ (v : Verdict). Ok v.yes) e
same_verdict (Ok s) (Err r) e = absurd (some_number r (sym (ap (λ (v : Verdict). v.number) e)))
same_verdict (Err r) (Ok s) e = absurd (some_number r (ap (λ (v : Verdict). v.number) e))
same_verdict (Err q) (Err r) e = ap Err (same_refusal (ap (λ (v : Verdict). v.number) e))
