-- What it says where a question may be put, and the verdicts.
use Rattle.std.specs.Prelude.{ℕ, zero, suc, ◌<◌, ◌≤◌, ◌≡◌, ◌≢◌, refl, Bool, true, false, ◌&&◌, ◌||◌, List, [], ◌∷◌, length, take, leb, eqb}
use Rattle.std.proofs.Common.{sym, ◌∙◌, ap, add-one, arith}
use Rattle.std.specs.List.{list_any}
use Rattle.std.proofs.lemmas.List.Folds.{list_any_more}
use borrow.Author.Tests.{leb-false, ne_eqb}
use Rattle.common.specs.Lists.{at, any, table}
use Rattle.common.specs.ListLaws.{any_more}
use Rattle.common.specs.Refusals.{no_method, not_loadable}
use Rattle.policy.specs.declared.Record.{Record}
use Rattle.policy.specs.Loadable.{loadable}
use Rattle.formula.specs.Formula.{is_user}
use Rattle.justification.specs.declared.Question.{Question}
use Rattle.justification.specs.Predicates.{question_refusal, enabled, liberal, strict}
use Rattle.justification.specs.Justification.{meets}

-- whether the column of the users' objects has s: whether s is a user's
user_among : (objects roles : List ℕ) (s n : ℕ) → n ≤ length objects
    → list_any (λ x. eqb x s) (take n objects) ≡ any (λ u. eqb (at u 0) s) (table n (λ i. at objects i ∷ at roles i ∷ []))
user_among objects roles s zero l = refl
user_among objects roles s (suc n) l =
    let more = list_any_more (λ x. eqb x s) objects n 0 (omega arith) in
    rw add-one at more
    ∙ ap (λ (b : Bool). b || eqb (at objects n) s) (user_among objects roles s n (omega arith))
    ∙ sym (any_more (λ u. eqb (at u 0) s) n (λ i. at objects i ∷ at roles i ∷ []))

pub user_in : (r : Record) (s : ℕ) → r.user_count ≤ length r.user_objects
    → list_any (λ x. eqb x s) (take r.user_count r.user_objects) ≡ is_user r s
user_in r s l = user_among r.user_objects r.user_roles s r.user_count l

module _ (r : Record) (q : Question) where
  -- ---- where the question may be put

  pub record Asked : Type 0 where
    pub loads : loadable r ≡ true
    pub method : q.method < r.method_count

  pub asked : question_refusal r q ≡ 0 → Asked
  unfolding question_refusal
  asked z = go (loadable r) refl (leb r.method_count q.method) refl z
    where
      go : (a : Bool) → loadable r ≡ a → (b : Bool) → leb r.method_count q.method ≡ b → question_refusal r q ≡ 0 → Asked
      go true ea true eb z = let x : no_method ≡ 0 = sym (rw (ea, eb) refl) ∙ z in absurd (omega arith)
      go true ea false eb z = record { loads = ea; method = omega (arith, leb-false r.method_count q.method eb) }
      go false ea b eb z = let x : not_loadable ≡ 0 = sym (rw ea refl) ∙ z in absurd (omega arith)

  -- ---- the verdicts

  pub liberal_refused : {n : ℕ} → n ≡ question_refusal r q → n ≢ 0 → record { number = n; yes = false } ≡ liberal r q
  unfolding liberal
  liberal_refused {n} e h = λ i. record { number = e i; yes = refused i }
    where
      refused : false ≡ (eqb (question_refusal r q) 0 && meets r q.method (enabled r q))
      refused = rw (ne_eqb (question_refusal r q) 0 (λ z. h (e ∙ z))) refl

  pub liberal_is : 0 ≡ question_refusal r q → (b : Bool) → b ≡ meets r q.method (enabled r q)
      → record { number = 0; yes = b } ≡ liberal r q
  unfolding liberal
  liberal_is e b h = λ i. record { number = e i; yes = eqb (e i) 0 && h i }

  pub strict_refused : {n : ℕ} → n ≡ question_refusal r q → n ≢ 0 → record { number = n; yes = false } ≡ strict r q
  unfolding strict
  strict_refused {n} e h = λ i. record { number = e i; yes = refused i }
    where
      refused : false ≡ (eqb (question_refusal r q) 0 && any (λ p. meets r q.method (p ∷ [])) (enabled r q))
      refused = rw (ne_eqb (question_refusal r q) 0 (λ z. h (e ∙ z))) refl

  pub strict_is : 0 ≡ question_refusal r q → (b : Bool) → b ≡ any (λ p. meets r q.method (p ∷ [])) (enabled r q)
      → record { number = 0; yes = b } ≡ strict r q
  unfolding strict
  strict_is e b h = λ i. record { number = e i; yes = eqb (e i) 0 && h i }
