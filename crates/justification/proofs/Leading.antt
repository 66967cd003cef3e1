-- The columns of the closed relation are the sets of what leads to each thing along the pairs.
use Rattle.std.specs.Prelude.{ℕ, min, ◌<◌, ◌≤◌, ◌≡◌, ◌↔◌, Bool, true, false, List, [], get_or}
use Rattle.std.proofs.Common.{subst, arith}
use Rattle.common.specs.Limits.{most_related, most_pairs}
use Rattle.common.specs.Lists.{at}
use Rattle.closure.specs.Closure.{On, Listed, pairs_of, Closes, reaches}
use Rattle.closure.proofs.ClosureFact.{closed_reaches}
use Rattle.tables.specs.Loads.{pairs_load}
use Rattle.tables.specs.LoadsLaws.{pairs_named, pairs_relation}
use Rattle.justification.specs.MarkedSets.{Marks}

pub leading : (things n : ℕ) (a b : List ℕ) (m c : List (List Bool)) (sets : List ℕ) → pairs_load things n a b ≡ true → things ≤ most_related
    → ((i j : ℕ) → i < most_related → j < most_related → (On m i j ↔ Listed (pairs_of (min n most_pairs) a b) i j))
    → Closes (min things most_related) (On m) (On c)
    → ((j : ℕ) → j < things → Marks things (λ i. get_or (get_or c i []) j false) (at sets j))
    → (j : ℕ) → j < things → Marks things (λ i. reaches (pairs_of n a b) i j) (at sets j)
leading things n a b m c sets loads few rel closes marks j lj =
    record {
      only = λ p i.
          let (lp, e) = (marks j lj).only p i in
          (lp, (law p j lp lj).0 e);
      all = λ p lp e. (marks j lj).all p lp ((law p j lp lj).1 e);
    }
  where
    size : min things most_related ≡ things
    size = omega arith

    named : (i k : ℕ) → Listed (pairs_of n a b) i k → (i < things) × (k < things)
    named = pairs_named things n a b loads

    closed : Closes things (On m) (On c)
    closed = subst (λ (k : ℕ). Closes k (On m) (On c)) size closes

    law : (i k : ℕ) → i < things → k < things → (On c i k ↔ (reaches (pairs_of n a b) i k ≡ true))
    law = closed_reaches (pairs_of n a b) {R = On m} named (pairs_relation things n a b loads m few rel) closed
