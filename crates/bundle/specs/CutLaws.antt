-- Columns of which the first n numbers have been read: the rest is zero still.
use Rattle.std.specs.Prelude.{ℕ, zero, suc, ◌+◌, ◌<◌, ◌≡◌, refl, true, List, [], ◌∷◌, map, length, set, replicate, eqb}
use Rattle.std.proofs.Common.{sym, ◌∙◌, ap, arith, eqb-true}
use Rattle.common.specs.Lists.{at, every}
use Rattle.common.specs.BoolLaws.{and_cases}
use Rattle.policy.specs.Loadable.{zero_from}
use Rattle.policy.specs.TableLaws.{Long, written}

-- the first n numbers, and zeros at the places past them
abbrev pub cut : ℕ → List ℕ → List ℕ
cut n [] = []
cut zero (x ∷ c) = 0 ∷ cut zero c
cut (suc n) (x ∷ c) = x ∷ cut n c

-- ---- one column

cut_none : (c : List ℕ) → cut 0 c ≡ replicate (length c) 0
cut_none [] = refl
cut_none (x ∷ c) = ap (λ (d : List ℕ). 0 ∷ d) (cut_none c)

cut_more : (n : ℕ) (c : List ℕ) → n < length c → set (cut n c) n (at c n) ≡ cut (suc n) c
cut_more n [] l = absurd (omega arith)
cut_more zero (x ∷ c) l = refl
cut_more (suc n) (x ∷ c) l = ap (λ (d : List ℕ). x ∷ d) (cut_more n c (omega arith))

cut_at : (n i : ℕ) (c : List ℕ) → i < n → at (cut n c) i ≡ at c i
cut_at n i [] l = refl
cut_at zero i (x ∷ c) l = absurd (omega arith)
cut_at (suc n) zero (x ∷ c) l = refl
cut_at (suc n) (suc i) (x ∷ c) l = cut_at n i c (omega arith)

cut_all : (n : ℕ) (c : List ℕ) → zero_from n c ≡ true → cut n c ≡ c
cut_all n [] e = refl
cut_all zero (x ∷ c) e = let p = and_cases (eqb x 0) _ e in λ j. sym (eqb-true x 0 p.0) j ∷ cut_all zero c p.1 j
cut_all (suc n) (x ∷ c) e = ap (λ (d : List ℕ). x ∷ d) (cut_all n c e)

-- ---- the columns of a table

pub columns_none : (m : ℕ) (cs : List (List ℕ)) → Long m cs → map (λ c. replicate m 0) cs ≡ map (cut 0) cs
columns_none m [] s = refl
columns_none m (c ∷ cs) s = λ j. sym (cut_none c ∙ ap (λ (n : ℕ). replicate n 0) s.0) j ∷ columns_none m cs s.1 j

-- v holds, from the place i on, the number at n of each column
pub columns_more : (n m : ℕ) → n < m → (cs : List (List ℕ)) → Long m cs → (v : List ℕ) (i : ℕ)
    → ((j : ℕ) → at v (i + j) ≡ at (map (λ c. at c n) cs) j)
    → written (map (cut n) cs) n v i ≡ map (cut (suc n)) cs
columns_more n m l [] s v i e = refl
columns_more n m l (c ∷ cs) s v i e =
    let here : at v i ≡ at c n = ap (at v) (omega arith) ∙ e 0 in
    let rest = columns_more n m l cs s.1 v (suc i) (λ j. ap (at v) (let p : suc i + j ≡ i + suc j = omega arith in p) ∙ e (suc j)) in
    let this : set (cut n c) n (at v i) ≡ cut (suc n) c = ap (set (cut n c) n) here ∙ cut_more n c (let q = s.0 in omega arith) in
    λ j. this j ∷ rest j

pub columns_at : (n i : ℕ) → i < n → (cs : List (List ℕ)) → map (λ c. at c i) (map (cut n) cs) ≡ map (λ c. at c i) cs
columns_at n i l [] = refl
columns_at n i l (c ∷ cs) = λ j. cut_at n i c l j ∷ columns_at n i l cs j

pub columns_all : (n : ℕ) (cs : List (List ℕ)) → every (zero_from n) cs ≡ true → map (cut n) cs ≡ cs
columns_all n [] e = refl
columns_all n (c ∷ cs) e = let p = and_cases (zero_from n c) _ e in λ j. cut_all n c p.0 j ∷ columns_all n cs p.1 j
