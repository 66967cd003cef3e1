-- Laws of lists: by places, quantifiers over a table row by row, the elements that pass.
use Rattle.std.specs.Prelude.{ℕ, zero, suc, ◌+◌, ◌≤◌, ◌<◌, ◌≡◌, refl, Bool, true, false, cond, ◌&&◌, ◌||◌, List, [], ◌∷◌, ◌++◌, map, length, get_or, take, drop, replicate, eqb}
use Rattle.std.proofs.Common.{sym, ◌∙◌, ap, arith, add-one, length-append, eq-eqb, eqb-true, take-suc, drop-cons}
use Rattle.std.proofs.lemmas.Bool.{false≢true}
use Rattle.std.proofs.lemmas.List.{map-append}
use Rattle.common.specs.Lists.{at, any, every, those, table, below, same}
use Rattle.common.specs.BoolLaws.{and_true, and_cases, and_both}

-- what is left at a place: the number there, and what is left at the next
pub drop_one : (s : List ℕ) (i : ℕ) → i < length s → drop i s ≡ at s i ∷ drop (i + 1) s
drop_one s i l = rw (add-one, drop-cons s i 0)

pub drop_two : (s : List ℕ) (i : ℕ) → i + 1 < length s → drop i s ≡ at s i ∷ at s (i + 1) ∷ drop (i + 2) s
drop_two s i l =
    let e : i + 1 + 1 ≡ i + 2 = omega arith in
    drop_one s i (omega arith) ∙ ap (λ (t : List ℕ). at s i ∷ t) (drop_one s (i + 1) l ∙ ap (λ (k : ℕ). at s (i + 1) ∷ drop k s) e)

-- the numbers of a list that zeros follow
pub zeros_at : (l m : List ℕ) → ((j : ℕ) → at m j ≡ 0) → (k : ℕ) → at (l ++ m) k ≡ at l k
zeros_at [] m h k = h k
zeros_at (x ∷ l) m h zero = refl
zeros_at (x ∷ l) m h (suc k) = zeros_at l m h k

module _ {A : Type 0} (p : A → Bool) where
  pub any_append : (l m : List A) → any p (l ++ m) ≡ (any p l || any p m)
  any_append [] m = refl
  any_append (x ∷ l) m = go (p x) (any_append l m)
    where
      go : (b : Bool) → any p (l ++ m) ≡ (any p l || any p m) → (b || any p (l ++ m)) ≡ ((b || any p l) || any p m)
      go true e = refl
      go false e = e

  pub every_append : (l m : List A) → every p (l ++ m) ≡ (every p l && every p m)
  every_append [] m = refl
  every_append (x ∷ l) m = go (p x) (every_append l m)
    where
      go : (b : Bool) → every p (l ++ m) ≡ (every p l && every p m) → (b && every p (l ++ m)) ≡ ((b && every p l) && every p m)
      go true e = e
      go false e = refl

  pub every_at : (l : List A) (i : ℕ) (d : A) → every p l ≡ true → i < length l → p (get_or l i d) ≡ true
  every_at [] i d e h = let z : ⊥ = omega arith in absurd z
  every_at (x ∷ l) zero d e h = (and_cases (p x) _ e).0
  every_at (x ∷ l) (suc i) d e h = every_at l i d (and_cases (p x) _ e).1 (omega arith)

  pub every_all : (l : List A) → ((x : A) → p x ≡ true) → every p l ≡ true
  every_all [] h = refl
  every_all (x ∷ l) h = and_both (p x) _ (h x) (every_all l h)

  -- one row more, as a loop goes
  pub any_more : (n : ℕ) (f : ℕ → A) → any p (table (suc n) f) ≡ (any p (table n f) || p (f n))
  any_more n f = any_append (table n f) (f n ∷ []) ∙ ap (λ (b : Bool). any p (table n f) || b) (go (p (f n)))
    where
      go : (b : Bool) → (b || false) ≡ b
      go true = refl
      go false = refl

  pub every_more : (n : ℕ) (f : ℕ → A) → every p (table (suc n) f) ≡ (every p (table n f) && p (f n))
  every_more n f = every_append (table n f) (f n ∷ []) ∙ ap (λ (b : Bool). every p (table n f) && b) (and_true (p (f n)))

-- a table from its first row on
pub table_cons : {A : Type 0} (n : ℕ) (f : ℕ → A) → table (suc n) f ≡ f 0 ∷ table n (λ i. f (suc i))
table_cons zero f = refl
table_cons {A} (suc n) f = ap (λ (l : List A). l ++ (f (suc n) ∷ [])) (table_cons n f)

pub length_table : {A : Type 0} (n : ℕ) (f : ℕ → A) → length (table n f) ≡ n
length_table zero f = refl
length_table (suc n) f = ap length (table_cons n f) ∙ ap suc (length_table n (λ i. f (suc i)))

pub table_at : {A : Type 0} (n : ℕ) (f : ℕ → A) (i : ℕ) (d : A) → i < n → get_or (table n f) i d ≡ f i
table_at zero f i d h = let z : ⊥ = omega arith in absurd z
table_at {A} (suc n) f zero d h = ap (λ (l : List A). get_or l 0 d) (table_cons n f)
table_at {A} (suc n) f (suc i) d h = ap (λ (l : List A). get_or l (suc i) d) (table_cons n f) ∙ table_at n (λ i. f (suc i)) i d (omega arith)

-- tables of the same rows
pub table_same : {A : Type 0} (n : ℕ) (f g : ℕ → A) → ((i : ℕ) → i < n → f i ≡ g i) → table n f ≡ table n g
table_same zero f g h = refl
table_same (suc n) f g h = λ t. table_same n f g (λ i l. h i (omega arith)) t ++ (h n (omega arith) t ∷ [])

pub map_table : {A B : Type 0} (g : A → B) (n : ℕ) (f : ℕ → A) → map g (table n f) ≡ table n (λ i. g (f i))
map_table g zero f = refl
map_table {B = B} g (suc n) f = map-append g (table n f) (f n ∷ []) ∙ ap (λ (l : List B). l ++ (g (f n) ∷ [])) (map_table g n f)

pub table_take : (n : ℕ) (s : List ℕ) → n ≤ length s → table n (at s) ≡ take n s
table_take zero s h = refl
table_take (suc n) s h = ap (λ (l : List ℕ). l ++ (at s n ∷ [])) (table_take n s (omega arith)) ∙ sym (take-suc s n 0 h)

-- a row is the same as itself
pub same_self : (l : List ℕ) → same l l ≡ true
same_self [] = refl
same_self (x ∷ l) = and_both (eqb x x) (same l l) (eq-eqb x x refl) (same_self l)

-- and rows that are the same are equal
pub same_is : (l m : List ℕ) → same l m ≡ true → l ≡ m
same_is [] [] e = refl
same_is [] (y ∷ m) e = absurd (false≢true e)
same_is (x ∷ l) [] e = absurd (false≢true e)
same_is (x ∷ l) (y ∷ m) e = let p = and_cases (eqb x y) _ e in λ j. eqb-true x y p.0 j ∷ same_is l m p.1 j

-- a column of zeros
pub zero_at : (n g : ℕ) → at (replicate n 0) g ≡ 0
zero_at zero g = refl
zero_at (suc n) zero = refl
zero_at (suc n) (suc g) = zero_at n g

-- ---- the elements that pass

those_append : (p : ℕ → Bool) (l m : List ℕ) → those p (l ++ m) ≡ those p l ++ those p m
those_append p [] m = refl
those_append p (x ∷ l) m = go (p x) (those_append p l m)
  where
    go : (b : Bool) → those p (l ++ m) ≡ those p l ++ those p m
        → cond b (x ∷ those p (l ++ m)) (those p (l ++ m)) ≡ cond b (x ∷ those p l) (those p l) ++ those p m
    go true e = ap (λ (t : List ℕ). x ∷ t) e
    go false e = e

-- of the numbers below n, and of n
pub those_more : (p : ℕ → Bool) (n : ℕ) → length (those p (below (suc n))) ≡ length (those p (below n)) + cond (p n) 1 0
those_more p n =
    ap length (those_append p (below n) (n ∷ []))
    ∙ length-append (those p (below n)) (those p (n ∷ []))
    ∙ ap (λ (k : ℕ). length (those p (below n)) + k) (go (p n))
  where
    go : (b : Bool) → length (cond b (n ∷ []) []) ≡ cond b 1 0
    go true = refl
    go false = refl

-- that pass two tests, one after the other
pub those_both : (p q : ℕ → Bool) (l : List ℕ) → those q (those p l) ≡ those (λ x. p x && q x) l
those_both p q [] = refl
those_both p q (x ∷ l) = go (p x) (those_both p q l)
  where
    go : (b : Bool) → those q (those p l) ≡ those (λ y. p y && q y) l
        → those q (cond b (x ∷ those p l) (those p l)) ≡ cond (b && q x) (x ∷ those (λ y. p y && q y) l) (those (λ y. p y && q y) l)
    go true e = ap (λ (t : List ℕ). cond (q x) (x ∷ t) t) e
    go false e = e

-- no more than there are
pub those_few : (p : ℕ → Bool) (l : List ℕ) → length (those p l) ≤ length l
those_few p [] = omega arith
those_few p (x ∷ l) = go (p x) (those_few p l)
  where
    go : (b : Bool) → length (those p l) ≤ length l → length (cond b (x ∷ those p l) (those p l)) ≤ suc (length l)
    go true h = omega arith
    go false h = omega arith
