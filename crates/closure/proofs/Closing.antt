-- Why closing a relation between the numbers below n, number by number, closes it: for any n and any relation.
use Prim.Native.Nat.{ℕ, ◌+◌, ◌≤◌, ◌<◌}
use mathlib.Core.Path.{◌≡◌, refl, sym, ◌∙◌, subst}
use mathlib.Core.Logic.{◌↔◌, ◌≢◌, ◌⊎◌, inl, inr, ⊎_elim}
use native.Mathlib.Nat.{eq-or-lt_of_le}
use native.Mathlib.Omega.{arith}
use Rattle.closure.specs.Closure.{Rel, Star, here, step, Circle, Below, Closes}
use Rattle.closure.proofs.ClosureFact.{star_trans, star_one}

-- C after the numbers below k have been gone through: R is in it, it is reflexive there and transitive through them, and what is in it
-- beside R is between numbers below n and within the closure
pub record ClosedThrough (n : ℕ) (R : Rel) (k : ℕ) (C : Rel) : Type 0 where
  pub base : (x y : ℕ) → R x y → C x y
  pub diag : (x : ℕ) → x < k → C x x
  pub through : (a x y : ℕ) → a < k → x < n → y < n → C x a → C a y → C x y
  pub sound : (x y : ℕ) → C x y → R x y ⊎ ((x < n) × (y < n) × Star (Below n R) x y)

-- in the turn for k, D after the rows below i: C is in it, and in these rows every cell that a way through k leads to;
-- nothing else but such cells
pub record RowsDone (n k i : ℕ) (C D : Rel) : Type 0 where
  pub kept : (x y : ℕ) → C x y → D x y
  pub only : (x y : ℕ) → D x y → C x y ⊎ ((x < n) × (y < n) × C x k × C k y)
  pub done : (x y : ℕ) → x < i → y < n → C x k → C k y → D x y

-- in row i, D after the cells before j: C is in it, and of these cells those that k leads to; nothing else but such cells of the row
pub record CellsDone (n k i j : ℕ) (C D : Rel) : Type 0 where
  pub kept : (x y : ℕ) → C x y → D x y
  pub only : (x y : ℕ) → D x y → C x y ⊎ ((x ≡ i) × (y < n) × C k y)
  pub done : (y : ℕ) → y < j → C k y → D i y

-- D is C with (i, j) in it
pub record With (i j : ℕ) (C D : Rel) : Type 0 where
  pub added : D i j
  pub kept : (x y : ℕ) → C x y → D x y
  pub only : (x y : ℕ) → D x y → C x y ⊎ ((x ≡ i) × (y ≡ j))

under : (x i : ℕ) → x < i + 1 → (x < i) ⊎ (x ≡ i)
under x i l = ⊎_elim (λ e. inr e) (λ h. inl h) (eq-or-lt_of_le (let h : x ≤ i = omega arith in h))

module _ {n k i : ℕ} {C : Rel} where
  pub cells_none : CellsDone n k i 0 C C
  cells_none = record { kept = λ x y r. r; only = λ x y r. inl r; done = λ y l. absurd (omega arith) }

  module _ {j : ℕ} {D : Rel} (a : CellsDone n k i j C D) where
    next : {E : Rel} → ((x y : ℕ) → D x y → E x y) → (C k j → E i j) → (y : ℕ) → y < j + 1 → C k y → E i y
    next {E} more new y l q =
        ⊎_elim (λ l'. more i y (a.done y l' q)) (λ e. subst (E i) (sym e) (new (subst (C k) e q))) (under y j l)

    -- the cell (i, j) is put in, since k leads to j
    pub cells_more : {E : Rel} → j < n → D k j → With i j D E → CellsDone n k i (j + 1) C E
    cells_more lj q w =
        record {
          kept = λ x y r. w.kept x y (a.kept x y r);
          only = λ x y r. ⊎_elim
              (a.only x y)
              (λ (ex, ey). inr (ex, omega arith, subst (C k) (sym ey) (⊎_elim (λ p. p) (λ p. p.2) (a.only k j q))))
              (w.only x y r);
          done = next w.kept (λ _. w.added);
        }

    -- or it is not, since k does not lead to j
    pub cells_skip : (D k j → ⊥) → CellsDone n k i (j + 1) C D
    cells_skip no' =
        record { kept = a.kept; only = a.only; done = next (λ x y r. r) (λ q. absurd (no' (a.kept k j q))) }

module _ {n k : ℕ} {C : Rel} where
  pub rows_none : RowsDone n k 0 C C
  rows_none = record { kept = λ x y r. r; only = λ x y r. inl r; done = λ x y l. absurd (omega arith) }

  module _ {i : ℕ} {D : Rel} (t : RowsDone n k i C D) where
    -- what leads to k, and what k leads to, does not change
    into : {x : ℕ} → D x k → C x k
    into p = ⊎_elim (λ q. q) (λ q. q.2) (t.only _ k p)

    from : {y : ℕ} → D k y → C k y
    from p = ⊎_elim (λ q. q) (λ q. q.3) (t.only k _ p)

    more_rows : {E : Rel} → ((x y : ℕ) → D x y → E x y) → ((y : ℕ) → y < n → C i k → C k y → E i y)
        → (x y : ℕ) → x < i + 1 → y < n → C x k → C k y → E x y
    more_rows {E} more row x y l ly p q =
        ⊎_elim
        (λ l'. more x y (t.done x y l' ly p q))
        (λ e. subst (λ (z : ℕ). E z y) (sym e) (row y ly (subst (λ (z : ℕ). C z k) e p) q))
        (under x i l)

    -- row i is gone through, since i leads to k
    pub rows_more : {j : ℕ} {E : Rel} → i < n → j ≡ n → D i k → CellsDone n k i j D E → RowsDone n k (i + 1) C E
    rows_more li all p a =
        record {
          kept = λ x y r. a.kept x y (t.kept x y r);
          only = λ x y r. ⊎_elim
              (t.only x y)
              (λ (e, ly, q). inr (omega arith, ly, subst (λ (z : ℕ). C z k) (sym e) (into p), from q))
              (a.only x y r);
          done = more_rows a.kept (λ y ly _ q. a.done y (omega arith) (t.kept k y q));
        }

    -- or it is not, since i does not lead to k
    pub rows_skip : (D i k → ⊥) → RowsDone n k (i + 1) C D
    rows_skip no' =
        record { kept = t.kept; only = t.only; done = more_rows (λ x y r. r) (λ y _ p _. absurd (no' (t.kept i k p))) }

module _ {n : ℕ} {R : Rel} where
  pub through_none : ClosedThrough n R 0 R
  through_none =
      record { base = λ x y r. r; diag = λ x l. absurd (omega arith); through = λ a x y l. absurd (omega arith); sound = λ x y r. inl r }

  module _ {k : ℕ} {C : Rel} (u : ClosedThrough n R k C) where
    way : {x y : ℕ} → x < n → y < n → C x y → Star (Below n R) x y
    way lx ly p = ⊎_elim (λ r. star_one (lx, ly, r)) (λ w. w.2) (u.sound _ _ p)

    -- the closure, at the end
    pub through_all : k ≡ n → Closes n R C
    through_all all =
        record {
          inside = λ i j li lj. (way li lj, back li lj);
          outside = λ i j out. (λ p. ⊎_elim (λ r. r) (λ w. absurd (out w.0 w.1)) (u.sound i j p), u.base i j);
        }
      where
        back : {x y : ℕ} → x < n → y < n → Star (Below n R) x y → C x y
        back lx ly here = u.diag _ (omega arith)
        back lx ly (step r p) = u.through _ _ _ (let l = r.1 in omega arith) lx ly (u.base _ _ r.2) (back r.1 ly p)

    -- k itself is put in
    pub through_self : {D : Rel} → k < n → With k k C D → ClosedThrough n R k D
    through_self {D} l w =
        record {
          base = λ x y r. w.kept x y (u.base x y r);
          diag = λ x a. w.kept x x (u.diag x a);
          through = λ a x y la lx ly p q.
              ⊎_elim
              (λ p'. ⊎_elim (λ q'. w.kept x y (u.through a x y la lx ly p' q')) (λ (e, _). absurd (omega arith)) (w.only a y q))
              (λ (_, e). absurd (omega arith))
              (w.only x a p);
          sound = λ x y p.
              ⊎_elim (u.sound x y)
              (λ (ex, ey). inr (omega arith, omega arith, subst (Star (Below n R) x) (ex ∙ sym ey) here))
              (w.only x y p);
        }

    -- and every way through k
    pub through_next : {i : ℕ} {D : Rel} → i ≡ n → k < n → C k k → RowsDone n k i C D → ClosedThrough n R (k + 1) D
    through_next {i} {D} e l self t =
        record {
          base = λ x y r. t.kept x y (u.base x y r);
          diag = λ x a. ⊎_elim
              (λ a'. t.kept x x (u.diag x a'))
              (λ e. subst (λ (z : ℕ). D z z) (sym e) (t.kept k k self))
              (under x k a);
          through = λ a x y la lx ly p q.
              ⊎_elim
              (λ a'. ways a x y a' lx ly (t.only x a p) (t.only a y q))
              (λ e'. t.done x y (omega arith) ly (into t (subst (D x) e' p)) (from t (subst (λ (z : ℕ). D z y) e' q)))
              (under a k la);
          sound = λ x y p.
              ⊎_elim (u.sound x y)
              (λ (lx, ly, p', q'). inr (lx, ly, star_trans (way lx l p') (way l ly q')))
              (t.only x y p);
        }
      where
        -- from x to y at once, or through k
        Ways : ℕ → ℕ → Type 0
        Ways x y = C x y ⊎ ((x < n) × (y < n) × C x k × C k y)

        ways : (a x y : ℕ) → a < k → x < n → y < n → Ways x a → Ways a y → D x y
        ways a x y la lx ly (inl p) (inl q) = t.kept x y (u.through a x y la lx ly p q)
        ways a x y la lx ly (inl p) (inr q) = t.done x y (omega arith) ly (u.through a x k la lx l p q.2) q.3
        ways a x y la lx ly (inr p) (inl q) = t.done x y (omega arith) ly p.2 (u.through a k y la l ly p.3 q)
        ways a x y la lx ly (inr p) (inr q) = t.done x y (omega arith) ly p.2 q.3

-- the circles of a closure are those of the ways
pub circle_closed : {n : ℕ} {R C : Rel} → Closes n R C → (Circle (Below n C) ↔ Circle (Star (Below n R)))
circle_closed {n} {R} c = (
  λ (i, j, ne, (li, lj, p), (lj', li', q)). (i, j, ne, (c.inside i j li lj).0 p, (c.inside j i lj li).0 q),
  λ (i, j, ne, p, q).
      let li = starts ne p in
      let lj = starts (λ e. ne (sym e)) q in
      (i, j, ne, (li, lj, (c.inside i j li lj).1 p), (lj, li, (c.inside j i lj li).1 q)),
)
  where
    starts : {i j : ℕ} → i ≢ j → Star (Below n R) i j → i < n
    starts ne here = absurd (ne refl)
    starts ne (step r p) = r.0
