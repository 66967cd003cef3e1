-- What evaluations do to a memo, of any lengths: one of them, and those of principals' formulas one after another.
use Rattle.std.specs.Prelude.{ℕ, ◌<◌, ◌≡◌, Bool, not, cond, List, ltb, length, get_or, set}
use Rattle.std.proofs.Math.Path.{refl, sym}
use Rattle.std.proofs.Common.{◌∙◌, ap, subst, arith, length-set, get_or-set_other, ltb-true, ltb-false}
use Rattle.std.proofs.Math.Bool.{true, false}
use Rattle.std.proofs.lemmas.Bool.{false≢true}
use Rattle.std.proofs.Math.Decide.{ℕ_discrete}
use Rattle.std.proofs.Math.ListN.{get_or-eq_default}
use Rattle.std.proofs.Math.Seq.{get_or-set_same}
use Rattle.common.specs.BoolLaws.{and_cases, and_both}
use Rattle.policy.specs.declared.Record.{Record}
use Rattle.policy.specs.declared.Memo.{Memo}
use Rattle.memo.specs.Memo.{known, value, noted, evaluated}
use Rattle.memo.specs.Walk.{formula_of, known_false}

-- a truth value put in a list is there, if it has a place
placed : (l : List Bool) (f : ℕ) (v : Bool) → get_or (set l f v) f false ≡ cond (ltb f (length l)) v false
placed l f v = go (ltb f (length l)) refl
  where
    go : (b : Bool) → ltb f (length l) ≡ b → get_or (set l f v) f false ≡ cond b v false
    go true e = get_or-set_same l f v false (ltb-true f (length l) e)
    go false e = let a = ltb-false f (length l) e in get_or-eq_default (set l f v) false (omega (arith, length-set l f v))

either_way : (b v : Bool) → cond (cond b true false) v v ≡ v
either_way true v = refl
either_way false v = refl

-- only what has a place is true
pub in_place : (l : List Bool) (f : ℕ) → get_or l f false ≡ true → f < length l
in_place l f e = go (ltb f (length l)) refl
  where
    go : (b : Bool) → ltb f (length l) ≡ b → f < length l
    go true d = ltb-true f (length l) d
    go false d = absurd (false≢true (sym (get_or-eq_default l false (ltb-false f (length l) d)) ∙ e))

module _ (truth : ℕ → Bool) where
  -- what a memo takes formula f to be: the known value; else the truth where f has a place for its value, and false where it has none
  abbrev pub view : Memo → ℕ → Bool
  view m f = cond (known m f) (value m f) (cond (ltb f (length m.value)) (truth f) false)

  -- n has the pair of m, takes every formula as m does, and knows what m knows; a value that is what the memo takes its formula to be
  -- stays so
  pub record Same (m n : Memo) : Type 0 where
    pub object : n.object ≡ m.object
    pub requestor : n.requestor ≡ m.requestor
    pub knowns : length n.known ≡ length m.known
    pub values : length n.value ≡ length m.value
    pub views : (f : ℕ) → view n f ≡ view m f
    pub keeps : (f : ℕ) → known m f ≡ true → known n f ≡ true
    pub settled : (f : ℕ) → value m f ≡ view m f → value n f ≡ view n f

  same_self : (m : Memo) → Same m m
  same_self m =
      record {
        object = refl;
        requestor = refl;
        knowns = refl;
        values = refl;
        views = λ f. refl;
        keeps = λ f e. e;
        settled = λ f e. e;
      }

  same_trans : {k m n : Memo} → Same k m → Same m n → Same k n
  same_trans a b =
      record {
        object = b.object ∙ a.object;
        requestor = b.requestor ∙ a.requestor;
        knowns = b.knowns ∙ a.knowns;
        values = b.values ∙ a.values;
        views = λ f. b.views f ∙ a.views f;
        keeps = λ f e. b.keeps f (a.keeps f e);
        settled = λ f e. b.settled f (a.settled f e);
      }

  pub known_view : (m : Memo) (f : ℕ) → known m f ≡ true → value m f ≡ view m f
  known_view m f e = rw e refl

  pub unknown_view : (m : Memo) (f : ℕ) → known m f ≡ false → view m f ≡ cond (ltb f (length m.value)) (truth f) false
  unknown_view m f e = rw e refl

  same_value : {m n : Memo} (f : ℕ) → Same m n → known m f ≡ true → value n f ≡ value m f
  same_value {m} {n} f s e = known_view n f (s.keeps f e) ∙ s.views f ∙ sym (known_view m f e)

  -- ---- one evaluation

  -- a formula with a place is then known
  pub record Evaluated (m : Memo) (f : ℕ) (n : Memo) : Type 0 where
    pub knows : f < length m.known → known n f ≡ true
    pub is : value n f ≡ view n f
    pub same : Same m n

  module _ (m : Memo) (f : ℕ) (e : known m f ≡ false) where
    noted_value : value (noted m f (truth f)) f ≡ view m f
    noted_value = placed m.value f (truth f) ∙ sym (unknown_view m f e)

    noted_view : (g : ℕ) → Dec (g ≡ f) → view (noted m f (truth f)) g ≡ view m g
    noted_view g (yes q) = subst (λ (x : ℕ). view (noted m f (truth f)) x ≡ view m x) (sym q) at_f
      where
        at_f : view (noted m f (truth f)) f ≡ view m f
        at_f =
            rw (placed m.known f true, placed m.value f (truth f), length-set m.value f (truth f))
            (either_way (ltb f (length m.known)) _ ∙ sym (unknown_view m f e))
    noted_view g (no q) =
        rw (
          get_or-set_other m.known f g true false q,
          get_or-set_other m.value f g (truth f) false q,
          length-set m.value f (truth f),
        )

    noted_keeps : (g : ℕ) → known m g ≡ true → known (noted m f (truth f)) g ≡ true
    noted_keeps g k = get_or-set_other m.known f g true false (λ q. false≢true (sym e ∙ subst (λ (x : ℕ). known m x ≡ true) q k)) ∙ k

    noted_settled : (g : ℕ) → Dec (g ≡ f) → value m g ≡ view m g → value (noted m f (truth f)) g ≡ view (noted m f (truth f)) g
    noted_settled g (yes q) s =
        subst (λ (x : ℕ). value (noted m f (truth f)) x ≡ view (noted m f (truth f)) x) (sym q)
        (noted_value ∙ sym (noted_view f (yes refl)))
    noted_settled g (no q) s = get_or-set_other m.value f g (truth f) false q ∙ s ∙ sym (noted_view g (no q))

    noted_same : Same m (noted m f (truth f))
    noted_same =
        record {
          object = refl;
          requestor = refl;
          knowns = length-set m.known f true;
          values = length-set m.value f (truth f);
          views = λ g. noted_view g (ℕ_discrete g f);
          keeps = noted_keeps;
          settled = λ g. noted_settled g (ℕ_discrete g f);
        }

  pub evaluates : (m : Memo) (f : ℕ) → Evaluated m f (evaluated truth m f)
  unfolding evaluated
  evaluates m f = go (known m f) refl
    where
      go : (b : Bool) → known m f ≡ b → Evaluated m f (cond b m (noted m f (truth f)))
      go true e = record { knows = λ l. e; is = known_view m f e; same = same_self m }
      go false e =
          record {
            knows = get_or-set_same m.known f true false;
            is = noted_value m f e ∙ sym ((noted_same m f e).views f);
            same = noted_same m f e;
          }

  -- ---- evaluations of principals' formulas, one after another

  module _ (r : Record) where
    -- what was known false still is
    pub still_false : {m n : Memo} (p : ℕ) → Same m n → known_false r m p ≡ true → known_false r n p ≡ true
    still_false {m} {n} p s e =
        let (t, u) = and_cases (known m (formula_of r p)) _ e in
        and_both (known n (formula_of r p)) _ (s.keeps (formula_of r p) t) (ap not (same_value (formula_of r p) s t) ∙ u)

    -- they lead from a memo to n
    pub data Reached (n : Memo) : Memo → Type 0 where
      here : Reached n n
      from : {m : Memo} (p : ℕ) → p < r.principal_count → Reached n (evaluated truth m (formula_of r p)) → Reached n m

    pub reached_on : {m k n : Memo} → Reached m k → Reached n m → Reached n k
    reached_on here b = b
    reached_on (from p l a) b = from p l (reached_on a b)

    pub reached_same : {n m : Memo} → Reached n m → Same m n
    reached_same {m = m} here = same_self m
    reached_same {m = m} (from p l a) = same_trans (evaluates m (formula_of r p)).same (reached_same a)
