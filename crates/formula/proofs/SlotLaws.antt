-- What slots change: nothing for a formula that reads none, and nothing at all for the ops 0 to 8.
use Rattle.std.specs.Prelude.{ℕ, zero, suc, ◌≡◌, ◌≢◌, Bool, true, false, cond, ◌&&◌, ◌||◌, List, [], ◌∷◌, length, get_or, set}
use Rattle.std.proofs.Math.Path.{refl, sym, ap}
use Rattle.std.proofs.Common.{◌∙◌, arith, get_or-set_other, eq-eqb, ne_eqb}
use Rattle.std.proofs.lemmas.Bool.{false≢true}
use Rattle.std.proofs.Math.Bool.{not}
use Rattle.std.proofs.Math.Decide.{ℕ_discrete}
use Rattle.std.proofs.Math.ListN.{length-set}
use Rattle.std.proofs.Math.Dec.{eqb}
use Rattle.common.specs.Lists.{at, every}
use Rattle.common.specs.BoolLaws.{and_cases, or_left, or_right}
use Rattle.rows.specs.Op.{
  Op,
  always,
  requestor,
  object,
  role,
  negation,
  conjunction,
  disjunction,
  forward,
  backward,
  keeping,
  in_slot,
  at_slot,
  unknown,
  op_of,
}
use Rattle.policy.specs.declared.Record.{Record}
use Rattle.vertices.specs.Steps.{leads}
use Rattle.formula.specs.Formula.{
  Context,
  Formulas,
  Slot,
  unset,
  holding,
  true_of,
  keep,
  meaning,
  true_below,
  holds_role,
  formulas_of,
  context_on,
  holds_on,
}
use Rattle.formula.specs.FormulaLaws.{same_of_slot}
use Rattle.formula.specs.FirstMeaning.{FirstContext, first_meaning, first_below}
use Rattle.formula.specs.Uses.{parts_of, throughout, reads_no_slot, has_no_slot, reads_of, reads_slot}

-- the same but for the slots
abbrev pub with_slots : Context → List Slot → Context
with_slots c ss = record { roles = c.roles; edges = c.edges; object = c.object; requestor = c.requestor; slots = ss }

-- a test that all parts pass is passed by the first, and by the second
module _ (p : ℕ → Bool) (g : ℕ) where
  one_part : (p g && true) ≡ true → p g ≡ true
  one_part h = (and_cases (p g) true h).0

  first_part : (k : ℕ) → (p g && (p k && true)) ≡ true → p g ≡ true
  first_part k h = (and_cases (p g) (p k && true) h).0

second_part : (p : ℕ → Bool) (g k : ℕ) → (p g && (p k && true)) ≡ true → p k ≡ true
second_part p g k h = one_part p k (and_cases (p g) (p k && true) h).1

-- two values of a formula agree, where they agree on the parts that pass a test
module _ (ok : ℕ → Bool) where
  same_slots : (p : Context → ℕ → ℕ → Bool)
      → ((c : Context) (ss : List Slot) (g v : ℕ) → ok g ≡ true → p c g v ≡ p (with_slots c ss) g v)
      → (c : Context) (ss : List Slot) (op : Op) (a b here : ℕ) → reads_no_slot op ≡ true → every ok (parts_of op a b) ≡ true
      → meaning c op a b p here ≡ meaning (with_slots c ss) op a b p here
  unfolding meaning
  same_slots p h c ss always a b here r t = refl
  same_slots p h c ss requestor a b here r t = refl
  same_slots p h c ss object a b here r t = refl
  same_slots p h c ss role a b here r t = refl
  same_slots p h c ss negation a b here r t = ap not (h c ss a here (one_part ok a t))
  same_slots p h c ss conjunction a b here r t =
      λ j. h c ss a here (first_part ok a b t) j && h c ss b here (second_part ok a b t) j
  same_slots p h c ss disjunction a b here r t =
      λ j. h c ss a here (first_part ok a b t) j || h c ss b here (second_part ok a b t) j
  same_slots p h c ss forward a b here r t = λ j. leads c.edges 1 2 a (λ v. h c ss b v (one_part ok b t) j) here
  same_slots p h c ss backward a b here r t = λ j. leads c.edges 2 1 a (λ v. h c ss b v (one_part ok b t) j) here
  same_slots p h c ss keeping a b here r t = h (keep c a here) (keep (with_slots c ss) a here).slots b here (one_part ok b t)
  same_slots p h c ss in_slot a b here r t = absurd (false≢true r)
  same_slots p h c ss at_slot a b here r t = absurd (false≢true r)
  same_slots p h c ss unknown a b here r t = refl

  -- without the slots
  abbrev first : Context → FirstContext
  first c = record { roles = c.roles; edges = c.edges; object = c.object; requestor = c.requestor }

  same_first : (p : Context → ℕ → ℕ → Bool) (q : ℕ → ℕ → Bool) (c : Context) → ((g v : ℕ) → ok g ≡ true → p c g v ≡ q g v)
      → (op : Op) (a b here : ℕ) → has_no_slot op ≡ true → every ok (parts_of op a b) ≡ true
      → meaning c op a b p here ≡ first_meaning (first c) op a b q here
  unfolding meaning first_meaning
  same_first p q c h always a b here r t = refl
  same_first p q c h requestor a b here r t = refl
  same_first p q c h object a b here r t = refl
  same_first p q c h role a b here r t = refl
  same_first p q c h negation a b here r t = ap not (h a here (one_part ok a t))
  same_first p q c h conjunction a b here r t =
      λ j. h a here (first_part ok a b t) j && h b here (second_part ok a b t) j
  same_first p q c h disjunction a b here r t =
      λ j. h a here (first_part ok a b t) j || h b here (second_part ok a b t) j
  same_first p q c h forward a b here r t = λ j. leads c.edges 1 2 a (λ v. h b v (one_part ok b t) j) here
  same_first p q c h backward a b here r t = λ j. leads c.edges 2 1 a (λ v. h b v (one_part ok b t) j) here
  same_first p q c h keeping a b here r t = absurd (false≢true r)
  same_first p q c h in_slot a b here r t = absurd (false≢true r)
  same_first p q c h at_slot a b here r t = absurd (false≢true r)
  same_first p q c h unknown a b here r t = refl

-- two lists of slots with the same vertex put into slot a agree at k, if they agree there but for a
kept_alike : (l m : List Slot) → length l ≡ length m → (a : ℕ) (x : Slot) (k : ℕ) → (a ≢ k → get_or l k unset ≡ get_or m k unset)
    → get_or (set l a x) k unset ≡ get_or (set m a x) k unset
kept_alike [] [] e a x k h = refl
kept_alike [] (t ∷ m) e a x k h = absurd (omega (arith, e))
kept_alike (s ∷ l) [] e a x k h = absurd (omega (arith, e))
kept_alike (s ∷ l) (t ∷ m) e zero x zero h = refl
kept_alike (s ∷ l) (t ∷ m) e zero x (suc k) h = h (λ p. omega (arith, p))
kept_alike (s ∷ l) (t ∷ m) e (suc a) x zero h = h (λ p. omega (arith, p))
kept_alike (s ∷ l) (t ∷ m) e (suc a) x (suc k) h = kept_alike l m (omega (arith, e)) a x k (λ n. h (λ p. n (omega (arith, p))))

-- two values of a formula agree, where they agree on the slots that it reads; `reads g k` says of formula g whether it reads slot k
module _ (reads : ℕ → ℕ → Bool) where
  -- slots that are as many, and agree where formula g reads them
  abbrev Alike : (ℕ → Bool) → Context → List Slot → Type 0
  Alike r c ss = (length c.slots ≡ length ss) × ((k : ℕ) → r k ≡ true → get_or c.slots k unset ≡ get_or ss k unset)

  same_read : (p : Context → ℕ → ℕ → Bool)
      → ((c : Context) (ss : List Slot) (g v : ℕ) → Alike (reads g) c ss → p c g v ≡ p (with_slots c ss) g v)
      → (c : Context) (ss : List Slot) (op : Op) (a b here : ℕ) → Alike (λ k. reads_of op a b (λ g. reads g k) k) c ss
      → meaning c op a b p here ≡ meaning (with_slots c ss) op a b p here
  unfolding meaning
  same_read p h c ss always a b here t = refl
  same_read p h c ss requestor a b here t = refl
  same_read p h c ss object a b here t = refl
  same_read p h c ss role a b here t = refl
  same_read p h c ss negation a b here t = ap not (h c ss a here t)
  same_read p h c ss conjunction a b here t =
      let l = h c ss a here (t.0, λ k e. t.1 k (or_left (reads a k) (reads b k) e)) in
      let r = h c ss b here (t.0, λ k e. t.1 k (or_right (reads a k) (reads b k) e)) in
      λ j. l j && r j
  same_read p h c ss disjunction a b here t =
      let l = h c ss a here (t.0, λ k e. t.1 k (or_left (reads a k) (reads b k) e)) in
      let r = h c ss b here (t.0, λ k e. t.1 k (or_right (reads a k) (reads b k) e)) in
      λ j. l j || r j
  same_read p h c ss forward a b here t = λ j. leads c.edges 1 2 a (λ v. h c ss b v t j) here
  same_read p h c ss backward a b here t = λ j. leads c.edges 2 1 a (λ v. h c ss b v t j) here
  same_read p h c ss keeping a b here t =
      h (keep c a here) (set ss a (holding here)) b here (
        length-set c.slots a (holding here) ∙ t.0 ∙ sym (length-set ss a (holding here)),
        λ k e. kept_alike c.slots ss t.0 a (holding here) k (λ n. t.1 k (rw (ne_eqb a k n) e)),
      )
  same_read p h c ss in_slot a b here t = λ j. true_of (t.1 a (eq-eqb a a refl) j) (λ v. eqb here v)
  same_read p h c ss at_slot a b here t =
      (λ j. true_of (t.1 a (or_left (eqb a a) (reads b a) (eq-eqb a a refl)) j) (p c b))
      ∙ same_of_slot (get_or ss a unset) (p c b) (p (with_slots c ss) b)
      (λ v. h c ss b v (t.0, λ k e. t.1 k (or_right (eqb a k) (reads b k) e)))
  same_read p h c ss unknown a b here t = refl

-- THE LAW: the value of a formula depends on the slots that it reads alone
pub slots_read : (fs : Formulas) (n : ℕ) (c : Context) (ss : List Slot) (f here : ℕ) → length c.slots ≡ length ss
    → ((k : ℕ) → reads_slot fs n f k ≡ true → get_or c.slots k unset ≡ get_or ss k unset)
    → true_below fs c n f here ≡ true_below fs (with_slots c ss) n f here
unfolding true_below reads_slot
slots_read fs zero c ss f here e t = refl
slots_read fs (suc n) c ss f here e t = go (λ d s g v a. slots_read fs n d s g v a.0 a.1) (eqb f n) t
  where
    op : Op
    op = op_of (at fs.ops f)

    go : ((d : Context) (s : List Slot) (g v : ℕ) → Alike (reads_slot fs n) (reads_slot fs n g) d s
        → true_below fs d n g v ≡ true_below fs (with_slots d s) n g v) → (x : Bool)
        → ((k : ℕ) → cond x (reads_of op (at fs.lefts f) (at fs.rights f) (λ g. reads_slot fs n g k) k) (reads_slot fs n f k) ≡ true
        → get_or c.slots k unset ≡ get_or ss k unset)
        → cond x (meaning c op (at fs.lefts f) (at fs.rights f) (λ d. true_below fs d n) here) (true_below fs c n f here)
        ≡ cond x (meaning (with_slots c ss) op (at fs.lefts f) (at fs.rights f) (λ d. true_below fs d n) here)
        (true_below fs (with_slots c ss) n f here)
    go ih true t = same_read (reads_slot fs n) (λ d. true_below fs d n) ih c ss op _ _ here (e, t)
    go ih false t = ih c ss f here (e, t)

-- so what is kept in a slot that it does not read makes no difference
pub kept_unread : (fs : Formulas) (n : ℕ) (c : Context) (a v f here : ℕ) → reads_slot fs n f a ≡ false
    → true_below fs (keep c a v) n f here ≡ true_below fs c n f here
kept_unread fs n c a v f here e =
    sym (slots_read fs n c (set c.slots a (holding v)) f here (sym (length-set c.slots a (holding v)))
    (λ k t. go k t (ℕ_discrete k a)))
  where
    go : (k : ℕ) → reads_slot fs n f k ≡ true → Dec (k ≡ a) → get_or c.slots k unset ≡ get_or (set c.slots a (holding v)) k unset
    go k t (yes p) = absurd (false≢true (sym e ∙ ap (reads_slot fs n f) (sym p) ∙ t))
    go k t (no q) = sym (get_or-set_other c.slots a k (holding v) unset q)

-- THE LAW: the value of a formula without op 10 or 11, in it or below it, does not depend on the slots
pub slots_unread : (fs : Formulas) (n : ℕ) (c : Context) (ss : List Slot) (f here : ℕ) → throughout reads_no_slot fs n f ≡ true
    → true_below fs c n f here ≡ true_below fs (with_slots c ss) n f here
unfolding true_below throughout
slots_unread fs zero c ss f here t = refl
slots_unread fs (suc n) c ss f here t = go (slots_unread fs n) (eqb f n) t
  where
    op : Op
    op = op_of (at fs.ops f)

    go : ((d : Context) (s : List Slot) (g v : ℕ) → throughout reads_no_slot fs n g ≡ true
        → true_below fs d n g v ≡ true_below fs (with_slots d s) n g v) → (e : Bool)
        → cond e (reads_no_slot op && every (throughout reads_no_slot fs n) (parts_of op (at fs.lefts f) (at fs.rights f)))
        (throughout reads_no_slot fs n f) ≡ true
        → cond e (meaning c op (at fs.lefts f) (at fs.rights f) (λ d. true_below fs d n) here) (true_below fs c n f here)
        ≡ cond e (meaning (with_slots c ss) op (at fs.lefts f) (at fs.rights f) (λ d. true_below fs d n) here)
        (true_below fs (with_slots c ss) n f here)
    go ih true t =
        let (r, parts) = and_cases (reads_no_slot op) _ t in
        same_slots (throughout reads_no_slot fs n) (λ d. true_below fs d n) ih c ss op _ _ here r parts
    go ih false t = ih c ss f here t

-- THE LAW: a formula with ops 0 to 8 alone, in it and below it, means what document 01 alone says, whatever the slots hold
pub first_meaning_lem : (fs : Formulas) (n : ℕ) (c : Context) (f here : ℕ) → throughout has_no_slot fs n f ≡ true
    → true_below fs c n f here
    ≡ first_below fs (record { roles = c.roles; edges = c.edges; object = c.object; requestor = c.requestor }) n f here
unfolding true_below first_below throughout
first_meaning_lem fs zero c f here t = refl
first_meaning_lem fs (suc n) c f here t = go (first_meaning_lem fs n c) (eqb f n) t
  where
    op : Op
    op = op_of (at fs.ops f)

    old : FirstContext
    old = record { roles = c.roles; edges = c.edges; object = c.object; requestor = c.requestor }

    go : ((g v : ℕ) → throughout has_no_slot fs n g ≡ true → true_below fs c n g v ≡ first_below fs old n g v) → (e : Bool)
        → cond e (has_no_slot op && every (throughout has_no_slot fs n) (parts_of op (at fs.lefts f) (at fs.rights f)))
        (throughout has_no_slot fs n f) ≡ true
        → cond e (meaning c op (at fs.lefts f) (at fs.rights f) (λ d. true_below fs d n) here) (true_below fs c n f here)
        ≡ cond e (first_meaning old op (at fs.lefts f) (at fs.rights f) (first_below fs old n) here) (first_below fs old n f here)
    go ih true t =
        let (r, parts) = and_cases (has_no_slot op) _ t in
        same_first (throughout has_no_slot fs n) (λ d. true_below fs d n) (first_below fs old n) c ih op _ _ here r parts
    go ih false t = ih f here t

-- of a record: a formula with ops 0 to 8 alone
pub holds_first : (r : Record) (es : List (List ℕ)) (f here o s : ℕ)
    → throughout has_no_slot (formulas_of r) r.formula_count f ≡ true
    → holds_on r es f here o s
    ≡ first_below (formulas_of r) (record { roles = holds_role r s; edges = es; object = o; requestor = s }) r.formula_count f here
unfolding holds_on
holds_first r es f here o s t = first_meaning_lem (formulas_of r) r.formula_count (context_on r es o s) f here t
