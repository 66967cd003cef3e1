-- Eager and lazy choose the same set, whatever the memo; and where every formula has a place in the memo, the lazy walk over all
-- candidates is at most one search more than there are principals.
use Prim.Native.Nat.{ℕ, zero, suc, ◌+◌, ◌<◌}
use Rattle.std.specs.Prelude.{◌≡◌, Bool, ◌&&◌, ◌||◌}
use Rattle.std.proofs.Math.Path.{refl, sym, ap}
use Rattle.std.proofs.Common.{◌∙◌, arith}
use Rattle.std.proofs.Math.Bool.{true, false, not, cond}
use Rattle.std.proofs.lemmas.Bool.{false≢true}
use mathlib.Core.List.{List, [], ◌∷◌, ◌++◌, append_assoc}
use Rattle.std.proofs.Math.Option.{Option, none, some}
use Rattle.std.proofs.Math.ListN.{length}
use Rattle.common.specs.Limits.{most_formulas}
use Rattle.common.specs.Lists.{any, every, below}
use Rattle.common.specs.ListLaws.{length_table}
use Rattle.common.specs.BoolLaws.{and_both, and_false, or_left, or_right}
use Rattle.common.specs.Sets.{member}
use Rattle.policy.specs.declared.Record.{Record}
use Rattle.policy.specs.declared.Memo.{Memo}
use Rattle.justification.specs.Justification.{members, first_among, candidates, least}
use Rattle.memo.specs.Memo.{known, value, evaluated}
use Rattle.memo.specs.AllLaws.{All, all_those, all_of_lem, all_map, all_append, all_below, below_all, every_ext, first_ext, Passing}
use Rattle.memo.specs.AllLaws.{first_passes, every_not, any_map, any_part, any_both, lacking, lacking_length, fewer}
use Rattle.memo.specs.EvaluatedLaws.{view, Same, known_view, Evaluated, evaluates, still_false, Reached, here, from, reached_on}
use Rattle.memo.specs.EvaluatedLaws.{reached_same}
use Rattle.memo.specs.Walk.{formula_of, Outcome, outcome, chosen, left, evaluated_all, eagerly}
use Rattle.memo.specs.Walk.{Weighed, survives, ends, tried, known_false, weighed, after_weighing, walk, try_next, searching}

-- ---- memos and candidates

-- a memo has a place for each formula
pub record MemoLengths (m : Memo) : Type 0 where
  pub knowns : length m.known ≡ most_formulas
  pub values : length m.value ≡ most_formulas

-- principals name formulas that have a place
abbrev pub FormulasInMemo : Record → Type 0
FormulasInMemo r = (p : ℕ) → p < r.principal_count → formula_of r p < most_formulas

-- members are principals
members_below : (r : Record) (c : ℕ) → All (λ p. p < r.principal_count) (members r c)
members_below r c =
    all_those (λ p. p < r.principal_count) (λ p. member p c) (below r.principal_count)
    (all_below (λ p. p < r.principal_count) r.principal_count (λ p l. l))

-- a candidate has a member that is known false
abbrev over : Record → Memo → ℕ → Bool
over r m c = any (known_false r m) (members r c)

pub search_free : (r : Record) (k : ℕ) (m : Memo)
    → least r k (λ p. not (known_false r m p)) ≡ first_among (λ c. not (any (known_false r m) (members r c))) (candidates r k)
unfolding least
search_free r k m =
    first_ext (λ c. every (λ p. not (known_false r m p)) (members r c)) (λ c. not (over r m c)) (candidates r k)
    (λ c. every_not (known_false r m) (members r c))

-- ---- outcomes

pub chosen_outcome : (n : Memo) (o : Option ℕ) → chosen (outcome n o) ≡ o
chosen_outcome n none = refl
chosen_outcome n (some c) = refl

left_outcome : (n : Memo) (o : Option ℕ) → left (outcome n o) ≡ n
left_outcome n none = refl
left_outcome n (some c) = refl

pub left_eagerly : (r : Record) (k : ℕ) (n : Memo) → left (eagerly r k n) ≡ n
unfolding eagerly
left_eagerly r k n = left_outcome n (least r k (λ p. value n (formula_of r p)))

module _ (truth : ℕ → Bool) (r : Record) where
  -- ---- a candidate

  -- every member is enabled, as the memo takes it
  abbrev passes : Memo → List ℕ → Bool
  passes m ps = every (λ p. view truth m (formula_of r p)) ps

  passes_same : {m n : Memo} (ps : List ℕ) → Same truth m n → passes n ps ≡ passes m ps
  passes_same {m} {n} ps s =
      every_ext (λ p. view truth n (formula_of r p)) (λ p. view truth m (formula_of r p)) ps
      (all_of_lem (λ p. view truth n (formula_of r p) ≡ view truth m (formula_of r p)) ps (λ p. s.views (formula_of r p)))

  -- it survives exactly when all members are enabled
  abbrev Weighs : Memo → List ℕ → Weighed → Type 0
  Weighs m ps (survives n) = (passes m ps ≡ true) × Reached truth r n m
  Weighs m ps (ends n) = (passes m ps ≡ false) × Reached truth r n m

  module _ (m : Memo) (p : ℕ) (l : p < r.principal_count) (ps : List ℕ) where
    abbrev first_done : Memo
    first_done = evaluated truth m (formula_of r p)

    first_view : value first_done (formula_of r p) ≡ view truth m (formula_of r p)
    first_view = let e = evaluates truth m (formula_of r p) in e.is ∙ e.same.views (formula_of r p)

    passes_first : (b : Bool) → view truth m (formula_of r p) ≡ true → passes first_done ps ≡ b → passes m (p ∷ ps) ≡ b
    passes_first b e h = rw e (sym (passes_same ps (evaluates truth m (formula_of r p)).same) ∙ h)

    weighs_on : (w : Weighed) → view truth m (formula_of r p) ≡ true → Weighs first_done ps w → Weighs m (p ∷ ps) w
    weighs_on (survives k) e h = (passes_first true e h.0, from p l h.1)
    weighs_on (ends k) e h = (passes_first false e h.0, from p l h.1)

  tries : (m : Memo) (ps : List ℕ) → All (λ p. p < r.principal_count) ps → Weighs m ps (tried truth r m ps)
  unfolding tried
  tries m [] a = (refl, here)
  tries m (p ∷ ps) a = go (value n (formula_of r p)) refl (tries n ps a.1)
    where
      n : Memo
      n = evaluated truth m (formula_of r p)

      go : (b : Bool) → value n (formula_of r p) ≡ b → Weighs n ps (tried truth r n ps)
          → Weighs m (p ∷ ps) (cond b (tried truth r n ps) (ends n))
      go true e w = weighs_on m p a.0 ps (tried truth r n ps) (sym (first_view m p a.0 ps) ∙ e) w
      go false e w = (rw (sym (first_view m p a.0 ps) ∙ e) refl, from p a.0 here)

  not_enabled_lem : (m : Memo) (f : ℕ) (x y : Bool) → known m f ≡ x → value m f ≡ y → x && not y ≡ true → view truth m f ≡ false
  not_enabled_lem m f true true e d h = absurd (false≢true h)
  not_enabled_lem m f true false e d h = sym (known_view truth m f e) ∙ d
  not_enabled_lem m f false y e d h = absurd (false≢true h)

  passed_over : (m : Memo) (ps : List ℕ) → any (known_false r m) ps ≡ true → passes m ps ≡ false
  passed_over m [] e = absurd (false≢true e)
  passed_over m (p ∷ ps) e = go (known_false r m p) refl e (passed_over m ps)
    where
      go : (b : Bool) → known_false r m p ≡ b → b || any (known_false r m) ps ≡ true → (any (known_false r m) ps ≡ true → passes m ps ≡ false)
          → view truth m (formula_of r p) && passes m ps ≡ false
      go true k h ih = rw (not_enabled_lem m (formula_of r p) (known m (formula_of r p)) (value m (formula_of r p)) refl refl k) refl
      go false k h ih = rw (ih h) (and_false (view truth m (formula_of r p)))

  weighs : (m : Memo) (c : ℕ) → Weighs m (members r c) (weighed truth r m (members r c))
  unfolding weighed
  weighs m c = go (over r m c) refl
    where
      go : (b : Bool) → over r m c ≡ b → Weighs m (members r c) (cond b (ends m) (tried truth r m (members r c)))
      go true e = (passed_over m (members r c) e, here)
      go false e = tries m (members r c) (members_below r c)

  -- ---- eager: after all evaluations the memo's values are what it took the formulas to be

  all_reached : (ps : List ℕ) (m : Memo) → All (λ p. p < r.principal_count) ps → Reached truth r (evaluated_all truth r m ps) m
  unfolding evaluated_all
  all_reached [] m a = here
  all_reached (p ∷ ps) m a = from p a.0 (all_reached ps (evaluated truth m (formula_of r p)) a.1)

  -- of principal p's formula: its value is what m took it to be; it is known, if it has a place
  abbrev Valued : Memo → Memo → ℕ → Type 0
  Valued m after p = value after (formula_of r p) ≡ view truth m (formula_of r p)

  abbrev Knows : Memo → Memo → ℕ → Type 0
  Knows m after p = formula_of r p < length m.known → known after (formula_of r p) ≡ true

  all_values : (ps : List ℕ) (m : Memo) → All (λ p. p < r.principal_count) ps → All (Valued m (evaluated_all truth r m ps)) ps
  unfolding evaluated_all
  all_values [] m a = tt
  all_values (p ∷ ps) m a =
      let e = evaluates truth m (formula_of r p) in
      let n : Memo = evaluated truth m (formula_of r p) in
      let after : Memo = evaluated_all truth r n ps in
      let s : Same truth n after = reached_same truth r (all_reached ps n a.1) in
      let first : Valued m after p = s.settled (formula_of r p) e.is ∙ s.views (formula_of r p) ∙ e.same.views (formula_of r p) in
      (first, all_map (Valued n after) (Valued m after) ps (λ g i. i ∙ e.same.views (formula_of r g)) (all_values ps n a.1))

  all_known : (ps : List ℕ) (m : Memo) → All (λ p. p < r.principal_count) ps → All (Knows m (evaluated_all truth r m ps)) ps
  unfolding evaluated_all
  all_known [] m a = tt
  all_known (p ∷ ps) m a =
      let e = evaluates truth m (formula_of r p) in
      let n : Memo = evaluated truth m (formula_of r p) in
      let after : Memo = evaluated_all truth r n ps in
      let first : Knows m after p = λ l. (reached_same truth r (all_reached ps n a.1)).keeps (formula_of r p) (e.knows l) in
      (first, all_map (Knows n after) (Knows m after) ps (λ g i l. i (let w = e.same.knowns in omega arith)) (all_known ps n a.1))

  module _ (m : Memo) where
    abbrev principals : List ℕ
    principals = below r.principal_count

    abbrev after_all : Memo
    after_all = evaluated_all truth r m principals

    principals_below : All (λ p. p < r.principal_count) principals
    principals_below = all_below (λ p. p < r.principal_count) r.principal_count (λ p l. l)

    pub eager_reached : Reached truth r after_all m
    eager_reached = all_reached principals m principals_below

    eager_values : All (Valued m after_all) principals
    eager_values = all_values principals m principals_below

    pub eager_value : (p : ℕ) → p < r.principal_count → value after_all (formula_of r p) ≡ view truth m (formula_of r p)
    eager_value = below_all (Valued m after_all) r.principal_count eager_values

    pub eager_known : (p : ℕ) → p < r.principal_count → formula_of r p < length m.known → known after_all (formula_of r p) ≡ true
    eager_known = below_all (Knows m after_all) r.principal_count (all_known principals m principals_below)

  -- ---- the walk

  -- the walk finds the first candidate whose members are all enabled
  walks : (cs : List ℕ) (m : Memo) → chosen (walk truth r m cs) ≡ first_among (λ c. passes m (members r c)) cs
  unfolding walk
  walks [] m = refl
  walks (c ∷ cs) m = go (weighed truth r m (members r c)) (weighs m c) (walks cs)
    where
      go : (w : Weighed) → Weighs m (members r c) w
          → ((n : Memo) → chosen (walk truth r n cs) ≡ first_among (λ d. passes n (members r d)) cs)
          → chosen (after_weighing c w (λ after. walk truth r after cs))
          ≡ cond (passes m (members r c)) (some c) (first_among (λ d. passes m (members r d)) cs)
      go (survives n) k ih = rw k.0 refl
      go (ends n) k ih =
          rw k.0
          (ih n
          ∙ first_ext (λ d. passes n (members r d)) (λ d. passes m (members r d)) cs
          (λ d. passes_same (members r d) (reached_same truth r k.1)))

  pub walk_reached : (cs : List ℕ) (m : Memo) → Reached truth r (left (walk truth r m cs)) m
  unfolding walk
  walk_reached [] m = here
  walk_reached (c ∷ cs) m = go (weighed truth r m (members r c)) (weighs m c) (walk_reached cs)
    where
      go : (w : Weighed) → Weighs m (members r c) w → ((n : Memo) → Reached truth r (left (walk truth r n cs)) n)
          → Reached truth r (left (after_weighing c w (λ after. walk truth r after cs))) m
      go (survives n) k ih = k.1
      go (ends n) k ih = reached_on truth r k.1 (ih n)

  -- both choose the same
  pub agree : (k : ℕ) (m : Memo)
      → chosen (eagerly r k (evaluated_all truth r m (below r.principal_count))) ≡ chosen (walk truth r m (candidates r k))
  unfolding eagerly least
  agree k m =
      chosen_outcome after (first_among (λ c. every (λ p. value after (formula_of r p)) (members r c)) (candidates r k))
      ∙ first_ext (λ c. every (λ p. value after (formula_of r p)) (members r c)) (λ c. passes m (members r c)) (candidates r k)
      (λ c. every_ext (λ p. value after (formula_of r p)) (λ p. view truth m (formula_of r p)) (members r c)
      (all_those (Valued m after) (λ p. member p c) (below r.principal_count) (eager_values m)))
      ∙ sym (walks (candidates r k) m)
    where
      after : Memo
      after = evaluated_all truth r m (below r.principal_count)

  -- ---- the walk by searches, where every formula has a place

  -- candidates with a member that is known false are passed over
  skipped : (m : Memo) (ds cs : List ℕ) → All (λ d. over r m d ≡ true) ds → walk truth r m (ds ++ cs) ≡ walk truth r m cs
  unfolding walk weighed
  skipped m [] cs a = refl
  skipped m (d ∷ ds) cs a = rw a.0 (skipped m ds cs a.1)

  still_over : {m n : Memo} → Same truth m n → (c : ℕ) → over r m c ≡ true → over r n c ≡ true
  still_over {m} {n} s c = any_map (known_false r m) (known_false r n) (members r c) (λ p. still_false truth r p s)

  -- a candidate that ends has a member that has become known false
  abbrev EndsKnown : List ℕ → Weighed → Type 0
  EndsKnown ps (survives n) = Unit {0}
  EndsKnown ps (ends n) = any (known_false r n) ps ≡ true

  ends_on : (p : ℕ) (ps : List ℕ) (w : Weighed) → EndsKnown ps w → EndsKnown (p ∷ ps) w
  ends_on p ps (survives k) h = tt
  ends_on p ps (ends k) h = or_right (known_false r k p) _ h

  tries_known : (m : Memo) (ps : List ℕ) → All (λ p. formula_of r p < length m.known) ps → EndsKnown ps (tried truth r m ps)
  unfolding tried
  tries_known m [] a = tt
  tries_known m (p ∷ ps) a =
      go (value n (formula_of r p)) refl
      (tries_known n ps
      (all_map (λ g. formula_of r g < length m.known) (λ g. formula_of r g < length n.known) ps
      (λ g l. let w = d.same.knowns in omega arith) a.1))
    where
      n : Memo
      n = evaluated truth m (formula_of r p)

      d : Evaluated truth m (formula_of r p) n
      d = evaluates truth m (formula_of r p)

      go : (b : Bool) → value n (formula_of r p) ≡ b → EndsKnown ps (tried truth r n ps)
          → EndsKnown (p ∷ ps) (cond b (tried truth r n ps) (ends n))
      go true e w = ends_on p ps (tried truth r n ps) w
      go false e w = or_left (known_false r n p) _ (and_both (known n (formula_of r p)) _ (d.knows a.0) (ap not e))

  module _ (all : FormulasInMemo r) where
    -- what comes after a candidate matters only where it ends, with a member known false
    then : (c : ℕ) (m : Memo) → MemoLengths m → (f g : Memo → Outcome)
        → ((n : Memo) → MemoLengths n → over r n c ≡ true → Same truth m n → f n ≡ g n)
        → after_weighing c (tried truth r m (members r c)) f ≡ after_weighing c (tried truth r m (members r c)) g
    then c m h f g next =
        go (tried truth r m (members r c)) (tries m (members r c) (members_below r c))
        (tries_known m (members r c)
        (all_map (λ p. p < r.principal_count) (λ p. formula_of r p < length m.known) (members r c)
        (λ p l. let a = all p l in let b = h.knowns in omega arith) (members_below r c)))
      where
        go : (w : Weighed) → Weighs m (members r c) w → EndsKnown (members r c) w → after_weighing c w f ≡ after_weighing c w g
        go (survives n) k e = refl
        go (ends n) k e =
            let s : Same truth m n = reached_same truth r k.1 in
            next n (record { knowns = s.knowns ∙ h.knowns; values = s.values ∙ h.values }) e s

    -- after candidates ds that are passed over, the walk tries the first free one of cs; if that ends, it is as good to walk over
    -- all of them again
    again : (ds cs : List ℕ) (m : Memo) → MemoLengths m → All (λ d. over r m d ≡ true) ds
        → walk truth r m cs ≡ try_next truth r m (first_among (λ c. not (over r m c)) cs) (λ after. walk truth r after (ds ++ cs))
    unfolding walk weighed
    again ds [] m h a = refl
    again ds (c ∷ cs) m h a = go (over r m c) refl (again (ds ++ (c ∷ [])) cs m h)
      where
        go : (b : Bool) → over r m c ≡ b
            → (All (λ d. over r m d ≡ true) (ds ++ (c ∷ []))
            → walk truth r m cs
            ≡ try_next truth r m (first_among (λ d. not (over r m d)) cs) (λ after. walk truth r after ((ds ++ (c ∷ [])) ++ cs)))
            → after_weighing c (cond b (ends m) (tried truth r m (members r c))) (λ after. walk truth r after cs)
            ≡ try_next truth r m (cond (not b) (some c) (first_among (λ d. not (over r m d)) cs)) (λ after. walk truth r after (ds ++ (c ∷ cs)))
        go true e ih =
            ih (all_append (λ d. over r m d ≡ true) ds (c ∷ []) a (e, tt))
            ∙ ap (λ (l : List ℕ). try_next truth r m (first_among (λ d. not (over r m d)) cs) (λ after. walk truth r after l))
            (append_assoc ds (c ∷ []) cs)
        go false e ih =
            then c m h (λ after. walk truth r after cs) (λ after. walk truth r after (ds ++ (c ∷ cs))) (λ n i o s.
            sym (skipped n ds (c ∷ cs) (all_map (λ d. over r m d ≡ true) (λ d. over r n d ≡ true) ds (still_over s) a)
            ∙ skipped n (c ∷ []) cs (o, tt)))

    -- the walk tries what a search finds, and if that ends it starts again
    pub walk_again : (k : ℕ) (m : Memo) → MemoLengths m
        → walk truth r m (candidates r k)
        ≡ try_next truth r m (least r k (λ p. not (known_false r m p))) (λ after. walk truth r after (candidates r k))
    walk_again k m h =
        again [] (candidates r k) m h tt
        ∙ ap (λ (o : Option ℕ). try_next truth r m o (λ after. walk truth r after (candidates r k))) (sym (search_free r k m))

    module _ (k : ℕ) where
      -- how many principals are not known false
      abbrev unsettled : Memo → ℕ
      unsettled m = lacking (known_false r m) (below r.principal_count)

      -- a free candidate that ends leaves fewer
      closes : {m n : Memo} (c : ℕ) → every (λ p. not (known_false r m p)) (members r c) ≡ true → over r n c ≡ true → Same truth m n
          → unsettled n < unsettled m
      closes {m} {n} c e d s =
          fewer (known_false r m) (known_false r n) (λ p. still_false truth r p s) (below r.principal_count)
          (any_part (λ p. not (known_false r m p) && known_false r n p) (λ p. member p c) (below r.principal_count)
          (any_both (λ p. not (known_false r m p)) (known_false r n) (members r c) e d))

      searches : (n : ℕ) (m : Memo) → MemoLengths m → unsettled m < n → walk truth r m (candidates r k) ≡ searching n truth r k m
      unfolding searching least
      searches zero m h l = absurd (omega arith)
      searches (suc n) m h l =
          walk_again k m h
          ∙ go (least r k (λ p. not (known_false r m p)))
          (first_passes (λ c. every (λ p. not (known_false r m p)) (members r c)) (candidates r k)) (searches n)
        where
          go : (o : Option ℕ) → Passing (λ c. every (λ p. not (known_false r m p)) (members r c)) o
              → ((x : Memo) → MemoLengths x → unsettled x < n → walk truth r x (candidates r k) ≡ searching n truth r k x)
              → try_next truth r m o (λ after. walk truth r after (candidates r k)) ≡ try_next truth r m o (searching n truth r k)
          go none e ih = refl
          go (some c) e ih =
              then c m h (λ after. walk truth r after (candidates r k)) (searching n truth r k)
              (λ x i o s. ih x i (let q = closes c e o s in omega arith))

  -- the walk is at most one search more than there are principals
  pub walk_searches : (k : ℕ) (m : Memo) → FormulasInMemo r → MemoLengths m
      → walk truth r m (candidates r k) ≡ searching (r.principal_count + 1) truth r k m
  walk_searches k m all h =
      searches all k (r.principal_count + 1) m h
      (omega (arith, lacking_length (known_false r m) (below r.principal_count), length_table r.principal_count (λ (i : ℕ). i)))
