-- THE THEOREM on one altered byte: a text all of whose lines are well framed, with exactly one byte altered,
-- has a line that is refused with 1, 2 or 3.
use Rattle.std.specs.Prelude.{◌≡◌, ℕ, zero, suc, ◌+◌, ◌%◌, ◌<◌, ◌≤◌, Bool, true, false, cond, ◌||◌, ◌≢◌, ◌⊎◌, List, [], ◌∷◌, ◌++◌, length, ◌==◌, refl}
use Rattle.std.proofs.Common.{sym, ◌∙◌, ap, subst, inl, inr, ⊎_elim, arith, length-append, eqb-true, le-leb}
use Rattle.std.proofs.lemmas.Bool.{false≢true}
use Rattle.std.proofs.Math.Decide.{dec_lt}
use Rattle.common.specs.Lists.{at, any, every}
use Rattle.common.specs.BoolLaws.{and_cases, or_right}
use Rattle.octets.specs.Line.{digit_value, line_of, rest_of, ended, octets_of, total, Framed, refused, octets, frame, lines}
use Rattle.octets.proofs.LineLaws.{digit_is, Pairs, pairs_even, Accepted, LineJudged, frame_judged, lines_cons}
use Rattle.octets.proofs.LineLaws.LineJudged.{accepts, refuses}
use Rattle.octets.specs.Damage.{OneAltered, is_accepted, is_refused, well_framed, has_refused_line}
use Rattle.octets.specs.Damage.OneAltered.{this, next}

-- ---- an altered digit alters the sum by less than 256

differ : (m n : ℕ) → m ≢ n → Dec (m < n) → (m < n) ⊎ (n < m)
differ m n h (yes l) = inl l
differ m n h (no k) = inr (omega arith)

same_digit : (c d : ℕ) → digit_value c < 16 → digit_value d < 16 → digit_value c ≡ digit_value d → c ≡ d
same_digit c d p q e =
    ⊎_elim
    (λ x. ⊎_elim (λ y. omega arith) (λ y. omega arith) (digit_is d q))
    (λ x. ⊎_elim (λ y. omega arith) (λ y. omega arith) (digit_is d q))
    (digit_is c p)

other_digit : (c d : ℕ) → c ≢ d → digit_value c < 16 → digit_value d < 16 → (digit_value c < digit_value d) ⊎ (digit_value d < digit_value c)
other_digit c d h p q = differ (digit_value c) (digit_value d) (λ e. h (same_digit c d p q e)) (dec_lt _ _)

-- different, by less than 256
abbrev Apart : ℕ → ℕ → Type 0
Apart m n = ((m < n) × (n < m + 256)) ⊎ ((n < m) × (m < n + 256))

apart_more : (x m n : ℕ) → Apart m n → Apart (x + m) (x + n)
apart_more x m n (inl p) = inl (omega arith)
apart_more x m n (inr p) = inr (omega arith)

apart : {l l' : List ℕ} → OneAltered l l' → Pairs l → Pairs l' → Apart (total (octets_of l)) (total (octets_of l'))
apart (this {t = []} h) p q = absurd p
apart (this {b = a} {b' = a'} {t = c ∷ l} h) p q =
    ⊎_elim (λ k. inl (omega arith)) (λ k. inr (omega arith)) (other_digit a a' h p.0 q.0)
apart (next (this {b = a} {b' = a'} {t = l} h)) p q =
    ⊎_elim (λ k. inl (omega arith)) (λ k. inr (omega arith)) (other_digit a a' h p.1 q.1)
apart (next (next {t = l} {t' = l'} o)) p q = apart_more _ (total (octets_of l)) (total (octets_of l')) (apart o p.2 q.2)

-- ---- well framed characters

record LineFramed (l : List ℕ) : Type 0 where
  are : Pairs l
  long : at (octets_of l) 0 + 3 ≡ length (octets_of l)
  adds : total (octets_of l) % 256 ≡ 0

line_framed : {t os : List ℕ} → Accepted t os → LineFramed (line_of t)
line_framed {t} {os} a =
    record {
      are = a.are;
      long = subst (λ (q : List ℕ). at q 0 + 3 ≡ length q) (sym a.read) a.long;
      adds = subst (λ (q : List ℕ). total q % 256 ≡ 0) (sym a.read) a.adds;
    }

-- the length octet stands first, so no line is the start of another
no_prefix : (u : List ℕ) (b : ℕ) (v : List ℕ) → LineFramed u → LineFramed (u ++ b ∷ v) → ⊥
no_prefix [] b v g h = let e = g.long in omega arith
no_prefix (a ∷ []) b v g h = g.are
no_prefix (a ∷ c ∷ u) b v g h =
    let l = pairs_even (a ∷ c ∷ u) g.are in
    let m = pairs_even (a ∷ c ∷ (u ++ b ∷ v)) h.are in
    omega (arith, g.long, h.long, length-append u (b ∷ v))

-- ---- how one altered byte changes a text's first line: l, l' before and after; r, r' what follows; e whether it has an end afterwards
data Change : List ℕ → List ℕ → List ℕ → List ℕ → Bool → Type 0 where
  inside : {l l' r r' : List ℕ} {e : Bool} → OneAltered l l' → Change l l' r r' e
  cut : (u : List ℕ) (b : ℕ) (v : List ℕ) {r r' : List ℕ} {e : Bool} → Change (u ++ b ∷ v) u r r' e
  joined : (b : ℕ) {l r r' : List ℕ} {e : Bool} → Change l (l ++ b ∷ line_of r) r r' e
  after : {l r r' : List ℕ} → OneAltered r r' → Change l l r r' true

longer : (b : ℕ) {l l' r r' : List ℕ} {e : Bool} → Change l l' r r' e → Change (b ∷ l) (b ∷ l') r r' e
longer b (inside o) = inside (next o)
longer b (cut u c v) = cut (b ∷ u) c v
longer b (joined c) = joined c
longer b (after o) = after o

change : {t t' : List ℕ} → OneAltered t t' → ended t ≡ true → Change (line_of t) (line_of t') (rest_of t) (rest_of t') (ended t')
change (this {b} {b'} {t = s} h) = go (b == 0x0A) (b' == 0x0A) refl refl
  where
    go : (x y : Bool) → (b == 0x0A) ≡ x → (b' == 0x0A) ≡ y → cond x true (ended s) ≡ true
        → Change (cond x [] (b ∷ line_of s)) (cond y [] (b' ∷ line_of s)) (cond x s (rest_of s)) (cond y s (rest_of s)) (cond y true (ended s))
    go true true p q e = absurd (h (eqb-true _ _ p ∙ sym (eqb-true _ _ q)))
    go true false p q e = joined b'
    go false true p q e = cut [] b (line_of s)
    go false false p q e = inside (this h)
change (next {b} {t = s} {t' = s'} o) = go (b == 0x0A) (change o)
  where
    go : (x : Bool) → (ended s ≡ true → Change (line_of s) (line_of s') (rest_of s) (rest_of s') (ended s'))
        → cond x true (ended s) ≡ true
        → Change (cond x [] (b ∷ line_of s)) (cond x [] (b ∷ line_of s')) (cond x s (rest_of s)) (cond x s' (rest_of s'))
        (cond x true (ended s'))
    go true ih e = after o
    go false ih e = longer b (ih e)

-- the altered line is not well framed, or what follows it is altered
detected : {l l' r r' : List ℕ} {e : Bool} → Change l l' r r' e → LineFramed l → Pairs (line_of r)
    → (LineFramed l' → ⊥) ⊎ ((e ≡ true) × OneAltered r r')
detected (inside o) g p =
    inl (λ h. ⊎_elim (λ a. omega (arith, g.adds, h.adds)) (λ a. omega (arith, g.adds, h.adds)) (apart o g.are h.are))
detected (cut u b v) g p = inl (λ h. no_prefix u b v h g)
detected (joined b {l} {r}) g p =
    let n = length-append l (b ∷ line_of r) in
    inl (λ h. omega (arith, pairs_even l g.are, pairs_even (line_of r) p, pairs_even (l ++ b ∷ line_of r) h.are, n))
detected (after o) g p = inr (refl, o)

-- ---- all lines of a text

-- every line is well framed
data Whole : List ℕ → Type 0 where
  none : Whole []
  line : {t os : List ℕ} → Accepted t os → Whole (rest_of t) → Whole t

-- some line is refused
data Refused : List ℕ → Type 0 where
  here : {t : List ℕ} {k : ℕ} → 0 < length t → 1 ≤ k → k ≤ 3 → frame t ≡ refused k → Refused t
  later : {t : List ℕ} → 0 < length t → Refused (rest_of t) → Refused t

filled : {t t' : List ℕ} → OneAltered t t' → 0 < length t'
filled (this h) = omega arith
filled (next o) = omega arith

pairs_first : {t : List ℕ} → Whole t → Pairs (line_of t)
pairs_first none = tt
pairs_first (line a w) = a.are

caught : {t t' : List ℕ} → Whole t → OneAltered t t' → Refused t'
caught {t' = t'} none o = elim o [ ]
caught {t' = t'} (line a w) o =
    ⊎_elim
    (λ h. refusal h (frame_judged t'))
    (λ p. later (filled o) (caught w p.1))
    (detected (change o a.end) (line_framed a) (pairs_first w))
  where
    refusal : (LineFramed (line_of t') → ⊥) → LineJudged t' (frame t') → Refused t'
    refusal h (accepts f b) = absurd (h (line_framed b))
    refusal h (refuses f l k) = here (filled o) l k f

-- ---- the same, of `lines`

rest_le : (t : List ℕ) → length (rest_of t) ≤ length t
rest_le [] = omega arith
rest_le (b ∷ t) = go (b == 0x0A) (rest_le t)
  where
    go : (x : Bool) → length (rest_of t) ≤ length t → length (cond x t (rest_of t)) ≤ length (b ∷ t)
    go true h = omega arith
    go false h = omega arith

rest_less : (t : List ℕ) → 0 < length t → length (rest_of t) < length t
rest_less [] l = absurd (omega arith)
rest_less (b ∷ t) l = go (b == 0x0A)
  where
    go : (x : Bool) → length (cond x t (rest_of t)) < length (b ∷ t)
    go true = omega arith
    go false = let h = rest_le t in omega arith

-- the first line is whole, if all shorter texts are
whole_first : (n : ℕ) (t : List ℕ) → ((r : List ℕ) → length r ≤ n → well_framed r ≡ true → Whole r)
    → length t ≤ suc n → well_framed t ≡ true → Whole t
whole_first n [] ih l e = none
whole_first n (b ∷ t) ih l e =
    let s : 0 < length (b ∷ t) = omega arith in
    let r = rest_less (b ∷ t) s in
    let h = and_cases (is_accepted (frame (b ∷ t))) _ (subst (λ (ls : List Framed). every is_accepted ls ≡ true) (lines_cons (b ∷ t) s) e) in
    go (frame_judged (b ∷ t)) h.0 (ih (rest_of (b ∷ t)) (omega arith) h.1)
  where
    go : LineJudged (b ∷ t) (frame (b ∷ t)) → is_accepted (frame (b ∷ t)) ≡ true → Whole (rest_of (b ∷ t)) → Whole (b ∷ t)
    go (accepts f a) h w = line a w
    go (refuses f j k) h w = absurd (false≢true (sym (ap is_accepted f) ∙ h))

whole : (n : ℕ) (t : List ℕ) → length t ≤ n → well_framed t ≡ true → Whole t
whole zero [] l e = none
whole zero (b ∷ t) l e = absurd (omega arith)
whole (suc n) t l e = whole_first n t (whole n) l e

refused_line_lem : {t : List ℕ} → Refused t → has_refused_line t ≡ true
refused_line_lem (here {t} {k} s l h f) =
    ap (any is_refused) (lines_cons t s)
    ∙ ap (λ (x : Framed). is_refused x || has_refused_line (rest_of t)) f
    ∙ rw (le-leb 1 k l, le-leb k 3 h)
refused_line_lem (later {t} s r) = ap (any is_refused) (lines_cons t s) ∙ or_right (is_refused (frame t)) _ (refused_line_lem r)

-- THE THEOREM
pub one_altered_byte : (t t' : List ℕ) → well_framed t ≡ true → OneAltered t t' → has_refused_line t' ≡ true
one_altered_byte t t' w o = refused_line_lem (caught (whole (length t) t (omega arith) w) o)

-- so that an altered text is never taken for a well framed one
refused_not_whole : (ls : List Framed) → any is_refused ls ≡ true → every is_accepted ls ≡ false
refused_not_whole [] e = absurd (false≢true e)
refused_not_whole (refused k ∷ ls) e = refl
refused_not_whole (octets os ∷ ls) e = refused_not_whole ls e

pub never_well_framed : (t t' : List ℕ) → well_framed t ≡ true → OneAltered t t' → well_framed t' ≡ false
never_well_framed t t' w o = refused_not_whole (lines t') (one_altered_byte t t' w o)
