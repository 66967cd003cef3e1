-- Laws of `Line`: the digits' cases, what an accepted line is, where its octets and the next line stand.
use Rattle.std.specs.Prelude.{◌≡◌, ℕ, zero, suc, ◌+◌, ◌-◌, ◌*◌, ◌%◌, ◌<◌, ◌≤◌, Bool, true, false, cond, ◌&&◌, ◌⊎◌, List, [], ◌∷◌, ◌++◌, length, drop, ◌==◌, ◌≢◌, nat_le, nat_lt, refl}
use Rattle.std.proofs.Common.{sym, ◌∙◌, ap, subst, inl, inr, arith, suc-add, le_of_suc-le-suc, ltb-true, leb-true, eqb-true, le-leb, lt-ltb, eq-eqb}
use Rattle.std.proofs.lemmas.Bool.{false≢true, lt-leb}
use Rattle.common.specs.Lists.{at}
use Rattle.common.specs.BoolLaws.{and_cases}
use Rattle.octets.specs.Line.{digit_value, is_digit, pairs, octets_of, total, totals, line_of, rest_of, ended}
use Rattle.octets.specs.Line.{Framed, refused, octets, adds_to_zero, frame, starts, later_lines, lines}
use Rattle.octets.specs.Answers.{octet_of, octet_at}

-- ---- digits

pub value_number : (c : ℕ) → 48 ≤ c → c ≤ 57 → digit_value c ≡ c - 48
unfolding digit_value
value_number c h k = simp (le-leb 48 c h, le-leb c 57 k)

pub value_letter : (c : ℕ) → 65 ≤ c → c ≤ 70 → digit_value c ≡ c - 55
unfolding digit_value
value_letter c h k =
    simp (lt-leb c 57 (let l : 57 < c = omega arith in l), le-leb 48 c (let l : 48 ≤ c = omega arith in l), le-leb 65 c h, le-leb c 70 k)

pub value_below : (c : ℕ) → c < 48 → digit_value c ≡ 16
unfolding digit_value
value_below c h = simp (lt-leb 48 c h, lt-leb 65 c (let l : c < 65 = omega arith in l))

-- a digit is a number or a letter, with this value
abbrev pub DigitIs : ℕ → ℕ → Type 0
DigitIs c v = ((48 ≤ c) × (c ≤ 57) × (v ≡ c - 48)) ⊎ ((65 ≤ c) × (c ≤ 70) × (v ≡ c - 55))

pub digit_is : (c : ℕ) → digit_value c < 16 → DigitIs c (digit_value c)
unfolding digit_value
digit_is c = go (nat_le 48 c && nat_le c 57) (nat_le 65 c && nat_le c 70) refl refl
  where
    go : (x y : Bool) → nat_le 48 c && nat_le c 57 ≡ x → nat_le 65 c && nat_le c 70 ≡ y → cond x (c - 48) (cond y (c - 55) 16) < 16
        → DigitIs c (cond x (c - 48) (cond y (c - 55) 16))
    go true y e f l = let p = and_cases _ _ e in inl (leb-true _ _ p.0, leb-true _ _ p.1, refl)
    go false true e f l = let p = and_cases _ _ f in inr (leb-true _ _ p.0, leb-true _ _ p.1, refl)
    go false false e f l = absurd (omega arith)

-- the end of a line is no digit
pub not_end : (c : ℕ) → digit_value c < 16 → c ≢ 0x0A
unfolding digit_value
not_end c l e = let h : digit_value 0x0A < 16 = subst (λ (z : ℕ). digit_value z < 16) e l in omega arith

-- ---- pairs of digits

abbrev pub Pairs : List ℕ → Type 0
Pairs [] = Unit {0}
Pairs (a ∷ []) = ⊥
Pairs (a ∷ b ∷ l) = (digit_value a < 16) × (digit_value b < 16) × Pairs l

pairs_are : (l : List ℕ) → pairs l ≡ true → Pairs l
pairs_are [] e = tt
pairs_are (a ∷ []) e = absurd (false≢true e)
pairs_are (a ∷ b ∷ l) e =
    let p = and_cases (is_digit a) (is_digit b && pairs l) e in
    let q = and_cases (is_digit b) (pairs l) p.1 in
    (ltb-true _ _ p.0, ltb-true _ _ q.0, pairs_are l q.1)

pairs_true : (l : List ℕ) → Pairs l → pairs l ≡ true
pairs_true [] p = refl
pairs_true (a ∷ []) p = absurd p
pairs_true (a ∷ b ∷ l) p = rw (lt-ltb (digit_value a) 16 p.0, lt-ltb (digit_value b) 16 p.1) (pairs_true l p.2)

pub pairs_even : (l : List ℕ) → Pairs l → length l ≡ 2 * length (octets_of l)
pairs_even [] p = refl
pairs_even (a ∷ []) p = absurd p
pairs_even (a ∷ b ∷ l) p = let h = pairs_even l p.2 in omega arith

-- ---- accepted lines

-- the first line of t is accepted, with the octets os
pub record Accepted (t os : List ℕ) : Type 0 where
  pub end : ended t ≡ true
  pub are : Pairs (line_of t)
  pub read : octets_of (line_of t) ≡ os
  pub long : at os 0 + 3 ≡ length os
  pub adds : total os % 256 ≡ 0

-- the three tests of `frame`
abbrev test₁ : List ℕ → Bool
test₁ t = ended t && (nat_lt 0 (length (line_of t)) && pairs (line_of t))

abbrev test₂ : List ℕ → Bool
test₂ t = at (octets_of (line_of t)) 0 + 3 == length (octets_of (line_of t))

abbrev test₃ : List ℕ → Bool
test₃ t = adds_to_zero (octets_of (line_of t))

passed : (t : List ℕ) → test₁ t ≡ true → test₂ t ≡ true → test₃ t ≡ true → Accepted t (octets_of (line_of t))
passed t x y z =
    let p = and_cases (ended t) _ x in
    let q = and_cases (nat_lt 0 (length (line_of t))) (pairs (line_of t)) p.1 in
    record { end = p.0; are = pairs_are (line_of t) q.1; read = refl; long = eqb-true _ _ y; adds = eqb-true _ _ z }

-- what a line comes to
pub data LineJudged (t : List ℕ) (f : Framed) : Type 0 where
  accepts : {os : List ℕ} → f ≡ octets os → Accepted t os → LineJudged t f
  refuses : {k : ℕ} → f ≡ refused k → 1 ≤ k → k ≤ 3 → LineJudged t f

-- a line is accepted, or refused with 1, 2 or 3
pub frame_judged : (t : List ℕ) → LineJudged t (frame t)
unfolding frame
frame_judged t = go (test₁ t) (test₂ t) (test₃ t) refl refl refl
  where
    go : (x y z : Bool) → test₁ t ≡ x → test₂ t ≡ y → test₃ t ≡ z
        → LineJudged t (cond x (cond y (cond z (octets (octets_of (line_of t))) (refused 3)) (refused 2)) (refused 1))
    go true true true x y z = accepts refl (passed t x y z)
    go true true false x y z = refuses refl (omega arith) (omega arith)
    go true false c x y z = refuses refl (omega arith) (omega arith)
    go false b c x y z = refuses refl (omega arith) (omega arith)

pub accepted : {t os : List ℕ} → frame t ≡ octets os → Accepted t os
accepted {t} {os} e = go (frame_judged t)
  where
    go : LineJudged t (frame t) → Accepted t os
    go (accepts {os = ps} f a) = let q : ps ≡ os = cc in subst (Accepted t) q a
    go (refuses f l h) = let z : ◌≡◌ {A = ℕ} 0 1 = cc in absurd (omega arith)

pub refused_is : (t : List ℕ) {k : ℕ} → frame t ≡ refused k → (1 ≤ k) × (k ≤ 3)
refused_is t {k} e = go (frame_judged t)
  where
    go : LineJudged t (frame t) → (1 ≤ k) × (k ≤ 3)
    go (accepts f a) = let z : ◌≡◌ {A = ℕ} 0 1 = cc in absurd (omega arith)
    go (refuses {k = j} f l h) = let q : j ≡ k = cc in (omega arith, omega arith)

some_line : (l : List ℕ) → at (octets_of l) 0 + 3 ≡ length (octets_of l) → 0 < length l
some_line [] e = omega arith
some_line (a ∷ l) e = omega arith

pub accept : {t os : List ℕ} → Accepted t os → frame t ≡ octets os
unfolding frame
accept {t} {os} a =
    let long : at (octets_of (line_of t)) 0 + 3 ≡ length (octets_of (line_of t)) =
    subst (λ (q : List ℕ). at q 0 + 3 ≡ length q) (sym a.read) a.long in
    let adds : total (octets_of (line_of t)) % 256 ≡ 0 = subst (λ (q : List ℕ). total q % 256 ≡ 0) (sym a.read) a.adds in
    rw (
      a.end,
      lt-ltb 0 (length (line_of t)) (some_line (line_of t) long),
      pairs_true (line_of t) a.are,
      eq-eqb _ _ long,
      eq-eqb _ _ adds,
    )
    (ap octets a.read)

-- ---- where things stand

-- past the line l of the text t, and its end, stands r
abbrev Past : List ℕ → List ℕ → List ℕ → Type 0
Past t l r = (length l + 1 ≤ length t) × (drop (length l + 1) t ≡ r)

rest_at : (t : List ℕ) → ended t ≡ true → Past t (line_of t) (rest_of t)
rest_at [] e = absurd (false≢true e)
rest_at (b ∷ t) e₀ = go (b == 0x0A) (rest_at t) e₀
  where
    go : (x : Bool) → (ended t ≡ true → Past t (line_of t) (rest_of t)) → cond x true (ended t) ≡ true
        → Past (b ∷ t) (cond x [] (b ∷ line_of t)) (cond x t (rest_of t))
    go true ih e = (omega arith, refl)
    go false ih e = let h = ih e in (omega arith, rw suc-add h.1)

-- the next line starts past two characters for each octet and the end
pub next_line_lem : (t : List ℕ) {os : List ℕ} → frame t ≡ octets os → (2 * length os + 1 ≤ length t) × (drop (2 * length os + 1) t ≡ rest_of t)
next_line_lem t {os} e =
    let a = accepted e in
    let r = rest_at t a.end in
    let l : length (line_of t) ≡ 2 * length os = pairs_even (line_of t) a.are ∙ ap (λ (q : List ℕ). 2 * length q) a.read in
    (omega arith, subst (λ (k : ℕ). drop (k + 1) t ≡ rest_of t) l r.1)

line_at : (t : List ℕ) (j : ℕ) → j < length (line_of t) → at (line_of t) j ≡ at t j
line_at [] j l = absurd (omega arith)
line_at (b ∷ t) j l = go (b == 0x0A) j (line_at t) l
  where
    go : (x : Bool) (i : ℕ) → ((m : ℕ) → m < length (line_of t) → at (line_of t) m ≡ at t m) → i < length (cond x [] (b ∷ line_of t))
        → at (cond x [] (b ∷ line_of t)) i ≡ at (b ∷ t) i
    go true i ih h = absurd (omega arith)
    go false zero ih h = refl
    go false (suc i) ih h = ih i (le_of_suc-le-suc h)

octet_of_line : (l : List ℕ) (k : ℕ) → Pairs l → k < length (octets_of l) → octet_at l k ≡ at (octets_of l) k
unfolding octet_at octet_of
octet_of_line [] k p l = absurd (omega arith)
octet_of_line (a ∷ []) k p l = absurd p
octet_of_line (a ∷ b ∷ l) zero p h = rw (lt-ltb (digit_value a) 16 p.0, lt-ltb (digit_value b) 16 p.1)
octet_of_line (a ∷ b ∷ l) (suc k) p h =
    let e : 2 * suc k ≡ suc (suc (2 * k)) = omega arith in
    let f : 2 * suc k + 1 ≡ suc (suc (2 * k + 1)) = omega arith in
    rw (f, e) (octet_of_line l k p.2 (le_of_suc-le-suc h))

-- the octets of an accepted line are read two characters at a time
pub octet_at_lem : (t : List ℕ) {os : List ℕ} (k : ℕ) → frame t ≡ octets os → k < length os → octet_at t k ≡ at os k
unfolding octet_at
octet_at_lem t {os} k e h =
    let a = accepted e in
    let m : k < length (octets_of (line_of t)) = subst (λ (q : List ℕ). k < length q) (sym a.read) h in
    let n = pairs_even (line_of t) a.are in
    let u = line_at t (2 * k) (omega arith) in
    let w = line_at t (2 * k + 1) (omega arith) in
    (λ i. octet_of (sym u i) (sym w i)) ∙ octet_of_line (line_of t) k a.are m ∙ ap (λ (q : List ℕ). at q k) a.read

-- ---- the lines one by one

later : (t : List ℕ) → later_lines t ≡ lines (rest_of t)
unfolding lines
later [] = refl
later (b ∷ t) = go (b == 0x0A) (later t)
  where
    go : (x : Bool) → later_lines t ≡ lines (rest_of t) → cond x (starts t (later_lines t)) (later_lines t) ≡ lines (cond x t (rest_of t))
    go true e = refl
    go false e = e

pub lines_none : lines [] ≡ []
unfolding lines
lines_none = refl

-- the first line is framed, and the lines of the rest follow
pub lines_cons : (t : List ℕ) → 0 < length t → lines t ≡ frame t ∷ lines (rest_of t)
unfolding lines
lines_cons [] l = absurd (omega arith)
lines_cons (b ∷ t) l = ap (λ (ls : List Framed). frame (b ∷ t) ∷ ls) (later (b ∷ t))

-- ---- the plain sum of lines

pub totals_append : (ls ms : List (List ℕ)) → totals (ls ++ ms) ≡ totals ls + totals ms
totals_append [] ms = omega arith
totals_append (os ∷ ls) ms = omega (arith, totals_append ls ms)
