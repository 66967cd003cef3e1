-- Reading a line octet by octet: what the line is once the octets `os` have been read and the text `t` is left.
use Rattle.std.proofs.Common.{◌≡◌, ℕ, suc, min, Some, None, ltb-true, ltb-false, ◌+◌, ◌*◌, ◌%◌, ◌^◌, ◌<◌, ◌≤◌, Bool, true, false, cond, ◌&&◌, eqb, ltb, ◌≢◌, ◌⊎◌, List, [], ◌∷◌, ◌++◌, length, sym, refl, ap, ◌∙◌, inl, inr, ⊎_elim, append_assoc, append-nil, add-zero, zero-add, arith, length-append, le-ltb, lt-ltb, ne_eqb, eqb-true}
use Rattle.common.specs.Lists.{at}
use Rattle.common.specs.BoolLaws.{and_false}
use Rattle.common.specs.Refusals.{wrong_characters, wrong_length, wrong_sum}
use Rattle.octets.specs.Line.{digit_value, is_digit, octet, line_of, ended, pairs, octets_of, total}
use Rattle.octets.specs.Line.{Framed, refused, octets, judged, frame}
use Rattle.octets.proofs.LineLaws.{not_end}
use Rattle.octets.specs.Answers.{refused_with, accepted_with, framed_values, values_at_end, pair_octet}

-- a line l of which the octets os have been read already; e says whether it has an end
unfoldable pub from : List ℕ → Bool → List ℕ → Framed
from os e l = cond (e && (ltb 0 (length os + length l) && pairs l)) (judged (os ++ octets_of l)) (refused 1)

-- and at the text t
abbrev pub from_text : List ℕ → List ℕ → Framed
from_text os t = from os (ended t) (line_of t)

pub line_more : (a : ℕ) (t : List ℕ) → a ≢ 10 → line_of (a ∷ t) ≡ a ∷ line_of t
line_more a t h = rw (ne_eqb a 10 h)

ended_more : (a : ℕ) (t : List ℕ) → a ≢ 10 → ended (a ∷ t) ≡ ended t
ended_more a t h = rw (ne_eqb a 10 h)

last_false : (x y z : Bool) → z ≡ false → x && (y && z) ≡ false
last_false true true z e = e
last_false true false z e = refl
last_false false y z e = refl

pub from_none : (os : List ℕ) (e : Bool) (l : List ℕ) → pairs l ≡ false → from os e l ≡ refused 1
unfolding from
from_none os e l h = rw (last_false e (ltb 0 (length os + length l)) (pairs l) h)

from_pair : (os : List ℕ) (e : Bool) (a b : ℕ) (l : List ℕ) → digit_value a < 16 → digit_value b < 16
    → from os e (a ∷ b ∷ l) ≡ from (os ++ octet a b ∷ []) e l
unfolding from
from_pair os e a b l la lb =
    let o = octet a b in
    let some : ltb 0 (length os + suc (suc (length l))) ≡ ltb 0 (length (os ++ o ∷ []) + length l) =
    lt-ltb 0 (length os + suc (suc (length l))) (omega arith)
    ∙ sym (lt-ltb 0 (length (os ++ o ∷ []) + length l) (omega (arith, length-append os (o ∷ [])))) in
    let ok : pairs (a ∷ b ∷ l) ≡ pairs l = rw (lt-ltb (digit_value a) 16 la, lt-ltb (digit_value b) 16 lb) in
    let list : os ++ (o ∷ octets_of l) ≡ (os ++ o ∷ []) ++ octets_of l = sym (append_assoc os (o ∷ []) (octets_of l)) in
    λ i. cond (e && (some i && ok i)) (judged (list i)) (refused 1)

-- ---- at a text

pub start : (t : List ℕ) → frame t ≡ from_text [] t
unfolding frame from
start t = simp zero-add

no_text : (os : List ℕ) → from_text os [] ≡ refused 1
unfolding from
no_text os = refl

pub more : (os : List ℕ) (a b : ℕ) (t : List ℕ) → digit_value a < 16 → digit_value b < 16
    → from_text os (a ∷ b ∷ t) ≡ from_text (os ++ octet a b ∷ []) t
more os a b t la lb =
    let ha = not_end a la in
    let hb = not_end b lb in
    rw (ended_more a (b ∷ t) ha, ended_more b t hb, line_more a (b ∷ t) ha, line_more b t hb) (from_pair os (ended t) a b (line_of t) la lb)

pub at_end : (os t : List ℕ) → from_text os (10 ∷ t) ≡ cond (ltb 0 (length os)) (judged os) (refused 1)
unfolding from
at_end os t = simp (append-nil, add-zero) (go (ltb 0 (length os)))
  where
    go : (x : Bool) → cond (x && true) (judged os) (refused 1) ≡ cond x (judged os) (refused 1)
    go true = refl
    go false = refl

no_digit : (a : ℕ) (l : List ℕ) → 16 ≤ digit_value a → pairs (a ∷ l) ≡ false
no_digit a [] h = refl
no_digit a (b ∷ l) h = rw (le-ltb (digit_value a) 16 h)

no_digit₂ : (a b : ℕ) (l : List ℕ) → 16 ≤ digit_value b → pairs (a ∷ b ∷ l) ≡ false
no_digit₂ a b l h = rw (le-ltb (digit_value b) 16 h) (and_false (is_digit a))

pub other : (os : List ℕ) (a : ℕ) (t : List ℕ) → a ≢ 10 → 16 ≤ digit_value a → from_text os (a ∷ t) ≡ refused 1
other os a t ne h = rw (line_more a t ne) (from_none os _ (a ∷ line_of t) (no_digit a (line_of t) h))

short : (os : List ℕ) (a : ℕ) → a ≢ 10 → from_text os (a ∷ []) ≡ refused 1
short os a ne = rw (line_more a [] ne) (from_none os _ (a ∷ []) refl)

pub other₂ : (os : List ℕ) (a b : ℕ) (t : List ℕ) → a ≢ 10 → 16 ≤ digit_value b → from_text os (a ∷ b ∷ t) ≡ refused 1
other₂ os a b t ne h = rw (line_more a (b ∷ t) ne) (from_none os _ _ (go (eqb b 10)))
  where
    go : (x : Bool) → pairs (a ∷ cond x [] (b ∷ line_of t)) ≡ false
    go true = refl
    go false = no_digit₂ a b (line_of t) h

-- ---- the loop of `read_line`

-- n octets of a text have been read and the text `left` is left, with this first one, this sum modulo 256 and this plain sum modulo 2^64
pub record Run (text left : List ℕ) (n first sum plain : ℕ) : Type 0 where
  pub os : List ℕ
  pub same : frame text ≡ from_text os left
  pub count : n ≡ length os
  pub head : first ≡ at os 0
  pub low : first < 256
  pub adds : sum ≡ total os % 256
  pub whole : plain ≡ total os % 2 ^ 64
  pub most : total os ≤ 255 * length os

pub run_start : (t : List ℕ) → Run t t 0 0 0 0
run_start t =
    record { os = []; same = start t; count = refl; head = refl; low = omega arith; adds = refl; whole = refl; most = omega arith }

pub total_more : (os : List ℕ) (x : ℕ) → total (os ++ x ∷ []) ≡ total os + x
total_more [] x = omega arith
total_more (o ∷ os) x = let h = total_more os x in omega arith

head_more : (os : List ℕ) (x : ℕ) → ((length os ≡ 0) × (at (os ++ x ∷ []) 0 ≡ x)) ⊎ ((0 < length os) × (at (os ++ x ∷ []) 0 ≡ at os 0))
head_more [] x = inl (refl, refl)
head_more (o ∷ os) x = inr (omega arith, refl)

-- two bytes come off the front of what is left, and only one where there are no more
pub record Taken (left pair later : List ℕ) : Type 0 where
  pub joined : left ≡ pair ++ later
  pub long : length pair ≡ min 2 (length left)
  pub some : 0 < length left

-- as `chunks` takes them
pub taken : {left pair later : List ℕ} {n : ℕ} → n ≡ 2
    → (left ≡ pair ++ later) × (length pair ≡ min n (length left)) × (0 < length left) → Taken left pair later
taken {left = left} e h = record { joined = h.0; long = h.1 ∙ ap (λ (m : ℕ). min m (length left)) e; some = h.2 }

-- a pair of digits
pub record Digits (pair : List ℕ) (o : ℕ) : Type 0 where
  pub a : ℕ
  pub b : ℕ
  pub is : pair ≡ a ∷ b ∷ []
  pub high : digit_value a < 16
  pub low : digit_value b < 16
  pub octet : o ≡ octet a b

pub digits_some : (pair : List ℕ) {o : ℕ} → pair_octet pair ≡ Some o → Digits pair o
digits_some [] e = absurd (let z : ◌≡◌ {A = ℕ} 0 1 = cc in omega arith)
digits_some (a ∷ []) e = absurd (let z : ◌≡◌ {A = ℕ} 0 1 = cc in omega arith)
digits_some (a ∷ b ∷ c ∷ l) e = absurd (let z : ◌≡◌ {A = ℕ} 0 1 = cc in omega arith)
digits_some (a ∷ b ∷ []) {o} e = go (is_digit a) (is_digit b) refl refl e
  where
    go : (x y : Bool) → is_digit a ≡ x → is_digit b ≡ y → cond (x && y) (Some (octet a b)) None ≡ Some o → Digits (a ∷ b ∷ []) o
    go true true p q f = record { a = a; b = b; is = refl; high = ltb-true _ _ p; low = ltb-true _ _ q; octet = cc }
    go true false p q f = absurd (let z : ◌≡◌ {A = ℕ} 0 1 = cc in omega arith)
    go false y p q f = absurd (let z : ◌≡◌ {A = ℕ} 0 1 = cc in omega arith)

module _ {text left : List ℕ} {n first sum plain : ℕ} (r : Run text left n first sum plain) where
  -- the text is at its end
  pub run_out : length left ≡ 0 → frame text ≡ refused 1
  run_out l = r.same ∙ go left l
    where
      go : (t : List ℕ) → length t ≡ 0 → from_text r.os t ≡ refused 1
      go [] l = no_text r.os
      go (a ∷ t) l = absurd (omega arith)

  module _ {pair later : List ℕ} (t : Taken left pair later) where
    -- a pair of digits is read
    pub run_more : {o : ℕ} (first' : ℕ) → pair_octet pair ≡ Some o
        → ((n ≡ 0) × (first' ≡ o)) ⊎ ((n ≢ 0) × (first' ≡ first))
        → Run text later (n + 1) first' ((sum + o) % 256) ((plain + o) % 2 ^ 64)
    run_more {o} first' e f =
        let d = digits_some pair e in
        let h = head_more r.os o in
        record {
          os = r.os ++ o ∷ [];
          same =
              r.same ∙ ap (from_text r.os) (t.joined ∙ ap (λ (p : List ℕ). p ++ later) d.is)
              ∙ more r.os d.a d.b later d.high d.low
              ∙ ap (λ (x : ℕ). from_text (r.os ++ x ∷ []) later) (sym d.octet);
          count = omega (arith, r.count, length-append r.os (o ∷ []));
          head = ⊎_elim
              (λ p. ⊎_elim (λ q. p.1 ∙ sym q.1) (λ q. absurd (let c = r.count in omega arith)) h)
              (λ p. ⊎_elim (λ q. absurd (p.0 (r.count ∙ q.0))) (λ q. p.1 ∙ r.head ∙ sym q.1) h)
              f;
          low = ⊎_elim (λ p. let l = d.high in let m = d.low in omega (arith, d.octet)) (λ p. let l = r.low in omega arith) f;
          adds = omega (arith, r.adds, total_more r.os o);
          whole = omega (arith, r.whole, total_more r.os o);
          most = let l = d.high in let m = d.low in omega (arith, r.most, d.octet, total_more r.os o, length-append r.os (o ∷ []));
        }

    -- no pair of digits stands there, and it isn't the line's end
    pub run_other : pair_octet pair ≡ None → at pair 0 ≢ 10 → frame text ≡ refused 1
    run_other e ne =
        let j = ap length t.joined in
        r.same ∙ ap (from_text r.os) t.joined ∙ go pair later e ne (omega (arith, j, t.long)) (omega (arith, j, t.some))
      where
        two : (a b : ℕ) (l : List ℕ) → a ≢ 10 → (x y : Bool) → is_digit a ≡ x → is_digit b ≡ y
            → cond (x && y) (Some (octet a b)) None ≡ None → from_text r.os (a ∷ b ∷ l) ≡ refused 1
        two a b l ne true true p q e = absurd (let z : ◌≡◌ {A = ℕ} 0 1 = cc in omega arith)
        two a b l ne true false p q e = other₂ r.os a b l ne (ltb-false _ _ q)
        two a b l ne false y p q e = other r.os a (b ∷ l) ne (ltb-false _ _ p)

        go : (p l : List ℕ) → pair_octet p ≡ None → at p 0 ≢ 10 → length p ≡ min 2 (length (p ++ l)) → 0 < length (p ++ l)
            → from_text r.os (p ++ l) ≡ refused 1
        go [] l e ne h some = absurd (omega arith)
        go (a ∷ []) [] e ne h some = short r.os a ne
        go (a ∷ []) (b ∷ l) e ne h some = absurd (omega arith)
        go (a ∷ b ∷ []) l e ne h some = two a b l ne (is_digit a) (is_digit b) refl refl e
        go (a ∷ b ∷ c ∷ p) l e ne h some = absurd (omega arith)

    -- the line's end
    pub run_end : (offset : ℕ) → at pair 0 ≡ 10
        → values_at_end n first sum (offset + 2 * n + 1) plain ≡ framed_values offset (frame text)
    unfolding values_at_end
    run_end offset e =
        let f : frame text ≡ cond (ltb 0 (length r.os)) (judged r.os) (refused wrong_characters) =
        r.same ∙ ap (from_text r.os) t.joined ∙ ended_here pair later e (let j = ap length t.joined in omega (arith, t.long, t.some)) in
        (λ j. values_at_end (r.count j) (r.head j) (r.adds j) (offset + 2 * r.count j + 1) plain)
        ∙ pick r.os plain (eqb (at r.os 0 + 3) (length r.os)) (eqb (total r.os % 256) 0) (λ t. exact (eqb-true _ _ t))
        ∙ ap (framed_values offset) (sym f)
      where
        ended_here : (p l : List ℕ) → at p 0 ≡ 10 → 0 < length p
            → from_text r.os (p ++ l) ≡ cond (ltb 0 (length r.os)) (judged r.os) (refused wrong_characters)
        ended_here [] l e h = absurd (omega arith)
        ended_here (a ∷ p) l e h = ap (λ (b : ℕ). from_text r.os (b ∷ p ++ l)) e ∙ at_end r.os (p ++ l)

        -- a line that is not too long has a sum that fits
        exact : at r.os 0 + 3 ≡ length r.os → plain ≡ total r.os
        exact h = omega (arith, r.head, r.low, r.whole, r.most)

        some : (os : List ℕ) → ltb 0 (suc (length os)) ≡ true
        some os = lt-ltb 0 (suc (length os)) (omega arith)

        none : (os : List ℕ) → eqb (suc (length os)) 0 ≡ false
        none os = ne_eqb (suc (length os)) 0 (λ z. omega arith)

        pick : (os : List ℕ) (p : ℕ) (y z : Bool) → (y ≡ true → p ≡ total os)
            → cond (eqb (length os) 0)
            (refused_with wrong_characters)
            (cond y (cond z (accepted_with (length os) (offset + 2 * length os + 1) p) (refused_with wrong_sum)) (refused_with wrong_length))
            ≡ framed_values offset (cond (ltb 0 (length os))
            (cond y (cond z (octets os) (refused wrong_sum)) (refused wrong_length))
            (refused wrong_characters))
        pick [] p y z h = refl
        pick (o ∷ os) p true true h =
            rw (some os, none os) (ap (accepted_with (length (o ∷ os)) (offset + 2 * length (o ∷ os) + 1)) (h refl))
        pick (o ∷ os) p true false h = rw (some os, none os)
        pick (o ∷ os) p false z h = rw (some os, none os)
