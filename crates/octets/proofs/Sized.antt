-- Reading a line of a size octet by octet: what the loop of `sized_line` keeps, and what the text is where it ends.
use Rattle.std.proofs.Common.{◌≡◌, ℕ, suc, ◌-◌, Some, None, take, subst₂, length-take-le, ◌+◌, ◌*◌, ◌%◌, ◌<◌, ◌≤◌, Bool, true, false, cond, ◌&&◌, eqb, ltb, ◌≢◌, List, [], ◌∷◌, ◌++◌, length, drop, set, sym, refl, ap, ◌∙◌, subst, arith, length-append, length-set, le-ltb, lt-ltb, eq-eqb, ne_eqb}
use native.Mathlib.Decide.{dec_lt, ℕ_discrete}
use lib.Bits.{bit_or, or_lt, or_add_and, and_le_l, and_le_r}
use lib.ListN.{get_or-append, take-append-drop}
use lib.Seq.{set_at, append_snoc}
use Rattle.common.specs.Lists.{at}
use Rattle.common.specs.ListLaws.{drop_one, drop_two}
use Rattle.octets.specs.Line.{digit_value, octet, pairs, octets_of, total, ended, line_of}
use Rattle.octets.specs.Line.{Framed, refused, octets, judged, frame}
use Rattle.octets.proofs.LineLaws.{next_line_lem}
use Rattle.octets.specs.Answers.{total_of_size, sized_at_end, HoldsLine}
use Rattle.octets.proofs.Running.{from_text, from, start, more, at_end, other, other₂, line_more, from_none, total_more}

-- ---- lines that are not of the size

-- so many octets are not of another size, accepted or not
judged_none : (size : ℕ) (os : List ℕ) → length os ≢ size → (b : Bool) → total_of_size size (cond b (judged os) (refused 1)) ≡ None
judged_none size os ne b = go b (eqb (at os 0 + 3) (length os)) (eqb (total os % 256) 0)
  where
    go : (b x y : Bool) → total_of_size size (cond b (cond x (cond y (octets os) (refused 3)) (refused 2)) (refused 1)) ≡ None
    go true true true = rw (ne_eqb (length os) size ne)
    go true true false = refl
    go true false y = refl
    go false x y = refl

-- a line that goes on after so many octets has more
from_longer : (size : ℕ) (os : List ℕ) → length os ≡ size → (e : Bool) (a : ℕ) (l : List ℕ) → total_of_size size (from os e (a ∷ l)) ≡ None
unfolding from
from_longer size os h e a [] = ap (total_of_size size) (from_none os e (a ∷ []) refl)
from_longer size os h e a (b ∷ l) =
    judged_none size (os ++ octets_of (a ∷ b ∷ l)) (λ z. omega (arith, length-append os (octets_of (a ∷ b ∷ l))))
    (e && (ltb 0 (length os + length (a ∷ b ∷ l)) && pairs (a ∷ b ∷ l)))

module _ (size : ℕ) (f : Framed) where
  -- a line that is not of the size leaves a room as it may be
  pub none_holds : total_of_size size f ≡ None → (before after : List ℕ) → HoldsLine size f before after
  none_holds e before after os g h = absurd (go (sym (ap (total_of_size size) g ∙ rw (eq-eqb (length os) size h)) ∙ e))
    where
      go : Some (total os) ≡ None → ⊥
      go q = let z : ◌≡◌ {A = ℕ} 0 1 = cc in omega arith

-- the text is too short
pub short_none : (size : ℕ) (t : List ℕ) → length t ≤ 2 * size → total_of_size size (frame t) ≡ None
short_none size t l = go (frame t) refl
  where
    go : (f : Framed) → frame t ≡ f → total_of_size size f ≡ None
    go (refused k) e = refl
    go (octets os) e = let n = (next_line_lem t e).0 in rw (ne_eqb (length os) size (λ z. omega arith))

-- ---- part of a line

-- of a text's first line n octets have been read and `left` is left, this is their plain sum, and they stand first in the room
pub record Part (text left : List ℕ) (n plain : ℕ) (before room : List ℕ) : Type 0 where
  pub os : List ℕ
  pub same : frame text ≡ from_text os left
  pub count : n ≡ length os
  pub adds : plain ≡ total os
  pub held : room ≡ os ++ drop n before

pub part_none : (text : List ℕ) (before : List ℕ) → Part text text 0 0 before before
part_none text before = record { os = []; same = start text; count = refl; adds = refl; held = refl }

module _ {text left : List ℕ} {n plain : ℕ} {before room : List ℕ} (p : Part text left n plain before room) where
  -- two bytes come off the front
  module _ {a b : ℕ} {later : List ℕ} (two : left ≡ a ∷ b ∷ later) where
    -- they are a pair of digits
    part_more : n < length before → digit_value a < 16 → digit_value b < 16 → {o : ℕ} → o ≡ octet a b
        → Part text later (n + 1) (plain + o) before (set room n o)
    part_more room_for la lb {o} e =
        record {
          os = p.os ++ o ∷ [];
          same =
              p.same ∙ ap (from_text p.os) two ∙ more p.os a b later la lb ∙ ap (λ (x : ℕ). from_text (p.os ++ x ∷ []) later) (sym e);
          count = omega (arith, p.count, length-append p.os (o ∷ []));
          adds = omega (arith, p.adds, total_more p.os o);
          held =
              ap (λ (r : List ℕ). set r n o) (p.held ∙ ap (λ (r : List ℕ). p.os ++ r) (drop_one before n room_for))
              ∙ set_at p.os _ (drop (n + 1) before) o n (sym p.count)
              ∙ sym (append_snoc p.os o (drop (n + 1) before));
        }

    -- they are none, and the line has not come to the size
    part_stops : {size : ℕ} → n < size → (digit_value a < 16 → digit_value b < 16 → ⊥) → total_of_size size (frame text) ≡ None
    part_stops {size} less no_pair = ap (total_of_size size) (p.same ∙ ap (from_text p.os) two) ∙ go (ℕ_discrete a 10)
      where
        go : Dec (a ≡ 10) → total_of_size size (from_text p.os (a ∷ b ∷ later)) ≡ None
        go (yes e) =
            ap (λ (c : ℕ). total_of_size size (from_text p.os (c ∷ b ∷ later))) e
            ∙ ap (total_of_size size) (at_end p.os (b ∷ later))
            ∙ judged_none size p.os (λ z. omega (arith, p.count)) (ltb 0 (length p.os))
        go (no ne) = first (dec_lt (digit_value a) 16)
          where
            first : Dec (digit_value a < 16) → total_of_size size (from_text p.os (a ∷ b ∷ later)) ≡ None
            first (yes d) =
                let q : digit_value b < 16 → ⊥ = no_pair d in
                ap (total_of_size size) (other₂ p.os a b later ne (omega arith))
            first (no d) = ap (total_of_size size) (other p.os a (b ∷ later) ne (omega arith))

  -- the line goes on
  pub part_longer : {a : ℕ} {later : List ℕ} → left ≡ a ∷ later → a ≢ 10 → total_of_size n (frame text) ≡ None
  part_longer {a} {later} e ne =
      ap (total_of_size n) (p.same ∙ ap (from_text p.os) e ∙ ap (from p.os (ended (a ∷ later))) (line_more a later ne))
      ∙ from_longer n p.os (sym p.count) _ a (line_of later)

  -- the line's end
  module _ {later : List ℕ} (e : left ≡ 10 ∷ later) where
    framed_here : frame text ≡ cond (ltb 0 (length p.os)) (judged p.os) (refused 1)
    framed_here = p.same ∙ ap (from_text p.os) e ∙ at_end p.os later

    -- what the line is, by its first octet and its plain sum
    pub part_total : sized_at_end n (at room 0) (plain % 256) plain ≡ total_of_size n (frame text)
    part_total = go (dec_lt 0 n) ∙ sym (ap (total_of_size n) framed_here)
      where
        by_tests : (x y : Bool)
            → cond x (cond y (Some (total p.os)) None) None ≡ total_of_size n (cond x (cond y (octets p.os) (refused 3)) (refused 2))
        by_tests true true = rw (eq-eqb (length p.os) n (sym p.count))
        by_tests true false = refl
        by_tests false y = refl

        go : Dec (0 < n)
            → sized_at_end n (at room 0) (plain % 256) plain ≡ total_of_size n (cond (ltb 0 (length p.os)) (judged p.os) (refused 1))
        go (yes h) =
            (λ i. sized_at_end (p.count i) (first_octet h i) (p.adds i % 256) (p.adds i))
            ∙ by_tests (eqb (at p.os 0 + 3) (length p.os)) (eqb (total p.os % 256) 0)
            ∙ rw (lt-ltb 0 (length p.os) (let c = p.count in let l : 0 < length p.os = omega arith in l))
          where
            first_octet : 0 < n → at room 0 ≡ at p.os 0
            first_octet h =
                ap (λ (r : List ℕ). at r 0) p.held ∙ get_or-append p.os (drop n before) 0 0 (let c = p.count in omega arith)
        go (no h) =
            let c = p.count in
            let l : length p.os ≤ 0 = omega arith in
            rw (ne_eqb (at room 0 + 3) n (λ z. omega arith), le-ltb 0 (length p.os) l)

    -- and it stands in the room
    pub part_holds : HoldsLine n (frame text) before room
    part_holds ps e h = p.held ∙ ap (λ (os : List ℕ). os ++ drop n before) (same_octets (sym framed_here ∙ e))
      where
        same_octets : cond (ltb 0 (length p.os)) (judged p.os) (refused 1) ≡ octets ps → p.os ≡ ps
        same_octets = go (ltb 0 (length p.os)) (eqb (at p.os 0 + 3) (length p.os)) (eqb (total p.os % 256) 0)
          where
            go : (b x y : Bool) → cond b (cond x (cond y (octets p.os) (refused 3)) (refused 2)) (refused 1) ≡ octets ps → p.os ≡ ps
            go true true true e = cc
            go true true false e = let z : ◌≡◌ {A = ℕ} 0 1 = cc in absurd (omega arith)
            go true false y e = let z : ◌≡◌ {A = ℕ} 0 1 = cc in absurd (omega arith)
            go false x y e = let z : ◌≡◌ {A = ℕ} 0 1 = cc in absurd (omega arith)

-- ---- the loop of `sized_line`

-- the mark has a bit of its own
or_left : (a b : ℕ) → a ≤ bit_or a b
or_left a b = omega (arith, or_add_and a b, and_le_r a b)

or_right : (a b : ℕ) → b ≤ bit_or a b
or_right a b = omega (arith, or_add_and a b, and_le_l a b)

-- n pairs of the text's first bytes have been gone through, and `left` is left of them: as long as no mark was met they are part of the
-- line, and once one was no line of the size stands there
pub record Sized (text left : List ℕ) (size n marks sum plain : ℕ) (before room : List ℕ) : Type 0 where
  pub few : length left + 2 * n ≡ 2 * size
  pub most : plain ≤ 255 * n
  pub wraps : sum ≡ plain % 256
  pub wide : length room ≡ length before
  pub good : marks < 16 → Part text (left ++ drop (2 * size) text) n plain before room
  pub bad : 16 ≤ marks → total_of_size size (frame text) ≡ None

pub sized_none : (text : List ℕ) (size : ℕ) (before : List ℕ) → 2 * size < length text
    → Sized text (take (2 * size) text) size 0 0 0 0 before before
sized_none text size before l =
    record {
      few = let h = length-take-le (2 * size) text (omega arith) in omega arith;
      most = omega arith;
      wraps = refl;
      wide = refl;
      good = λ m. subst (λ (t : List ℕ). Part text t 0 0 before before) (sym (take-append-drop (2 * size) text)) (part_none text before);
      bad = λ m. absurd (omega arith);
    }

module _ {text left : List ℕ} {size n marks sum plain : ℕ} {before room : List ℕ}
    (r : Sized text left size n marks sum plain before room) where
  pub sized_more : (pair : List ℕ) {later : List ℕ} → left ≡ pair ++ later → length pair ≡ 2 → size ≤ length before
      → {x y o t : ℕ} → x ≡ digit_value (at pair 0) → y ≡ digit_value (at pair 1) → o ≡ (x * 16 + y) % 256
      → t ≡ (sum + o) % 256
      → Sized text later size (n + 1) (bit_or marks (bit_or x y)) t (plain + o) before (set room n o)
  sized_more pair {later} joined long fits {x} {y} {o} ex ey eo et =
      record {
        few = omega (arith, r.few, few);
        most = omega (arith, r.most);
        wraps = omega (arith, r.wraps);
        wide = length-set room n o ∙ r.wide;
        good = λ l. part_more (r.good (marks_low l)) two (omega (arith, r.few, few))
            (subst (λ (z : ℕ). z < 16) ex (x_low l))
            (subst (λ (z : ℕ). z < 16) ey (y_low l))
            (eo ∙ octet_there (x_low l) (y_low l));
        bad = λ l. go l (dec_lt marks 16);
      }
    where
      few : length left ≡ 2 + length later
      few = ap length joined ∙ length-append pair later ∙ ap (λ (m : ℕ). m + length later) long

      pair_is : (p : List ℕ) → length p ≡ 2 → p ≡ at p 0 ∷ at p 1 ∷ []
      pair_is [] h = absurd (omega arith)
      pair_is (a ∷ []) h = absurd (omega arith)
      pair_is (a ∷ b ∷ []) h = refl
      pair_is (a ∷ b ∷ c ∷ p) h = absurd (omega arith)

      two : left ++ drop (2 * size) text ≡ at pair 0 ∷ at pair 1 ∷ (later ++ drop (2 * size) text)
      two = ap (λ (t : List ℕ). t ++ drop (2 * size) text) (joined ∙ ap (λ (p : List ℕ). p ++ later) (pair_is pair long))

      marks_low : bit_or marks (bit_or x y) < 16 → marks < 16
      marks_low l = omega (arith, or_left marks (bit_or x y))

      x_low : bit_or marks (bit_or x y) < 16 → x < 16
      x_low l = omega (arith, or_right marks (bit_or x y), or_left x y)

      y_low : bit_or marks (bit_or x y) < 16 → y < 16
      y_low l = omega (arith, or_right marks (bit_or x y), or_right x y)

      octet_there : x < 16 → y < 16 → (x * 16 + y) % 256 ≡ octet (at pair 0) (at pair 1)
      octet_there lx ly = (let z : (x * 16 + y) % 256 ≡ x * 16 + y = omega arith in z) ∙ (λ i. ex i * 16 + ey i)

      go : 16 ≤ bit_or marks (bit_or x y) → Dec (marks < 16) → total_of_size size (frame text) ≡ None
      go l (yes m) =
          part_stops (r.good m) two (omega (arith, r.few, few)) (λ a b.
          let i = subst (λ (z : ℕ). z < 16) (sym ex) a in
          let j = subst (λ (z : ℕ). z < 16) (sym ey) b in
          let h = or_lt 4 marks (bit_or x y) m (or_lt 4 x y i j) in
          omega arith)
      go l (no h) = r.bad (omega arith)

  -- all octets of the size have been gone through
  module _ (done : length left < 2) (long : 2 * size < length text) where
    -- and no mark was met
    whole : marks < 16 → Part text (drop (2 * size) text) size plain before room
    whole m =
        subst₂ (λ (k : ℕ) (t : List ℕ). Part text t k plain before room) (let z : n ≡ size = omega (arith, r.few) in z)
        (ap (λ (t : List ℕ). t ++ drop (2 * size) text) (none left (omega (arith, r.few)))) (r.good m)
      where
        none : (t : List ℕ) → length t ≡ 0 → t ≡ []
        none [] h = refl
        none (a ∷ t) h = absurd (omega arith)

    pub sized_other : (marks < 16 → at text (2 * size) ≢ 10) → total_of_size size (frame text) ≡ None
    sized_other ne = go (dec_lt marks 16)
      where
        go : Dec (marks < 16) → total_of_size size (frame text) ≡ None
        go (yes m) = part_longer (whole m) (drop_one text (2 * size) long) (ne m)
        go (no h) = r.bad (omega arith)

    module _ (m : marks < 16) (e : at text (2 * size) ≡ 10) where
      ends : drop (2 * size) text ≡ 10 ∷ drop (2 * size + 1) text
      ends = drop_one text (2 * size) long ∙ ap (λ (b : ℕ). b ∷ drop (2 * size + 1) text) e

      pub sized_total : sized_at_end size (at room 0) sum plain ≡ total_of_size size (frame text)
      sized_total = ap (λ (z : ℕ). sized_at_end size (at room 0) z plain) r.wraps ∙ part_total (whole m) ends

      pub sized_holds : HoldsLine size (frame text) before room
      sized_holds = part_holds (whole m) ends

-- what is left after n pairs of the text's first bytes, and the next of them
abbrev pub pairs_left : ℕ → ℕ → List ℕ → List ℕ
pairs_left size n text = take (2 * size - 2 * n) (drop (2 * n) text)

pub next_pair : (size n : ℕ) (text : List ℕ) → n < size → 2 * size < length text
    → pairs_left size n text ≡ (at text (2 * n) ∷ at text (2 * n + 1) ∷ []) ++ pairs_left size (n + 1) text
next_pair size n text l h =
    let e : 2 * size - 2 * n ≡ suc (suc (2 * size - 2 * (n + 1))) = omega arith in
    (λ i. take (e i) (drop_two text (2 * n) (omega arith) i))
    ∙ ap (λ (m : ℕ). at text (2 * n) ∷ at text (2 * n + 1) ∷ take (2 * size - 2 * (n + 1)) (drop m text)) (let z : 2 * n + 2 ≡ 2 * (n + 1) = omega arith in z)
