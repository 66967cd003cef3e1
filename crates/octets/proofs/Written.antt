-- Writing a line octet by octet: the digits of the octets written so far stand first, and the rest of the buffer is as it was.
use Rattle.std.proofs.Common.{◌≡◌, ℕ, ◌+◌, ◌*◌, ◌/◌, ◌%◌, ◌<◌, ◌≤◌, Bool, true, false, leb, List, [], ◌∷◌, ◌++◌, length, take, drop, set, sym, refl, ap, ◌∙◌, subst, subst₂, append_assoc, add-one, arith, length-append, length-take-le, take-suc, le-leb}
use lib.Seq.{set_at, append_snoc, take-length}
use borrow.Author.Tests.{lt-leb}
use Rattle.common.specs.Lists.{at}
use Rattle.common.specs.ListLaws.{drop_one, drop_two}
use Rattle.octets.specs.Line.{total, digit, digits, check, framed, line_bytes}
use Rattle.octets.proofs.WritingLaws.{length_digits, length_framed, length_line, total_append}
use Rattle.octets.specs.Answers.{placed, has_room, written_length, written_buffer}

pub record WrittenOctets (os before after : List ℕ) : Type 0 where
  pub holds : after ≡ digits os ++ drop (2 * length os) before

pub octets_none : (b : List ℕ) → WrittenOctets [] b b
octets_none b = record { holds = refl }

digits_append : (os ps : List ℕ) → digits (os ++ ps) ≡ digits os ++ digits ps
digits_append [] ps = refl
digits_append (o ∷ os) ps = ap (λ (l : List ℕ). digit (o / 16) ∷ digit (o % 16) ∷ l) (digits_append os ps)

-- both digits go in after p
put_two : (p : List ℕ) (x y d e : ℕ) (r : List ℕ) (n : ℕ) → length p ≡ n → set (set (p ++ x ∷ y ∷ r) n d) (n + 1) e ≡ p ++ d ∷ e ∷ r
put_two p x y d e r n l =
    ap (λ (m : List ℕ). set m (n + 1) e) (set_at p x (y ∷ r) d n l ∙ sym (append_snoc p d (y ∷ r)))
    ∙ set_at (p ++ (d ∷ [])) y r e (n + 1) (omega (arith, length-append p (d ∷ [])))
    ∙ append_assoc p (d ∷ []) (e ∷ r)

-- one octet more
pub octets_more : (os : List ℕ) (o offset : ℕ) {b a : List ℕ} → offset ≡ 2 * length os → offset + 1 < length b
    → WrittenOctets os b a → WrittenOctets (os ++ o ∷ []) b (placed a offset o)
octets_more os o offset {b} {a} e l w =
    let d = digit (o / 16) in
    let f = digit (o % 16) in
    let n : 2 * length (os ++ o ∷ []) ≡ 2 * length os + 2 = omega (arith, length-append os (o ∷ [])) in
    record {
      holds =
          (λ i. placed ((w.holds ∙ ap (λ (r : List ℕ). digits os ++ r) (drop_two b (2 * length os) (omega arith))) i) (e i) o)
          ∙ put_two (digits os) _ _ d f (drop (2 * length os + 2) b) (2 * length os) (length_digits os)
          ∙ sym (append_assoc (digits os) (d ∷ f ∷ []) (drop (2 * length os + 2) b))
          ∙ sym (λ i. digits_append os (o ∷ []) i ++ drop (n i) b);
    }

-- the bytes of a line, and past them the buffer as it was
abbrev line_in : List ℕ → List ℕ → List ℕ
line_in os buffer = line_bytes os ++ drop (length (line_bytes os)) buffer

-- the line's end
pub octets_end : (os : List ℕ) (offset : ℕ) {b a : List ℕ} → offset ≡ 2 * length os → offset < length b
    → WrittenOctets os b a → set a offset 0x0A ≡ line_in os b
octets_end os offset {b} {a} e l w =
    let n : length (line_bytes os) ≡ 2 * length os + 1 = omega (arith, length-append (digits os) (0x0A ∷ []), length_digits os) in
    (λ i. set ((w.holds ∙ ap (λ (r : List ℕ). digits os ++ r) (drop_one b (2 * length os) (omega arith))) i) (e i) 0x0A)
    ∙ set_at (digits os) _ (drop (2 * length os + 1) b) 0x0A (2 * length os) (length_digits os)
    ∙ sym (append_assoc (digits os) (0x0A ∷ []) (drop (2 * length os + 1) b))
    ∙ ap (λ (m : ℕ). line_bytes os ++ drop m b) (sym n)

-- ---- the loop of `write_line`

-- the length, the kind and k octets of the body have been written
pub record BodyWritten (kind : ℕ) (body entry buffer : List ℕ) (sum k : ℕ) : Type 0 where
  pub within : k ≤ length body
  pub adds : sum ≡ total (length body ∷ kind ∷ take k body) % 256
  pub holds : WrittenOctets (length body ∷ kind ∷ take k body) entry buffer

module _ (kind : ℕ) (body entry : List ℕ) (room : 2 * length body + 7 ≤ length entry) where
  -- the length and the kind come first
  pub body_none : {a b : List ℕ} {sum : ℕ} → a ≡ placed entry 0 (length body) → b ≡ placed a 2 kind → sum ≡ (length body + kind) % 256
      → BodyWritten kind body entry b sum 0
  body_none {a} {b} e f g =
      let w : WrittenOctets (length body ∷ []) entry a =
      subst (WrittenOctets (length body ∷ []) entry) (sym e) (octets_more [] (length body) 0 refl (omega arith) (octets_none entry)) in
      record {
        within = omega arith;
        adds = omega arith;
        holds = subst (WrittenOctets (length body ∷ kind ∷ []) entry) (sym f) (octets_more (length body ∷ []) kind 2 refl (omega arith) w);
      }

  module _ {buffer : List ℕ} {sum k : ℕ} (w : BodyWritten kind body entry buffer sum k) where
    pub body_more : {after : List ℕ} {sum' : ℕ} → k < length body → after ≡ placed buffer (2 * k + 4) (at body k)
        → sum' ≡ (sum + at body k) % 256 → BodyWritten kind body entry after sum' (k + 1)
    body_more {after} {sum'} l e f =
        let t : take (k + 1) body ≡ take k body ++ (at body k ∷ []) = rw (add-one, take-suc body k 0 l) in
        let m = length-take-le k body (omega arith) in
        record {
          within = omega arith;
          adds = omega (arith, w.adds, f, ap total t, total_append (take k body) (at body k ∷ []));
          holds =
              subst₂ (λ (x y : List ℕ). WrittenOctets (length body ∷ kind ∷ x) entry y) (sym t) (sym e)
              (octets_more (length body ∷ kind ∷ take k body) (at body k) (2 * k + 4) (omega arith) (omega arith) w.holds);
        }

    -- the check octet and the line's end finish the line
    pub body_end : (r : ℕ) → length body ≤ k → (r + sum) % 256 ≡ 0 → r < 256
        → set (placed buffer (2 * length body + 4) r) (2 * length body + 6) 0x0A ≡ line_in (framed kind body) entry
    unfolding framed
    body_end r h z l =
        let t : take k body ≡ body = ap (λ (j : ℕ). take j body) (let e : k ≡ length body = omega (arith, w.within) in e) ∙ take-length body in
        let u : WrittenOctets (length body ∷ kind ∷ body) entry buffer =
        subst (λ (x : List ℕ). WrittenOctets (length body ∷ kind ∷ x) entry buffer) t w.holds in
        let c : r ≡ check (total (length body ∷ kind ∷ body)) = omega (arith, w.adds, ap total t) in
        octets_end (framed kind body) (2 * length body + 6) (omega (arith, length_framed kind body)) (omega arith)
        (subst (λ (x : ℕ). WrittenOctets ((length body ∷ kind ∷ body) ++ (x ∷ [])) entry (placed buffer (2 * length body + 4) r)) c
        (octets_more (length body ∷ kind ∷ body) r (2 * length body + 4) (omega arith) (omega arith) u))

-- ---- what is answered

module _ (kind : ℕ) (body buffer : List ℕ) where
  room_is : (b : Bool) → length body ≤ 255 → leb (2 * length body + 7) (length buffer) ≡ b → has_room kind body buffer ≡ b
  room_is b l e = rw (le-leb (length body) 255 l) (ap (λ (n : ℕ). leb n (length buffer)) (length_line kind body) ∙ e)

  -- n bytes are answered, and the buffer then is `after`
  abbrev Answers : ℕ → List ℕ → Type 0
  Answers n after = (n ≡ written_length kind body buffer) × (after ≡ written_buffer kind body buffer)

  -- nothing is written
  pub too_long_lem : 255 < length body → Answers 0 buffer
  unfolding written_length written_buffer
  too_long_lem l = rw (lt-leb (length body) 255 l) (refl, refl)

  pub too_short : length body ≤ 255 → length buffer < 2 * length body + 7 → Answers 0 buffer
  unfolding written_length written_buffer
  too_short l h = let e = room_is false l (lt-leb _ _ h) in (rw e, rw e)

  -- the line is written
  pub line_written : length body ≤ 255 → 2 * length body + 7 ≤ length buffer
      → Answers (2 * length body + 7) (line_in (framed kind body) buffer)
  unfolding written_length written_buffer
  line_written l h = let e = room_is true l (le-leb _ _ h) in (rw e (sym (length_line kind body)), rw e)
