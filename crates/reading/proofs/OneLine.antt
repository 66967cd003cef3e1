-- One line: when it is misplaced, and what loading makes of it.
use Prim.Native.Nat.{ℕ, ◌+◌, ◌-◌, ◌*◌, ◌≤◌, ◌<◌}
use mathlib.Core.Path.{◌≡◌, sym, ◌∙◌, ap, subst}
use mathlib.Core.Logic.{◌≢◌}
use mathlib.Core.Bool.{true, false, not, cond}
use mathlib.Core.List.{List, ◌∷◌}
use native.Mathlib.Omega.{arith}
use native.Mathlib.Decide.{ℕ_discrete}
use lib.ListN.{length, drop, length-take, length-drop}
use lib.Seq.{drop-drop}
use lib.Dec.{ltb, eqb}
use borrow.Author.Tests.{lt-ltb, le-ltb, eq-eqb, ne_eqb}
use Rattle.common.specs.BoolLaws.{or_left, or_right}
use Rattle.common.specs.Refusals.{wrong_kind}
use Rattle.octets.specs.Line.{Framed, refused, octets, kind_octet, body_of, total, rest_of, frame, lines}
use Rattle.octets.proofs.LineLaws.{accepted, refused_is, next_line_lem, lines_cons}
use Rattle.policy.specs.Table.{Kind, head, end, code, is_kind, count, kind_of}
use Rattle.policy.specs.TableLaws.{kind_of_code}
use Rattle.policy.specs.Rows.{row_causes, row_refusal}
use Rattle.lines.proofs.FoundLine.{RefusedLine}
use Rattle.lines.proofs.FoundLine.RefusedLine.{unframed, other_size}
use Rattle.policy.specs.Table.{widths}
use Rattle.reading.specs.Body.{numbers}
use Rattle.reading.specs.Loading.{Reading, misplaced, end_wrong, line_refusal, after_line, not_loaded, read}

-- ---- misplaced lines

module _ (t : Reading) (k : Kind) (os : List ℕ) where
  pub misplaced_other : kind_octet os ≢ code k → misplaced t k os ≡ true
  unfolding misplaced
  misplaced_other h = or_left (not (eqb (kind_octet os) (code k))) _ (ap not (ne_eqb _ _ h))

  -- a line of a kind below the last one's, or of an unknown kind
  pub misplaced_below : kind_octet os < t.last → misplaced t k os ≡ true
  unfolding misplaced
  misplaced_below l = go (ℕ_discrete (kind_octet os) (code k))
    where
      go : Dec (kind_octet os ≡ code k) → misplaced t k os ≡ true
      go (yes e) =
          or_right (not (eqb (kind_octet os) (code k))) _
          (or_right (eqb t.last 0xFF) _
          (or_right (not (eqb (cond (is_kind k head) 1 0) (cond (eqb t.lines 0) 1 0))) _
          (or_left (ltb (code k) t.last) _ (lt-ltb (code k) t.last (subst (λ (n : ℕ). n < t.last) e l)))))
      go (no h) = misplaced_other h

  -- a line after the end
  pub misplaced_after : t.last ≡ 0xFF → misplaced t k os ≡ true
  unfolding misplaced
  misplaced_after e = or_right (not (eqb (kind_octet os) (code k))) _ (or_left (eqb t.last 0xFF) _ (eq-eqb _ _ e))

  -- a body of another length
  pub misplaced_length : length (body_of os) ≢ total (widths k) → misplaced t k os ≡ true
  unfolding misplaced
  misplaced_length h =
      or_right (not (eqb (kind_octet os) (code k))) _
      (or_right (eqb t.last 0xFF) _
      (or_right (not (eqb (cond (is_kind k head) 1 0) (cond (eqb t.lines 0) 1 0))) _
      (or_right (ltb (code k) t.last) _ (ap not (ne_eqb _ _ h)))))

  -- the first line is of another kind than the head's
  pub misplaced_first : t.lines ≡ 0 → kind_octet os ≢ 1 → misplaced t k os ≡ true
  unfolding misplaced
  misplaced_first z h = go (ℕ_discrete (kind_octet os) (code k))
    where
      go : Dec (kind_octet os ≡ code k) → misplaced t k os ≡ true
      go (yes e) =
          or_right (not (eqb (kind_octet os) (code k))) _
          (or_right (eqb t.last 0xFF) _
          (or_left (not (eqb (cond (is_kind k head) 1 0) (cond (eqb t.lines 0) 1 0))) _
          (rw (ne_eqb (code k) 1 (λ q. h (e ∙ q)), eq-eqb t.lines 0 z))))
      go (no q) = misplaced_other q

  -- a head elsewhere than first
  pub misplaced_head : t.lines ≢ 0 → is_kind k head ≡ true → misplaced t k os ≡ true
  unfolding misplaced
  misplaced_head h e =
      or_right (not (eqb (kind_octet os) (code k))) _
      (or_right (eqb t.last 0xFF) _
      (or_left (not (eqb (cond (is_kind k head) 1 0) (cond (eqb t.lines 0) 1 0))) _ (rw (e, ne_eqb t.lines 0 h))))

  -- a line in its place
  pub well_placed : kind_octet os ≡ code k → t.last ≢ 0xFF → is_kind k head ≡ false → 1 ≤ t.lines → t.last ≤ code k
      → length (body_of os) ≡ total (widths k) → misplaced t k os ≡ false
  unfolding misplaced
  well_placed e n h b l s =
      rw (eq-eqb _ _ e, ne_eqb t.last 0xFF n, h, ne_eqb t.lines 0 (λ z. omega arith), le-ltb (code k) t.last l, eq-eqb _ _ s)

  -- ---- what a line is refused with

  pub refused_place : misplaced t k os ≡ true → line_refusal t k os ≡ wrong_kind
  unfolding line_refusal
  refused_place e = rw e

  pub refused_row : misplaced t k os ≡ false → is_kind k end ≡ false
      → line_refusal t k os ≡ row_refusal k (count k t.rules) t.rules (numbers k os)
  unfolding line_refusal end_wrong row_refusal row_causes
  refused_row e f = rw (e, f)

-- the head, at the top
pub placed_first : (t : Reading) (os : List ℕ) → kind_octet os ≡ 1 → t.lines ≡ 0 → t.last ≡ 0 → length (body_of os) ≡ 2
    → misplaced t head os ≡ false
unfolding misplaced
placed_first t os e l z s = rw (eq-eqb (kind_octet os) 1 e, z, l, eq-eqb (length (body_of os)) 2 s)

-- ---- reading on

module _ (t : Reading) (text : List ℕ) (offset : ℕ) (l : offset < length text) where
  some : 0 < length (drop offset text)
  some = omega (arith, length-drop offset text)

  pub read_refused : {n : ℕ} → frame (drop offset text) ≡ refused n → read t (lines (drop offset text)) ≡ not_loaded n (t.lines + 1)
  unfolding read
  read_refused {n} e = ap (read t) (lines_cons (drop offset text) some ∙ ap (λ (f : Framed). f ∷ lines (rest_of (drop offset text))) e)

  module _ {os : List ℕ} (e : frame (drop offset text) ≡ octets os) (k : Kind) (known : kind_of (kind_octet os) ≡ k) where
    read_line_lem : read t (lines (drop offset text))
        ≡ cond (eqb (line_refusal t k os) 0) (read (after_line t k os) (lines (rest_of (drop offset text))))
        (not_loaded (line_refusal t k os) (t.lines + 1))
    unfolding read
    read_line_lem =
        ap (read t) (lines_cons (drop offset text) some ∙ ap (λ (f : Framed). f ∷ lines (rest_of (drop offset text))) e)
        ∙ (λ i. cond (eqb (line_refusal t (known i) os) 0) (read (after_line t (known i) os) (lines (rest_of (drop offset text))))
        (not_loaded (line_refusal t (known i) os) (t.lines + 1)))

    pub read_not : {n : ℕ} → line_refusal t k os ≡ n → n ≢ 0 → read t (lines (drop offset text)) ≡ not_loaded n (t.lines + 1)
    read_not {n} f h =
        read_line_lem
        ∙ (λ i. cond (eqb (f i) 0) (read (after_line t k os) (lines (rest_of (drop offset text)))) (not_loaded (f i) (t.lines + 1)))
        ∙ rw (ne_eqb n 0 h)

    pub read_on : line_refusal t k os ≡ 0
        → read t (lines (drop offset text)) ≡ read (after_line t k os) (lines (drop (offset + 2 * length os + 1) text))
    read_on f =
        let (a, b) = next_line_lem (drop offset text) e in
        let q : drop (offset + 2 * length os + 1) text ≡ rest_of (drop offset text) =
        ap (λ (n : ℕ). drop n text) (let z : offset + 2 * length os + 1 ≡ offset + (2 * length os + 1) = omega arith in z)
        ∙ sym (drop-drop (2 * length os + 1) offset text)
        ∙ b in
        read_line_lem
        ∙ (λ i. cond (eqb (f i) 0) (read (after_line t k os) (lines (rest_of (drop offset text)))) (not_loaded (f i) (t.lines + 1)))
        ∙ ap (λ (u : List ℕ). read (after_line t k os) (lines u)) (sym q)

-- ---- the length of a body

pub body_length : (os : List ℕ) → 3 ≤ length os → length (body_of os) + 3 ≡ length os
body_length os l = omega (arith, length-take (length os - 3) (drop 2 os), length-drop 2 os)

-- a line that `next_of` refuses is refused by loading
pub refused_reading : (t : Reading) (text : List ℕ) (offset : ℕ) (k : Kind) (size n : ℕ) → size ≡ total (widths k) + 3
    → RefusedLine text offset (code k) size n
    → (n ≢ 0) × (read t (lines (drop offset text)) ≡ not_loaded n (t.lines + 1))
refused_reading t text offset k size n s (unframed l f) = (λ z. let b = refused_is _ f in omega arith, read_refused t text offset l f)
refused_reading t text offset k size n s (other_size l {os} f o d w) =
    let h = (accepted f).long in
    let m = misplaced_length t k os (λ z. d (let u = body_length os (omega arith) in omega arith)) in
    let ne : n ≢ 0 = λ z. (let u : wrong_kind ≡ 0 = sym w ∙ z in omega arith) in
    (ne, read_not t text offset l f k (ap kind_of o ∙ kind_of_code k) (refused_place t k os m ∙ sym w) ne)
