-- How large a load's line number can be, and what the program prints, way by way.
use Rattle.std.specs.Prelude.{ℕ, ◌+◌, ◌≤◌, ◌<◌, ◌≡◌, ◌≢◌, Bool, true, false, not, cond, ◌||◌, List, [], ◌∷◌, ◌++◌, take, drop, eqb}
use Rattle.std.proofs.Math.Path.{refl, ap}
use Rattle.std.proofs.Common.{sym, ◌∙◌, subst, length-append, length-take-le}
use native.Mathlib.Omega.{arith}
use Rattle.std.proofs.Math.Decide.{dec_lt}
use Rattle.std.proofs.Math.ListN.{length}
use borrow.Author.Tests.{lt-ltb, le-ltb, lt-leb, le-leb, eq-eqb, ne_eqb}
use Rattle.octets.specs.Line.{Framed, refused, octets, kind_octet, starts, later_lines, lines}
use Rattle.closure.specs.Closure.{circular}
use Rattle.policy.specs.declared.Record.{Record}
use Rattle.policy.specs.Table.{Kind, hierarchy, prerequisite, kind_of, rows, indexed}
use Rattle.policy.specs.Loadable.{loadable}
use Rattle.reading.specs.Loaded.{Loaded}
use Rattle.reading.specs.Loading.{Reading, at_top, line_refusal, after_line, not_loaded, after_last_line, read, load}
use Rattle.bundle.specs.Written.{Written}
use Rattle.bundle.specs.Writing.{bundle_of, length_needed, written, write_refusal, buffer_after}
use Rattle.bundle.specs.WriterParts.{Writes}
use Rattle.rewriting.specs.Program.{most_bytes, too_long, refused_text, program, shown_length, shown}

-- ---- there are no more lines than bytes

later_count : (b : ℕ) (t : List ℕ) → length (later_lines (b ∷ t)) ≤ length t
later_count b [] = go (eqb b 0x0A)
  where
    go : (x : Bool) → length (cond x (starts [] (later_lines [])) (later_lines [])) ≤ 0
    go true = omega arith
    go false = omega arith
later_count b (c ∷ t) = go (eqb b 0x0A) (later_count c t)
  where
    go : (x : Bool) → length (later_lines (c ∷ t)) ≤ length t
        → length (cond x (starts (c ∷ t) (later_lines (c ∷ t))) (later_lines (c ∷ t))) ≤ length (c ∷ t)
    go true h = omega arith
    go false h = omega arith

lines_count : (t : List ℕ) → length (lines t) ≤ length t
unfolding lines
lines_count [] = omega arith
lines_count (b ∷ t) = omega (arith, later_count b t)

end_line_lem : (t : Reading) → (after_last_line t).line ≤ t.lines + 1
unfolding after_last_line
end_line_lem t = go (eqb t.last 0xFF) (circular (rows hierarchy t.rules) || circular (rows prerequisite t.rules))
  where
    go : (x y : Bool)
        → (cond (not x) (not_loaded 8 (t.lines + 1)) (cond y (not_loaded 9 t.lines) (record { number = 0; line = 0; rules = indexed t.rules }))
        ).line ≤ t.lines + 1
    go false y = omega arith
    go true true = omega arith
    go true false = omega arith

read_line_lem : (ls : List Framed) (t : Reading) → (read t ls).line ≤ t.lines + length ls + 1
unfolding read after_line
read_line_lem [] t = omega (arith, end_line_lem t)
read_line_lem (refused n ∷ ls) t = omega arith
read_line_lem (octets os ∷ ls) t = go (eqb (line_refusal t k os) 0) (read (after_line t k os) ls) (read_line_lem ls (after_line t k os))
  where
    k : Kind
    k = kind_of (kind_octet os)

    go : (x : Bool) (l : Loaded) → l.line ≤ t.lines + 1 + length ls + 1
        → (cond x l (not_loaded (line_refusal t (kind_of (kind_octet os)) os) (t.lines + 1))).line ≤ t.lines + length (octets os ∷ ls) + 1
    go true l h = omega arith
    go false l h = omega arith

-- a load's line number is at most one more than the text is long
pub load_line : (t : List ℕ) → (load t).line ≤ length t + 1
unfolding load
load_line t = omega (arith, read_line_lem (lines t) at_top, lines_count t)

-- ---- what is printed

module _ (t : List ℕ) where
  pub prints_long : most_bytes < length t → too_long ≡ program t
  unfolding program
  prints_long l = rw (lt-ltb most_bytes (length t) l) refl

  module _ (short : length t ≤ most_bytes) where
    pub prints_refusal : (load t).number ≢ 0 → refused_text (load t).number (load t).line ≡ program t
    unfolding program
    prints_refusal h = rw (le-ltb most_bytes (length t) short, ne_eqb (load t).number 0 h) refl

    pub prints_bundle : (load t).number ≡ 0 → bundle_of (load t).rules ≡ program t
    unfolding program
    prints_bundle e = rw (le-ltb most_bytes (length t) short, eq-eqb (load t).number 0 e) refl

-- the same bytes are shown alike
pub shown_same : {r : ℕ} {a : List ℕ} (b : List ℕ) {s t : List ℕ} → s ≡ t → (r ≡ shown_length s b) × (a ≡ shown s b)
    → (r ≡ shown_length t b) × (a ≡ shown t b)
shown_same {r} {a} b e h = subst (λ (x : List ℕ). (r ≡ shown_length x b) × (a ≡ shown x b)) e h

-- ---- the writer shows the bundle

module _ {r : Record} {b a : List ℕ} {w : Written} (c : Writes r b a w) (loads : loadable r ≡ true) where
  pub writes_none : w.number ≢ 0 → (0 ≡ shown_length (bundle_of r) b) × (a ≡ shown (bundle_of r) b)
  unfolding written write_refusal length_needed buffer_after shown_length shown
  writes_none h = go (dec_lt (length b) (length (bundle_of r)))
    where
      go : Dec (length b < length (bundle_of r)) → (0 ≡ shown_length (bundle_of r) b) × (a ≡ shown (bundle_of r) b)
      go (yes l) =
          let e = lt-leb (length (bundle_of r)) (length b) l in
          (rw e refl, c.buffer ∙ rw (loads, lt-ltb (length b) (length (bundle_of r)) l, e) refl)
      go (no l) =
          absurd (h (ap (λ (x : Written). x.number) c.answers ∙ rw (loads, le-ltb (length b) (length (bundle_of r)) (omega arith)) refl))

  pub writes_whole : w.number ≡ 0 → (w.length ≡ shown_length (bundle_of r) b) × (a ≡ shown (bundle_of r) b)
  unfolding written write_refusal length_needed buffer_after shown_length shown
  writes_whole z = go (dec_lt (length b) (length (bundle_of r)))
    where
      go : Dec (length b < length (bundle_of r)) → (w.length ≡ shown_length (bundle_of r) b) × (a ≡ shown (bundle_of r) b)
      go (yes l) =
          let n : w.number ≡ 18 = ap (λ (x : Written). x.number) c.answers ∙ rw (loads, lt-ltb (length b) (length (bundle_of r)) l) refl
          in
          absurd (omega arith)
      go (no l) =
          let m : length (bundle_of r) ≤ length b = omega arith in
          let e = le-leb (length (bundle_of r)) (length b) m in (
            ap (λ (x : Written). x.length) c.answers
                ∙ rw (loads, e) refl,
            c.buffer
                ∙ rw (loads, le-ltb (length b) (length (bundle_of r)) m, e) refl,
          )

-- what is shown lies within the buffer
pub shown_within : {r : ℕ} {a : List ℕ} (t b : List ℕ) → (r ≡ shown_length t b) × (a ≡ shown t b) → (r ≤ length a) × (r ≡ length (take r a))
unfolding shown_length shown
shown_within {r} {a} t b h = go (dec_lt (length b) (length t))
  where
    within : r ≤ length a → (r ≤ length a) × (r ≡ length (take r a))
    within l = (l, sym (length-take-le r a l))

    go : Dec (length b < length t) → (r ≤ length a) × (r ≡ length (take r a))
    go (yes l) = within (let n : r ≡ 0 = h.0 ∙ rw (lt-leb (length t) (length b) l) refl in omega arith)
    go (no l) =
        let e = le-leb (length t) (length b) (let m : length t ≤ length b = omega arith in m) in
        let n : r ≡ length t = h.0 ∙ rw e refl in
        let f : a ≡ t ++ drop (length t) b = h.1 ∙ rw e refl in
        let m : length a ≡ length t + length (drop (length t) b) = ap length f ∙ length-append t (drop (length t) b) in
        within (omega arith)
