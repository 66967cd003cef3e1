-- The last line: what loading makes of an empty text, of an end line, and of what follows it.
use Rattle.std.specs.Prelude.{ℕ, ◌+◌, ◌≤◌, ◌<◌, ◌≡◌, refl, ◌≢◌, Bool, true, false, not, cond, ◌&&◌, ◌||◌, List, [], ◌∷◌, length, drop, replicate, eqb, Ok}
use Rattle.std.proofs.Common.{sym, ◌∙◌, ap, arith, eq-eqb, ne_eqb, length-drop}
use Rattle.std.proofs.Math.Decide.{ℕ_discrete}
use Rattle.std.proofs.Math.ListN.{drop_of_length-le}
use Rattle.common.specs.Lists.{at}
use Rattle.common.specs.Limits.{line_room}
use Rattle.common.specs.BoolLaws.{and_false}
use Rattle.common.specs.Refusals.{wrong_kind, wrong_end}
use Rattle.common.specs.Refusals as refusals
use Rattle.closure.specs.Closure.{circular}
use Rattle.octets.specs.Line.{Framed, refused, octets, kind_octet, rest_of, frame, lines}
use Rattle.octets.specs.Answers.{HoldsLine}
use Rattle.octets.proofs.LineLaws.{accepted, lines_none, lines_cons}
use Rattle.policy.specs.declared.Record.{Record}
use Rattle.policy.specs.Table.{hierarchy, prerequisite, end, code, rows, appended, indexed, kind_of}
use Rattle.policy.specs.Rows.{in_range, row_causes}
use Rattle.lines.specs.NextLine.{no_line, refused_line, next_of, number_at}
use Rattle.lines.proofs.FoundLine.{FoundLine, found_number, kind_octet_lem, refused_line_lem, other_line}
use Rattle.reading.specs.declared.Stage.{Stage}
use Rattle.reading.specs.Body.{numbers}
use Rattle.reading.specs.Loading.{Reading, misplaced, end_wrong, line_refusal, after_line, not_loaded, after_last_line, read, load}
use Rattle.reading.specs.Stages.{reading, loaded_from, after_end, ended_at, Ready}
use Rattle.reading.proofs.OneLine.{misplaced_other, misplaced_after, well_placed, refused_place, read_not, read_on, body_length}
use Rattle.reading.proofs.OneLine.{refused_reading}
use Rattle.reading.proofs.Bodies.{numbers_are}
use Rattle.reading.proofs.Partway.{from_on}

-- ---- an empty text

pub load_empty : (text : List ℕ) → length text ≡ 0 → not_loaded wrong_end 1 ≡ load text
unfolding load read after_last_line lines
load_empty [] e = refl
load_empty (b ∷ text) e = absurd (omega arith)

-- ---- the end line

-- what follows an end line
pub read_ended : (t : Reading) (ls : List Framed) → t.last ≡ 0xFF → read t ls ≡ after_end t.lines t.rules ls
unfolding read after_last_line
read_ended t [] e = rw (eq-eqb t.last 0xFF e)
read_ended t (refused n ∷ ls) e = refl
read_ended t (octets os ∷ ls) e =
    let k = kind_of (kind_octet os) in
    let r = refused_place t k os (misplaced_after t k os e) in
    (λ i. cond (eqb (r i) 0) (read (after_line t k os) ls) (not_loaded (r i) (t.lines + 1)))

-- what is left of the text at a stage
abbrev rest : List ℕ → Stage → List ℕ
rest text s = drop s.cursor.offset text

module _ (text : List ℕ) (s : Stage) (r : Ready text end s) where
  on : loaded_from text (Ok s) ≡ read (reading s) (lines (rest text s))
  on = from_on text s

  not_ended : s.cursor.last ≢ 0xFF
  not_ended e = let l = r.last in omega arith

  -- there is no end line
  pub finish_missing : length text ≤ s.cursor.offset → not_loaded wrong_end (s.cursor.lines + 1) ≡ loaded_from text (Ok s)
  unfolding read after_last_line
  finish_missing l =
      sym
      (on ∙ ap (λ (u : List ℕ). read (reading s) (lines u)) (drop_of_length-le text l) ∙ ap (read (reading s)) lines_none
      ∙ rw (ne_eqb s.cursor.last 0xFF not_ended))

  -- a line of another kind
  pub finish_other : s.cursor.offset < length text → next_of text s.cursor.offset 0xFF 9 ≡ no_line
      → not_loaded wrong_kind (s.cursor.lines + 1) ≡ loaded_from text (Ok s)
  finish_other l e =
      let (os, f, h) = other_line text s.cursor.offset 0xFF 9 l e in
      let k = kind_of (kind_octet os) in
      sym (on
      ∙ read_not (reading s) text s.cursor.offset l f k refl
      (refused_place (reading s) k os (wrong os f h (ℕ_discrete (kind_octet os) (code k)))) (λ q. omega arith))
    where
      wrong : (os : List ℕ) → frame (rest text s) ≡ octets os → kind_octet os ≢ 0xFF → Dec (kind_octet os ≡ code (kind_of (kind_octet os)))
          → misplaced (reading s) (kind_of (kind_octet os)) os ≡ true
      wrong os f h (yes q) = r.others os f (let c = kind_octet_lem _ f in omega arith)
      wrong os f h (no q) = misplaced_other (reading s) (kind_of (kind_octet os)) os q

  pub finish_unread : (n : ℕ) → next_of text s.cursor.offset 0xFF 9 ≡ refused_line n
      → not_loaded n (s.cursor.lines + 1) ≡ loaded_from text (Ok s)
  finish_unread n e =
      sym (on ∙ (refused_reading (reading s) text s.cursor.offset end 9 n refl (refused_line_lem text s.cursor.offset 0xFF 9 e)).1)

  module _ {next sum : ℕ} (f : FoundLine text s.cursor.offset 0xFF 9 next sum) {filled : List ℕ}
      (held : HoldsLine 9 (frame (rest text s)) (replicate line_room 0) filled) where
    known : kind_of (kind_octet f.os) ≡ end
    known = ap kind_of f.ours

    placed : misplaced (reading s) end f.os ≡ false
    placed =
        let h = (accepted f.framed).long in
        let u = body_length f.os (omega arith) in
        let d = f.sized in
        let l = r.last in
        well_placed (reading s) end f.os f.ours not_ended refl r.begun.some (omega arith) (omega arith)

    numbers_end : numbers end f.os ≡ number_at f.os 2 2 ∷ number_at f.os 4 4 ∷ []
    numbers_end = numbers_are f.os 6 f.sized end refl

    end_refusal : line_refusal (reading s) end f.os
        ≡ cond (not (eqb (number_at f.os 2 2) s.cursor.lines && eqb (number_at f.os 4 4) s.cursor.sum)) wrong_end 0
    unfolding line_refusal end_wrong row_causes in_range
    end_refusal =
        rw placed
        (λ i. cond (not (eqb (at (numbers_end i) 0) s.cursor.lines && eqb (at (numbers_end i) 1) s.cursor.sum)) wrong_end 0)

    -- its numbers are read from the room for its octets
    pub finish_count : {n : ℕ} → n ≡ number_at filled 2 2 → n ≢ s.cursor.lines
        → not_loaded wrong_end (s.cursor.lines + 1) ≡ loaded_from text (Ok s)
    finish_count {n} e h =
        sym (on ∙ read_not (reading s) text s.cursor.offset f.within f.framed end known
        (end_refusal ∙ rw (ne_eqb (number_at f.os 2 2) s.cursor.lines (λ q. h (e ∙ found_number f held 2 2 ∙ q)))) (λ q. omega arith))

    pub finish_sum : {n : ℕ} → n ≡ number_at filled 4 4 → n ≢ s.cursor.sum
        → not_loaded wrong_end (s.cursor.lines + 1) ≡ loaded_from text (Ok s)
    finish_sum {n} e h =
        sym (on ∙ read_not (reading s) text s.cursor.offset f.within f.framed end known
        (end_refusal
        ∙ rw (
          ne_eqb (number_at f.os 4 4) s.cursor.sum (λ q. h (e ∙ found_number f held 4 4 ∙ q)),
          and_false
              (eqb (number_at f.os 2 2) s.cursor.lines),
        )) (λ q. omega arith))

    pub finish_ended : {n m : ℕ} → n ≡ number_at filled 2 2 → n ≡ s.cursor.lines → m ≡ number_at filled 4 4
        → m ≡ s.cursor.sum
        → ended_at text next (s.cursor.lines + 1) s.rules ≡ loaded_from text (Ok s)
    unfolding ended_at after_line appended
    finish_ended e e' g g' =
        sym (on
        ∙ read_on (reading s) text s.cursor.offset f.within f.framed end known
        (end_refusal
        ∙ rw (
          eq-eqb (number_at f.os 2 2) s.cursor.lines (sym (e ∙ found_number f held 2 2) ∙ e'),
          eq-eqb (number_at f.os 4 4) s.cursor.sum
              (sym (g ∙ found_number f held 4 4) ∙ g'),
        ))
        ∙ read_ended (after_line (reading s) end f.os) _ refl
        ∙ ap (λ (n : ℕ). after_end (s.cursor.lines + 1) s.rules (lines (drop n text))) (sym f.follows))

-- ---- after the end line

module _ (text : List ℕ) (offset n : ℕ) (r : Record) where
  pub ended_refused : offset < length text → {k : ℕ} → frame (drop offset text) ≡ refused k → not_loaded k (n + 1) ≡ ended_at text offset n r
  unfolding ended_at
  ended_refused l e =
      sym (ap (after_end n r)
      (lines_cons (drop offset text) (omega (arith, length-drop offset text)) ∙ ap (λ (f : Framed). f ∷ lines (rest_of (drop offset text)))
      e))

  pub ended_more : offset < length text → {os : List ℕ} → frame (drop offset text) ≡ octets os
      → not_loaded wrong_kind (n + 1) ≡ ended_at text offset n r
  unfolding ended_at
  ended_more l e =
      sym (ap (after_end n r)
      (lines_cons (drop offset text) (omega (arith, length-drop offset text)) ∙ ap (λ (f : Framed). f ∷ lines (rest_of (drop offset text)))
      e))

  ended_here : length text ≤ offset → ended_at text offset n r ≡ after_end n r []
  unfolding ended_at
  ended_here l = ap (after_end n r) (ap lines (drop_of_length-le text l) ∙ lines_none)

  module _ (l : length text ≤ offset) {b : Bool} (e : b ≡ (circular (rows hierarchy r) || circular (rows prerequisite r))) where
    pub ended_circle : b ≡ true → not_loaded refusals.circle n ≡ ended_at text offset n r
    ended_circle h = sym (ended_here l ∙ rw (sym e ∙ h))

    pub ended_well : b ≡ false → {s : Record} → s ≡ indexed r → record { number = 0; line = 0; rules = s } ≡ ended_at text offset n r
    ended_well h p = (λ j. record { number = 0; line = 0; rules = p j }) ∙ sym (ended_here l ∙ rw (sym e ∙ h))
