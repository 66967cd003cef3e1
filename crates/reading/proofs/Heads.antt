-- The first line: what loading makes of a head.
use Rattle.std.specs.Prelude.{ℕ, ◌+◌, ◌<◌, ◌≡◌, refl, true, false, not, ◌&&◌, List, [], ◌∷◌, length, drop, replicate, leb, eqb, Ok, Err}
use Rattle.std.proofs.Common.{sym, ◌∙◌, ap, arith, ne_eqb}
use Rattle.std.proofs.Math.Decide.{ℕ_discrete}
use Rattle.common.specs.Limits.{most_objects, line_room}
use Rattle.common.specs.Causes.{first}
use Rattle.common.specs.Lists.{at}
use Rattle.common.specs.RefusalNumbers.{number}
use Rattle.common.specs.declared.Refusal.{Refusal}
use Rattle.common.specs.declared.Refusal.TheVariants.{WrongKind}
use Rattle.octets.specs.Line.{kind_octet, body_of, lines, frame}
use Rattle.octets.specs.Answers.{HoldsLine}
use Rattle.octets.proofs.LineLaws.{accepted}
use Rattle.policy.specs.Table.{head, code, is_kind, blank, appended, kind_of}
use Rattle.rows.specs.Checks.{causes}
use Rattle.policy.specs.Rows.{in_range, row_causes, row_refusal}
use Rattle.policy.specs.TableLaws.{sized_blank, sized_appended, count_other}
use Rattle.policy.specs.GrowthLaws.{blank_empty, tables_first}
use Rattle.lines.specs.declared.Cursor.{Cursor}
use Rattle.reading.specs.declared.Stage.{Stage}
use Rattle.reading.specs.Body.{numbers}
use Rattle.reading.specs.Loading.{misplaced, line_refusal, after_line, not_loaded, read, load}
use Rattle.lines.specs.NextLine.{no_line, refused_line, next_of}
use Rattle.lines.specs.Judging.{moved_past}
use Rattle.lines.proofs.FoundLine.{FoundLine, found_octet, found_sum, refused_line_lem, other_line}
use Rattle.lines.proofs.RefusalSome.{some_number}
use Rattle.reading.specs.Stages.{reading, refused_at, Starts}
use Rattle.reading.proofs.OneLine.{misplaced_below, misplaced_first, misplaced_head, placed_first, refused_place, refused_row}
use Rattle.reading.proofs.OneLine.{read_not, read_on, body_length, refused_reading}
use Rattle.reading.proofs.Bodies.{one_octet, numbers_are}
use Rattle.reading.proofs.Partway.{stage, from_on, from_refused}

-- the cursor at the top
abbrev pub top : Cursor
top = record { offset = 0; lines = 0; last = 0; sum = 0 }

from_top : (text : List ℕ) → load text ≡ read (reading (stage top blank)) (lines (drop 0 text))
unfolding load
from_top text = refl

module _ (text : List ℕ) where
  starts_not : (why : Refusal) → read (reading (stage top blank)) (lines (drop 0 text)) ≡ not_loaded (number why) 1
      → Starts text (Err (refused_at top why))
  starts_not why q = record { same = from_refused text (refused_at top why) ∙ sym (from_top text ∙ q); ready = tt }

  pub head_unread : (why : Refusal) → next_of text 0 0x01 5 ≡ refused_line (number why) → Starts text (Err (refused_at top why))
  head_unread why e =
      starts_not why
      (refused_reading (reading (stage top blank)) text 0 head 5 (number why) refl (refused_line_lem text 0 0x01 5 e)).1

  pub head_other : 0 < length text → next_of text 0 0x01 5 ≡ no_line → Starts text (Err (refused_at top WrongKind))
  head_other l e =
      let (os, f, h) = other_line text 0 0x01 5 l e in
      let t = reading (stage top blank) in
      let k = kind_of (kind_octet os) in
      starts_not WrongKind
      (read_not t text 0 l f k refl (refused_place t k os (misplaced_first t k os refl h)) (λ z. omega arith))

  module _ {next sum : ℕ} (f : FoundLine text 0 0x01 5 next sum) {filled : List ℕ}
      (held : HoldsLine 5 (frame (drop 0 text)) (replicate line_room 0) filled) where
    -- the octets in the room are the numbers of the head
    abbrev pub version : ℕ
    version = at filled 2

    abbrev pub objects : ℕ
    objects = at filled 3

    v : numbers head f.os ≡ version ∷ objects ∷ []
    v =
        numbers_are f.os 2 f.sized head refl
        ∙ sym (λ i. (found_octet f held 2 ∙ one_octet f.os 2) i ∷ (found_octet f held 3 ∙ one_octet f.os 3) i ∷ [])

    sizes : length (body_of f.os) ≡ 2
    sizes = let h = (accepted f.framed).long in let u = body_length f.os (omega arith) in let z = f.sized in omega arith

    head_row :
        line_refusal (reading (stage top blank)) head f.os
        ≡ first (causes false (not (eqb version 1 && (leb 1 objects && leb objects most_objects))) false)
    unfolding row_refusal row_causes in_range
    head_row =
        refused_row (reading (stage top blank)) head f.os (placed_first (reading (stage top blank)) f.os f.ours refl refl sizes)
        refl
        ∙ ap (row_refusal head 1 blank) v

    pub head_refused : (why : Refusal)
        → number why ≡ first (causes false (not (eqb version 1 && (leb 1 objects && leb objects most_objects))) false)
        → Starts text (Err (refused_at top why))
    head_refused why e =
        starts_not why
        (read_not (reading (stage top blank)) text 0 f.within f.framed head (ap kind_of f.ours) (head_row ∙ sym e) (some_number why))

    pub head_taken : 0 ≡ first (causes false (not (eqb version 1 && (leb 1 objects && leb objects most_objects))) false)
        → Starts text (Ok (stage (moved_past top 0x01 next sum) (appended head blank (version ∷ objects ∷ []))))
    unfolding after_line row_refusal row_causes in_range
    head_taken e =
        record {
          same = from_on text s ∙ sym (from_top text ∙ moved);
          ready = record {
            begun =
                record {
                  some = omega arith;
                  few = omega arith;
                  sum = omega (arith, found_sum f);
                  sized =
                      sized_appended head w sized_blank;
                  loads = tables_first w (passes ∙ sym e);
                };
            last = omega arith;
            empty = λ j l. count_other head j blank w (ne_eqb 1 (code j) (λ q. omega arith)) ∙ blank_empty j (omega arith);
            others = λ os q l. below os (ℕ_discrete (kind_octet os) 1) l;
          };
        }
      where
        w : List ℕ
        w = version ∷ objects ∷ []

        s : Stage
        s = stage (moved_past top 0x01 next sum) (appended head blank (version ∷ objects ∷ []))

        passes : row_refusal head 1 blank w
            ≡ first (causes false (not (eqb version 1 && (leb 1 objects && leb objects most_objects))) false)
        passes = refl

        moved : read (reading (stage top blank)) (lines (drop 0 text)) ≡ read (reading s) (lines (drop next text))
        moved =
            read_on (reading (stage top blank)) text 0 f.within f.framed head (ap kind_of f.ours) (head_row ∙ sym e)
            ∙ (λ i. read (record { lines = 0 + 1; last = 1; sum = 0 + sym f.summed i; rules = appended head blank (v i) })
            (lines (drop (sym f.follows i) text)))

        below : (os : List ℕ) → Dec (kind_octet os ≡ 1) → kind_octet os < 2 → misplaced (reading s) (kind_of (kind_octet os)) os ≡ true
        below os (yes q) l =
            misplaced_head (reading s) (kind_of (kind_octet os)) os (λ z. omega arith) (ap (λ (c : ℕ). is_kind (kind_of c) head) q)
        below os (no h) l = misplaced_below (reading s) (kind_of (kind_octet os)) os (omega arith)
