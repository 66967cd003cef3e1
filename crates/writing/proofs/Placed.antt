-- One line written into the rest of a buffer.
use Prim.Native.Nat.{ℕ, ◌+◌, ◌-◌, ◌*◌, ◌≤◌}
use mathlib.Core.Path.{◌≡◌, refl, sym, ◌∙◌, ap}
use mathlib.Core.Bool.{true}
use mathlib.Core.List.{List, [], ◌∷◌, ◌++◌, append-nil}
use native.Mathlib.Omega.{arith}
use lib.ListN.{length, take, drop, length-drop}
use lib.Seq.{take_all, drop-drop, drop-length}
use borrow.Author.Tests.{le-leb}
use borrow.Rule.Slice.PartMut.{put_mid}
use Rattle.octets.specs.Line.{total, framed, line_bytes, text_of}
use Rattle.octets.proofs.WritingLaws.{length_line}
use Rattle.octets.specs.Answers.{has_room, written_length, written_buffer}
use Rattle.writing.specs.declared.Draft.{Draft}
use Rattle.writing.specs.Drafts.{longest_body, greatest_total, RoomFor, Put}

-- a line that there is room for
module _ (kind : ℕ) (body rest : List ℕ) (small : length body ≤ longest_body) (room : 2 * length body + 7 ≤ length rest) where
  has_room_lem : has_room kind body rest ≡ true
  has_room_lem =
      let n = length_line kind body in
      rw (le-leb (length body) 255 (omega arith), le-leb (length (line_bytes (framed kind body))) (length rest) (omega arith))

  line_length : written_length kind body rest ≡ 2 * length body + 7
  unfolding written_length
  line_length = rw has_room_lem (length_line kind body)

  line_buffer : written_buffer kind body rest ≡ line_bytes (framed kind body) ++ drop (2 * length body + 7) rest
  unfolding written_buffer
  line_buffer = rw has_room_lem (ap (λ (m : ℕ). line_bytes (framed kind body) ++ drop m rest) (length_line kind body))

-- the rest of a buffer from p on, put back with its first bytes written
put_back : (b t : List ℕ) (p n : ℕ) → p ≤ length b
    → put_mid p (length b - p) b (t ++ drop n (drop p b)) ≡ take p b ++ (t ++ drop (p + n) b)
put_back b t p n l =
    let all : p + (length b - p) ≡ length b = omega arith in
    let none : drop (length b - p) (drop p b) ≡ [] =
    drop-drop (length b - p) p b ∙ ap (λ (m : ℕ). drop m b) all ∙ drop-length b in
    ap (λ (s : List ℕ). take p b ++ ((t ++ drop n (drop p b)) ++ s)) none
    ∙ ap (λ (s : List ℕ). take p b ++ s) (append-nil (t ++ drop n (drop p b)) ∙ ap (λ (s : List ℕ). t ++ s) (drop-drop n p b))

-- the rest of a buffer from p on, as it is lent
abbrev pub rest_from : ℕ → List ℕ → List ℕ
rest_from p b = take (length b - p) (drop p b)

rest_is : (p : ℕ) (b : List ℕ) → rest_from p b ≡ drop p b
rest_is p b = take_all (length b - p) (drop p b) (let n = length-drop p b in omega arith)

-- the draft after a line of n bytes whose octets add up to sum
abbrev next_draft : Draft → ℕ → ℕ → Draft
next_draft d n sum = record { offset = d.offset + n; lines = d.lines + 1; sum = d.sum + sum }

module _ (kind : ℕ) (body before : List ℕ) (d : Draft) (small : length body ≤ longest_body)
    (space : RoomFor before d 1 (2 * length body + 7)) where
  -- what is lent, and the buffer once it is put back
  abbrev lent : List ℕ
  lent = rest_from d.offset before

  abbrev whole : List ℕ → List ℕ
  whole after = put_mid d.offset (length before - d.offset) before after

  room : 2 * length body + 7 ≤ length lent
  room =
      let a = ap length (rest_is d.offset before) in
      let b = length-drop d.offset before in
      let c = space.room in
      omega arith

  pub length_one : {n : ℕ} → n ≡ written_length kind body lent → n ≡ 2 * length body + 7
  length_one e = e ∙ line_length kind body lent small room

  pub put_one : {n sum : ℕ} {after : List ℕ} → n ≡ written_length kind body lent → after ≡ written_buffer kind body lent
      → (sum ≡ total (framed kind body)) × (sum ≤ greatest_total)
      → Put before (whole after) d (next_draft d n sum) (framed kind body ∷ [])
  put_one {n} {sum} {after} e f g =
      let m : n ≡ 2 * length body + 7 = length_one e in
      let w : after ≡ line_bytes (framed kind body) ++ drop n (drop d.offset before) =
      f ∙ line_buffer kind body lent small room ∙ (λ j. line_bytes (framed kind body) ++ drop (sym m j) (rest_is d.offset before j)) in
      let one : text_of (framed kind body ∷ []) ≡ line_bytes (framed kind body) = append-nil (line_bytes (framed kind body)) in
      record {
        bytes =
            ap whole w
            ∙ put_back before (line_bytes (framed kind body)) d.offset n (omega (arith, space.room))
            ∙ ap (λ (s : List ℕ). take d.offset before ++ (s ++ drop (d.offset + n) before)) (sym one);
        offset = omega (arith, m, ap length one, length_line kind body);
        lines = refl;
        sum = omega (arith, g.0);
        fair = omega (arith, g.0, g.1);
      }
