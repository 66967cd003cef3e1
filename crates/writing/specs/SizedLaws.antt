-- Laws of lines of one size, whatever they say, as they are written one after another; and of a body that was made by a call.
use Rattle.std.specs.Prelude.{ℕ, zero, suc, ◌+◌, ◌*◌, ◌≤◌, ◌<◌, ◌≡◌, List, [], ◌∷◌, length}
use Rattle.std.proofs.Common.{sym, subst, arith, suc-mul, mul-le-mul_right, add-one}
use Rattle.common.specs.Lists.{table}
use Rattle.common.specs.ListLaws.{length_table}
use Rattle.octets.specs.Line.{framed, line_bytes}
use Rattle.writing.specs.declared.Draft.{Draft}
use Rattle.writing.specs.Drafts.{longest_body, RoomFor, Put}
use Rattle.writing.specs.DraftLaws.{put_none, put_join, put_length, text_size}

-- so many of the lines have been written
pub record Writing (b : List ℕ) (d : Draft) (count : ℕ) (f : ℕ → List ℕ) (c : List ℕ) (e : Draft) (i : ℕ) : Type 0 where
  pub put : Put b c d e (table i f)
  pub within : i ≤ count

pub writing_start : (b : List ℕ) (d : Draft) (count : ℕ) (f : ℕ → List ℕ) → Writing b d count f b d 0
writing_start b d count f = record { put = put_none b d; within = omega arith }

module _ {b c : List ℕ} {d e : Draft} {count i : ℕ} {f : ℕ → List ℕ} (size : ℕ) (sized : (j : ℕ) → length (line_bytes (f j)) ≡ size)
    (space : RoomFor b d count size) (w : Writing b d count f c e i) where
  written_offset : e.offset ≡ d.offset + i * size
  written_offset = omega (arith, w.put.offset, text_size i size f sized)

  room_before : e.offset ≤ length b
  room_before = omega (arith, written_offset, space.room, mul-le-mul_right size w.within)

  pub writing_length : length c ≡ length b
  writing_length = put_length room_before w.put

  -- there is room for the next one
  pub writing_room : i < count → RoomFor c e 1 size
  writing_room l =
      let m : suc i * size ≤ count * size = mul-le-mul_right size l in
      let s = suc-mul i size in
      let p = written_offset in
      let n = writing_length in
      let t = length_table i f in
      record {
        room = omega (arith, p, space.room);
        few = omega (arith, w.put.lines, space.few);
        fair = omega (arith, w.put.lines, w.put.sum, w.put.fair, space.fair);
      }

  pub writing_more : {a : List ℕ} {g : Draft} → i < count → Put c a e g (f i ∷ []) → Writing b d count f a g (i + 1)
  writing_more {a} {g} l p =
      record {
        put = subst (λ (n : ℕ). Put b a d g (table n f)) (sym (add-one i)) (put_join (omega (arith, space.room)) w.put p);
        within = omega arith;
      }

  pub writing_end : count ≤ i → Put b c d e (table count f)
  writing_end l = subst (λ (n : ℕ). Put b c d e (table n f)) (let m : i ≡ count = omega (arith, w.within) in m) w.put

-- ---- a body that was made by a call

pub room_body : {buffer body b : List ℕ} {d : Draft} → body ≡ b → length b ≤ longest_body → RoomFor buffer d 1 (2 * length b + 7)
    → (length body ≤ longest_body) × RoomFor buffer d 1 (2 * length body + 7)
room_body {buffer} {body} {b} {d} e l h =
    subst (λ (o : List ℕ). (length o ≤ longest_body) × RoomFor buffer d 1 (2 * length o + 7)) (sym e) (l, h)

pub put_body : {c a : List ℕ} {e g : Draft} (kind : ℕ) {body b : List ℕ} → body ≡ b
    → Put c a e g (framed kind body ∷ []) → Put c a e g (framed kind b ∷ [])
put_body {c} {a} {e} {g} kind p h = subst (λ (o : List ℕ). Put c a e g (framed kind o ∷ [])) p h
