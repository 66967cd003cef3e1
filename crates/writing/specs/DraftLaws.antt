-- Laws of `Drafts`: no lines, and lines after lines.
use Rattle.std.specs.Prelude.{ℕ, zero, suc, ◌+◌, ◌*◌, ◌≤◌, ◌<◌, ◌≡◌, refl, List, [], ◌∷◌, ◌++◌, length, take, drop}
use Rattle.std.proofs.Common.{sym, ◌∙◌, ap, subst, append_assoc, arith, zero-mul, suc-mul, mul-le-mul_right, add-one, length-append, take-append-drop, length-drop, length-take-le, drop-drop}
use Rattle.std.proofs.Math.Seq.{take-append-add, take-append_seam, drop-append-add}
use Rattle.common.specs.Lists.{table}
use Rattle.octets.proofs.LineLaws.{totals_append}
use Rattle.octets.proofs.WritingLaws.{length_line}
use Rattle.octets.specs.Line.{framed, line_bytes, text_of}
use Rattle.writing.specs.declared.Draft.{Draft}
use Rattle.writing.specs.Drafts.{RoomFor, Put, Grown, Gives, lines_of}

pub text_append : (ls ms : List (List ℕ)) → text_of (ls ++ ms) ≡ text_of ls ++ text_of ms
text_append [] ms = refl
text_append (os ∷ ls) ms =
    ap (λ (t : List ℕ). line_bytes os ++ t) (text_append ls ms) ∙ sym (append_assoc (line_bytes os) (text_of ls) (text_of ms))

pub put_none : (b : List ℕ) (d : Draft) → Put b b d d []
put_none b d =
    record {
      bytes = sym (take-append-drop d.offset b);
      offset = omega arith;
      lines = omega arith;
      sum = omega arith;
      fair = omega arith;
    }

-- a text put at an offset p of b: what then stands up to its end, and past it
module _ (b t : List ℕ) (p q : ℕ) (within : p ≤ length b) (ends : q ≡ p + length t) where
  pub up_to : (c : List ℕ) → c ≡ take p b ++ (t ++ drop q b) → take q c ≡ take p b ++ t
  up_to c e =
      let n : q ≡ length (take p b) + length t = omega (arith, length-take-le p b within) in
      (λ j. take (n j) (e j))
      ∙ take-append-add (take p b) (t ++ drop q b) (length t)
      ∙ ap (λ (s : List ℕ). take p b ++ s) (take-append_seam t (drop q b))

  pub past : (c : List ℕ) (m : ℕ) → c ≡ take p b ++ (t ++ drop q b) → drop (q + m) c ≡ drop (q + m) b
  past c m e =
      let n : q + m ≡ length (take p b) + (length t + m) = omega (arith, length-take-le p b within) in
      (λ j. drop (n j) (e j)) ∙ drop-append-add (take p b) (t ++ drop q b) (length t + m) ∙ drop-append-add t (drop q b) m ∙ drop-drop m q b

-- lines after lines
pub put_join : {b c a : List ℕ} {d e f : Draft} {ls ms : List (List ℕ)} → d.offset ≤ length b
    → Put b c d e ls → Put c a e f ms → Put b a d f (ls ++ ms)
put_join {b} {c} {a} {d} {e} {f} {ls} {ms} l p q =
    record {
      bytes =
          q.bytes
          ∙ (λ j. up_to b (text_of ls) d.offset e.offset l p.offset c p.bytes j ++ (text_of ms ++ later j))
          ∙ append_assoc (take d.offset b) (text_of ls) (text_of ms ++ drop f.offset b)
          ∙ ap (λ (t : List ℕ). take d.offset b ++ t)
          (sym (append_assoc (text_of ls) (text_of ms) (drop f.offset b))
          ∙ ap (λ (t : List ℕ). t ++ drop f.offset b) (sym (text_append ls ms)));
      offset = omega (arith, p.offset, q.offset, ap length (text_append ls ms), length-append (text_of ls) (text_of ms));
      lines = omega (arith, p.lines, q.lines, length-append ls ms);
      sum = omega (arith, p.sum, q.sum, totals_append ls ms);
      fair = omega (arith, p.fair, q.fair, totals_append ls ms, length-append ls ms);
    }
  where
    later : drop f.offset c ≡ drop f.offset b
    later =
        ap (λ (n : ℕ). drop n c) q.offset
        ∙ past b (text_of ls) d.offset e.offset l p.offset c (length (text_of ms)) p.bytes
        ∙ ap (λ (n : ℕ). drop n b) (sym q.offset)

-- the buffer is as long as it was
pub put_length : {b a : List ℕ} {d e : Draft} {ls : List (List ℕ)} → e.offset ≤ length b → Put b a d e ls → length a ≡ length b
put_length {b} {a} {d} {e} {ls} l p =
    ap length p.bytes
    ∙ length-append (take d.offset b) (text_of ls ++ drop e.offset b)
    ∙ (let x = length-append (text_of ls) (drop e.offset b) in
    let y = length-drop e.offset b in
    let z = length-take-le d.offset b (omega (arith, p.offset)) in
    omega (arith, x, y, z, p.offset))

-- ---- lines of one size

pub text_size : (n size : ℕ) (f : ℕ → List ℕ) → ((j : ℕ) → length (line_bytes (f j)) ≡ size) → length (text_of (table n f)) ≡ n * size
text_size zero size f h = sym (zero-mul size)
text_size (suc n) size f h =
    ap length (text_append (table n f) (f n ∷ []))
    ∙ length-append (text_of (table n f)) (line_bytes (f n) ++ [])
    ∙ (let a = text_size n size f h in
    let b = length-append (line_bytes (f n)) [] in
    let c = h n in
    let e = suc-mul n size in
    omega arith)

-- the lines of so many rows, each of so many bytes, have been written, as a closure gave their bodies
pub record Writing {B : Type 0} (octets : B → List ℕ) (post : ℕ → B → Type 0) (size kind : ℕ) (b : List ℕ) (d : Draft) (c : List ℕ) (e : Draft)
    (i : ℕ) : Type 0 where
  pub grown : Grown b c d e i size
  pub put : (bodies : ℕ → List ℕ) → Gives octets post i bodies → Put b c d e (table i (lines_of kind bodies))

module _ {B : Type 0} {octets : B → List ℕ} {post : ℕ → B → Type 0} {size kind : ℕ} {b : List ℕ} {d : Draft} {c : List ℕ} {e : Draft} {i count : ℕ}
    (w : Writing octets post size kind b d c e i) (space : RoomFor b d count size) (l : i < count) where
  -- there is room for the next one
  pub writing_room : RoomFor c e 1 size
  writing_room =
      let m : suc i * size ≤ count * size = mul-le-mul_right size l in
      record {
        room = omega (arith, suc-mul i size, w.grown.offset, w.grown.long, space.room);
        few = omega (arith, w.grown.lines, space.few);
        fair = w.grown.fair;
      }

  pub writing_more : {a : List ℕ} {g : Draft} {body : List ℕ} (r : B) → post i r → body ≡ octets r → size ≡ 2 * length body + 7
      → Put c a e g (framed kind body ∷ []) → Writing octets post size kind b d a g (i + 1)
  writing_more {a} {g} {body} r h is long p =
      record {
        grown = record {
          offset = omega (arith, p.offset, w.grown.offset, one, suc-mul i size);
          lines = omega (arith, p.lines, w.grown.lines);
          fair = omega (arith, w.grown.fair, p.fair, p.lines, p.sum);
          long = put_length (omega (arith, p.offset, one, writing_room.room, w.grown.long)) p ∙ w.grown.long;
        };
        put = λ bodies gives.
            let next : framed kind body ≡ lines_of kind bodies i = ap (framed kind) (is ∙ gives i r (omega arith) h) in
            subst (λ (ls : List (List ℕ)). Put b a d g ls) (ap (λ (os : List ℕ). table i (lines_of kind bodies) ++ (os ∷ [])) next ∙ ap (λ (n : ℕ). table n (lines_of kind bodies)) (sym (add-one i)))
            (put_join (omega (arith, w.grown.offset, space.room, mul-le-mul_right size l, suc-mul i size))
            (w.put bodies (λ j x k q. gives j x (omega arith) q)) p);
      }
    where
      one : length (text_of (framed kind body ∷ [])) ≡ size
      one =
          length-append (line_bytes (framed kind body)) []
          ∙ (let n = length_line kind body in let z : length (line_bytes (framed kind body)) + 0 ≡ size = omega arith in z)
