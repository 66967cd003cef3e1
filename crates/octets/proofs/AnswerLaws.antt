-- What an answer of `read_line` says of the line, by its number and values; no other answer has them.
use Rattle.std.specs.Prelude.{◌≡◌, ℕ, ◌+◌, ◌*◌, ◌<◌, List, length, refl, Result, Ok, Err}
use Rattle.std.proofs.Common.{sym, ◌∙◌, ap, arith}
use Rattle.std.proofs.Math.ListN.{get_or-append}
use Rattle.common.specs.Lists.{at}
use Rattle.common.specs.RefusalNumbers.{number}
use Rattle.common.specs.RefusalLaws.{same_refusal}
use Rattle.common.specs.declared.Refusal.{Refusal}
use Rattle.octets.specs.Line.{Framed, refused, octets, total, frame}
use Rattle.octets.proofs.LineLaws.{refused_is}
use Rattle.octets.specs.Answers.{LineValues, line_values, framed_values, HoldsLine}
use Rattle.octets.specs.declared.FramedLine.{FramedLine}

-- the line has octets; their count, the next offset and the plain sum are those answered
pub record AnswerOctets (offset count next sum : ℕ) (f : Framed) : Type 0 where
  pub os : List ℕ
  pub framed : f ≡ octets os
  pub counted : count ≡ length os
  pub follows : next ≡ offset + 2 * length os + 1
  pub summed : sum ≡ total os

module _ (offset : ℕ) (t : List ℕ) where
  values_refused : (k : Refusal) → line_values (Err k) ≡ framed_values offset (frame t) → frame t ≡ refused (number k)
  values_refused k e = go (frame t) e
    where
      go : (f : Framed) → line_values (Err k) ≡ framed_values offset f → f ≡ refused (number k)
      go (refused j) e = ap (λ (v : LineValues). refused v.number) (sym e)
      go (octets os) e = let z = ap (λ (v : LineValues). v.next) e in absurd (omega arith)

  values_octets : (l : FramedLine) → line_values (Ok l) ≡ framed_values offset (frame t)
      → AnswerOctets offset l.count l.next l.total (frame t)
  values_octets l e = go (frame t) refl e
    where
      go : (f : Framed) → frame t ≡ f → line_values (Ok l) ≡ framed_values offset f → AnswerOctets offset l.count l.next l.total f
      go (refused j) q e = let z = ap (λ (v : LineValues). v.number) e in let l = refused_is t q in absurd (omega arith)
      go (octets os) q e =
          record {
            os = os;
            framed = refl;
            counted = ap (λ (v : LineValues). v.count) e;
            follows = ap (λ (v : LineValues). v.next) e;
            summed = ap (λ (v : LineValues). v.total) e;
          }

  module _ {r : Result FramedLine Refusal} (e : line_values r ≡ framed_values offset (frame t)) where
    pub answer_refused : {k : Refusal} → r ≡ Err k → frame t ≡ refused (number k)
    answer_refused {k} a = values_refused k (ap line_values (sym a) ∙ e)

    pub answer_octets_lem : {l : FramedLine} → r ≡ Ok l → AnswerOctets offset l.count l.next l.total (frame t)
    answer_octets_lem {l} a = values_octets l (ap line_values (sym a) ∙ e)

  -- the number and values say which answer it is
  pub same_line : (a b : Result FramedLine Refusal) → line_values a ≡ framed_values offset (frame t)
      → line_values b ≡ framed_values offset (frame t) → a ≡ b
  same_line (Err j) (Err k) e f = ap Err (same_refusal (ap (λ (v : LineValues). v.number) (e ∙ sym f)))
  same_line (Err j) (Ok l) e f =
      let q = values_refused j e in let w = (values_octets l f).framed in let z : ◌≡◌ {A = ℕ} 0 1 = cc in absurd (omega arith)
  same_line (Ok l) (Err k) e f =
      let q = values_refused k f in let w = (values_octets l e).framed in let z : ◌≡◌ {A = ℕ} 0 1 = cc in absurd (omega arith)
  same_line (Ok l) (Ok m) e f =
      ap (λ (v : LineValues). Ok (record { count = v.count; next = v.next; total = v.total })) (e ∙ sym f)

-- the octets of a line of the size, in the room that holds it
pub held_octet : {size : ℕ} {f : Framed} (before : List ℕ) {after os : List ℕ} → HoldsLine size f before after → f ≡ octets os
    → length os ≡ size → (k : ℕ) → k < size → at after k ≡ at os k
held_octet before {os = os} h e s k l = ap (λ (r : List ℕ). at r k) (h os e s) ∙ get_or-append os _ 0 k (omega arith)
