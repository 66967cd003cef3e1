-- What stands at an offset, from what `sized_line` and `other_refusal` answer.
use Rattle.std.specs.Prelude.{ℕ, ◌+◌, ◌*◌, ◌≤◌, ◌<◌, ◌≡◌, refl, ◌≢◌, Bool, true, false, cond, List, ◌++◌, length, drop, replicate, eqb, None, Some}
use Rattle.std.proofs.Common.{sym, ◌∙◌, ap, arith, eqb-true, eq-eqb, ne_eqb, length-drop}
use borrow.Author.Tests.{lt-ltb, le-ltb}
use Rattle.std.proofs.lemmas.Option.{none-some}
use Rattle.common.specs.Lists.{at}
use Rattle.common.specs.Limits.{line_room}
use Rattle.common.specs.Refusals.{wrong_kind}
use Rattle.octets.specs.Line.{Framed, refused, octets, kind_octet, total, frame}
use Rattle.octets.proofs.LineLaws.{accepted, refused_is, next_line_lem, octet_at_lem}
use Rattle.octets.specs.Answers.{octet_at, total_of_size, HoldsLine}
use Rattle.octets.proofs.AnswerLaws.{AnswerOctets, held_octet}
use Rattle.lines.specs.NextLine.{NextValues, no_line, refused_line, body_line, next_of, other_is, other_refusal}
use Rattle.lines.proofs.FoundLine.{Stands, stands, framed_within}
use Rattle.lines.proofs.FoundLine.Stands.{past, not_framed, of_another_kind, of_another_size, of_the_kind}

-- ---- a line of the size

pub record OfSize (text : List ℕ) (offset size sum : ℕ) : Type 0 where
  pub os : List ℕ
  pub framed : frame (drop offset text) ≡ octets os
  pub sized : length os ≡ size
  pub summed : sum ≡ total os

pub of_size : (text : List ℕ) (offset size : ℕ) {sum : ℕ} → Some sum ≡ total_of_size size (frame (drop offset text))
    → OfSize text offset size sum
of_size text offset size {sum} e = go (frame (drop offset text)) refl e
  where
    pick : (os : List ℕ) → frame (drop offset text) ≡ octets os → (x : Bool) → eqb (length os) size ≡ x
        → Some sum ≡ cond x (Some (total os)) None
        → OfSize text offset size sum
    pick os f true q e = record { os = os; framed = f; sized = eqb-true _ _ q; summed = cc }
    pick os f false q e = absurd (none-some _ (sym e))

    go : (f : Framed) → frame (drop offset text) ≡ f → Some sum ≡ total_of_size size f → OfSize text offset size sum
    go (refused k) f e = absurd (none-some _ (sym e))
    go (octets os) f e = pick os f (eqb (length os) size) refl e

module _ {text : List ℕ} {offset size sum : ℕ} (z : OfSize text offset size sum) where
  -- it has at least three octets
  pub of_size_some : 3 ≤ size
  of_size_some = let h = (accepted z.framed).long in let s = z.sized in omega arith

  -- and the next line starts within the text, or at its end
  pub of_size_next : offset + 2 * size + 1 ≤ length text
  of_size_next =
      let n = (next_line_lem (drop offset text) z.framed).0 in let s = z.sized in omega (arith, length-drop offset text)

  -- in a room for them
  module _ (kind : ℕ) (before : List ℕ) {room : List ℕ} (h : HoldsLine size (frame (drop offset text)) before room) where
    -- the octet that says the kind
    kind_read : at room 1 ≡ kind_octet z.os
    kind_read = held_octet before h z.framed z.sized 1 (omega (arith, of_size_some))

    here : next_of text offset kind size
        ≡ cond (eqb (kind_octet z.os) kind)
        (cond (eqb (length z.os) size) (body_line (offset + 2 * length z.os + 1) (total z.os)) (refused_line wrong_kind))
        no_line
    here = framed_within text offset kind size z.framed

    -- of another kind
    pub next_other : at room 1 ≢ kind → no_line ≡ next_of text offset kind size
    next_other ne = sym (here ∙ rw (ne_eqb (kind_octet z.os) kind (λ e. ne (kind_read ∙ e))))

    -- of the kind
    pub next_body : at room 1 ≡ kind → body_line (offset + 2 * size + 1) sum ≡ next_of text offset kind size
    next_body e =
        sym (here
        ∙ rw (eq-eqb _ _ (sym kind_read ∙ e), eq-eqb _ _ z.sized)
        (λ i. body_line (offset + 2 * z.sized i + 1) (sym z.summed i)))

-- ---- no line of the size

-- what is left: refused, or for another reader
abbrev next_left : ℕ → NextValues
next_left n = cond (eqb n 0) no_line (refused_line n)

module _ (text : List ℕ) (offset kind : ℕ) where
  pub other_end : length text ≤ offset → 0 ≡ other_refusal text offset kind
  unfolding other_refusal
  other_end l = rw (le-ltb offset (length text) l)

  module _ (l : offset < length text) where
    other_is_lem : {f : Framed} → frame (drop offset text) ≡ f → other_refusal text offset kind ≡ other_is kind f
    unfolding other_refusal
    other_is_lem e = rw (lt-ltb offset (length text) l) (ap (other_is kind) e)

    pub other_refused : {k : ℕ} → frame (drop offset text) ≡ refused k → k ≡ other_refusal text offset kind
    other_refused e = sym (other_is_lem e)

    module _ {count next sum : ℕ} (t : AnswerOctets offset count next sum (frame (drop offset text))) {o : ℕ}
        (e : o ≡ octet_at (drop offset text) 1) where
      -- the octet that says the kind
      says : o ≡ kind_octet t.os
      says = e ∙ octet_at_lem (drop offset text) 1 t.framed (let h = (accepted t.framed).long in omega arith)

      pub other_kind : o ≢ kind → 0 ≡ other_refusal text offset kind
      other_kind ne = sym (other_is_lem t.framed ∙ rw (ne_eqb (kind_octet t.os) kind (λ z. ne (says ∙ z))))

      pub own_kind : o ≡ kind → wrong_kind ≡ other_refusal text offset kind
      own_kind k = sym (other_is_lem t.framed ∙ rw (eq-eqb (kind_octet t.os) kind (sym says ∙ k)))

  next_left_lem : (size : ℕ) → None ≡ total_of_size size (frame (drop offset text))
      → next_of text offset kind size ≡ next_left (other_refusal text offset kind)
  next_left_lem size e = go (stands text offset kind size)
    where
      go : Stands text offset kind size → next_of text offset kind size ≡ next_left (other_refusal text offset kind)
      go (past l f) = f ∙ ap next_left (other_end l)
      go (not_framed l {k} g f) =
          f ∙ sym (ap next_left (other_is_lem l g) ∙ rw (ne_eqb k 0 (λ z. let b = refused_is (drop offset text) g in omega arith)))
      go (of_another_kind l {os} g h f) = f ∙ sym (ap next_left (other_is_lem l g) ∙ rw (ne_eqb (kind_octet os) kind h))
      go (of_another_size l {os} g o d f) = f ∙ sym (ap next_left (other_is_lem l g) ∙ rw (eq-eqb (kind_octet os) kind o))
      go (of_the_kind l {os} g o d f) = absurd (none-some (total os) (e ∙ ap (total_of_size size) g ∙ rw (eq-eqb (length os) size d)))

  module _ (size : ℕ) (e : None ≡ total_of_size size (frame (drop offset text))) {n : ℕ} (q : n ≡ other_refusal text offset kind) where
    pub left_refused : n ≢ 0 → refused_line n ≡ next_of text offset kind size
    left_refused ne = sym (next_left_lem size e ∙ ap next_left (sym q) ∙ rw (ne_eqb n 0 ne))

    pub left_other : n ≡ 0 → no_line ≡ next_of text offset kind size
    left_other z = sym (next_left_lem size e ∙ ap next_left (sym q ∙ z))
