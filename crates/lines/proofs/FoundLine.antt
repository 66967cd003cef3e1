-- What `next_of` found at an offset: the text's end or a line of another kind, a refused line, or a line of the kind.
use Rattle.std.specs.Prelude.{ℕ, ◌+◌, ◌-◌, ◌*◌, ◌≤◌, ◌<◌, ◌≡◌, refl, ◌≢◌, Bool, true, false, cond, List, [], ◌∷◌, length, drop, replicate, ltb, eqb, Option, None, Some, Result, Ok, Err}
use Rattle.std.proofs.Common.{sym, ◌∙◌, ap, subst, arith, eqb-true}
use Rattle.std.proofs.lemmas.Bool.{false≢true, eqb-false}
use Rattle.std.proofs.Math.Decide.{dec_lt}
use Rattle.std.proofs.Math.ListN.{drop_of_length-le, get_or}
use lib.Seq.{get_or-drop}
use borrow.Author.Tests.{lt-ltb, le-ltb}
use Rattle.common.specs.Lists.{at, table}
use Rattle.common.specs.ListLaws.{table_same, zeros_at, zero_at}
use Rattle.common.specs.Limits.{line_room}
use Rattle.common.specs.Refusals.{wrong_kind}
use Rattle.common.specs.RefusalLaws.{same_refusal}
use Rattle.common.specs.declared.Refusal.{Refusal}
use Rattle.octets.specs.Line.{Framed, refused, octets, kind_octet, total, line_of, frame}
use Rattle.octets.specs.Number.{number}
use Rattle.octets.specs.Answers.{HoldsLine}
use Rattle.octets.proofs.LineLaws.{accepted, refused_is}
use Rattle.octets.proofs.WritingLaws.{Octets, octets_of_pairs}
use Rattle.lines.specs.declared.TableKind.{TableKind}
use Rattle.lines.specs.declared.TableKind.TheVariants.{Users, Edges, Formulas, Demarcations, Hierarchy, Principals, Exclusions, Prerequisites, Methods}
use Rattle.lines.specs.declared.Row.TheVariants.{User, Edge, Formula, Demarcation, Principal, Exclusion, Prerequisite, Method}
use Rattle.lines.specs.declared.Row.TheVariants as rows
use Rattle.lines.specs.declared.Line.{Line}
use Rattle.lines.specs.NextLine.{NextValues, no_line, refused_line, body_line, next_values, next_is, next_of}
use Rattle.lines.specs.NextLine.{octets_in, octets_at, number_at}
use Rattle.lines.specs.Judging.{table_of, row_at, kind_in, most_line_sum}

-- a line of the kind and size
pub record FoundLine (text : List ℕ) (offset kind size next sum : ℕ) : Type 0 where
  pub os : List ℕ
  pub within : offset < length text
  pub framed : frame (drop offset text) ≡ octets os
  pub ours : kind_octet os ≡ kind
  pub sized : length os ≡ size
  pub follows : next ≡ offset + 2 * length os + 1
  pub summed : sum ≡ total os

-- the numbers of a line are those of its octets
row_same : (kind : TableKind) (size : ℕ) (l m : List ℕ) → ((k : ℕ) → at l k ≡ at m k) → row_at kind size l ≡ row_at kind size m
unfolding number_at
row_same Users n l m h = λ i. User (h 2 i) (h 3 i * 256 + h 4 i)
row_same Edges n l m h = λ i. Edge (h 2 i) (h 3 i) (h 4 i)
row_same Formulas n l m h = λ i. Formula (h 2 i) (h 3 i) (h 4 i)
row_same Demarcations n l m h = λ i. Demarcation (cond (ltb 10 n) (number (table 8 (λ j. h (n - 9 + j) i))) 0)
row_same Hierarchy n l m h = λ i. rows.Hierarchy (h 2 i) (h 3 i)
row_same Principals n l m h = λ i. Principal (h 2 i) (h 3 i)
row_same Exclusions n l m h = λ i. Exclusion (h 2 i) (h 3 i)
row_same Prerequisites n l m h = λ i. Prerequisite (h 2 i) (h 3 i)
row_same Methods n l m h = λ i. Method (h 2 i) (cond (ltb 10 n) (number (table 8 (λ j. h (n - 9 + j) i))) 0)

-- and so is the kind whose they are
pub row_kind : (kind : TableKind) (size : ℕ) (os : List ℕ) → kind_in (row_at kind size os) ≡ table_of kind
row_kind Users n os = refl
row_kind Edges n os = refl
row_kind Formulas n os = refl
row_kind Demarcations n os = refl
row_kind Hierarchy n os = refl
row_kind Principals n os = refl
row_kind Exclusions n os = refl
row_kind Prerequisites n os = refl
row_kind Methods n os = refl

-- the octets in a room that was empty: one by one, as numbers, and as the line's numbers
module _ {text : List ℕ} {offset kind size next sum : ℕ} (f : FoundLine text offset kind size next sum) {room : List ℕ}
    (h : HoldsLine size (frame (drop offset text)) (replicate line_room 0) room) where
  pub found_octet : (k : ℕ) → at room k ≡ at f.os k
  found_octet k =
      ap (λ (r : List ℕ). at r k) (h f.os f.framed f.sized)
      ∙ zeros_at f.os (drop size (replicate line_room 0))
      (λ j. get_or-drop size (replicate line_room 0) j 0 ∙ zero_at line_room (size + j)) k

  pub found_number : (k n : ℕ) → number_at room k n ≡ number_at f.os k n
  unfolding number_at
  found_number k n = ap number (table_same n _ _ (λ i m. found_octet (k + i)))

  pub found_row : (kind : TableKind) → row_at kind size room ≡ row_at kind size (octets_at text offset)
  found_row kind = row_same kind size room f.os found_octet ∙ ap (λ (g : Framed). row_at kind size (octets_in g)) (sym f.framed)

total_most : (os : List ℕ) → Octets os → total os ≤ 255 * length os
total_most [] p = omega arith
total_most (o ∷ os) p = let h = total_most os p.1 in let k = p.0 in omega arith

-- the octets of an accepted line add to at most so much
pub sum_most : (t : List ℕ) {os : List ℕ} → frame t ≡ octets os → total os ≤ most_line_sum
sum_most t {os} e =
    let a = accepted e in
    let p : Octets os = subst Octets a.read (octets_of_pairs (line_of t) a.are) in
    let m = total_most os p in
    let h : length os ≤ 258 = first_most os p a.long in
    omega arith
  where
    first_most : (os : List ℕ) → Octets os → get_or os 0 0 + 3 ≡ length os → length os ≤ 258
    first_most [] p e = omega arith
    first_most (o ∷ os) p e = let k = p.0 in omega arith

-- so those of a line that was found
pub found_sum : {text : List ℕ} {offset kind size next sum : ℕ} → FoundLine text offset kind size next sum
    → sum ≤ most_line_sum
found_sum {text} {offset} f = let m = sum_most (drop offset text) f.framed in let e = f.summed in omega arith

-- and the one that says the kind is an octet
pub kind_octet_lem : (t : List ℕ) {os : List ℕ} → frame t ≡ octets os → kind_octet os ≤ 0xFF
kind_octet_lem t {os} e = let a = accepted e in second os (subst Octets a.read (octets_of_pairs (line_of t) a.are))
  where
    second : (os : List ℕ) → Octets os → kind_octet os ≤ 0xFF
    second [] p = omega arith
    second (o ∷ []) p = omega arith
    second (o ∷ c ∷ os) p = let k = p.1.0 in omega arith

none_framed : {os : List ℕ} → frame [] ≡ octets os → ⊥
unfolding frame
none_framed e = cc

module _ (text : List ℕ) (offset kind size : ℕ) where
  -- what may stand there
  pub data Stands : Type 0 where
    past : length text ≤ offset → next_of text offset kind size ≡ no_line → Stands
    not_framed :
        offset < length text → {k : ℕ} → frame (drop offset text) ≡ refused k → next_of text offset kind size ≡ refused_line k → Stands
    of_another_kind :
        offset < length text → {os : List ℕ} → frame (drop offset text) ≡ octets os → kind_octet os ≢ kind
        → next_of text offset kind size ≡ no_line → Stands
    of_another_size :
        offset < length text → {os : List ℕ} → frame (drop offset text) ≡ octets os → kind_octet os ≡ kind → length os ≢ size
        → next_of text offset kind size ≡ refused_line wrong_kind → Stands
    of_the_kind :
        offset < length text → {os : List ℕ} → frame (drop offset text) ≡ octets os → kind_octet os ≡ kind → length os ≡ size
        → next_of text offset kind size ≡ body_line (offset + 2 * length os + 1) (total os) → Stands

  pub stands : Stands
  unfolding next_of
  stands = go (dec_lt offset (length text))
    where
      pick : (l : offset < length text) (os : List ℕ) → frame (drop offset text) ≡ octets os
          → next_of text offset kind size ≡ next_is offset kind size (octets os)
          → (x y : Bool) → eqb (kind_octet os) kind ≡ x → eqb (length os) size ≡ y
          → Stands
      pick l os f e true true p q = of_the_kind l f (eqb-true _ _ p) (eqb-true _ _ q) (e ∙ rw (p, q))
      pick l os f e true false p q = of_another_size l f (eqb-true _ _ p) (eqb-false _ _ q) (e ∙ rw (p, q))
      pick l os f e false y p q = of_another_kind l f (eqb-false _ _ p) (e ∙ rw p)

      framed_as : (l : offset < length text) (f : Framed) → frame (drop offset text) ≡ f
          → next_of text offset kind size ≡ next_is offset kind size f → Stands
      framed_as l (refused k) f e = not_framed l f e
      framed_as l (octets os) f e = pick l os f e (eqb (kind_octet os) kind) (eqb (length os) size) refl refl

      go : Dec (offset < length text) → Stands
      go (yes l) = framed_as l (frame (drop offset text)) refl (rw (lt-ltb offset (length text) l))
      go (no h) = let l : length text ≤ offset = omega arith in past l (rw (le-ltb offset (length text) l))

  -- a framed line
  pub framed_within :
      {os : List ℕ} → frame (drop offset text) ≡ octets os → next_of text offset kind size ≡ next_is offset kind size (octets os)
  unfolding next_of
  framed_within e = rw (lt-ltb offset (length text) within) (ap (next_is offset kind size) e)
    where
      within : offset < length text
      within = go (dec_lt offset (length text))
        where
          go : Dec (offset < length text) → offset < length text
          go (yes l) = l
          go (no h) = absurd (none_framed (sym (ap frame (drop_of_length-le text (let l : length text ≤ offset = omega arith in l))) ∙ e))

  -- another kind, or the text's end
  pub other_kind : next_of text offset kind size ≡ no_line → {os : List ℕ} → frame (drop offset text) ≡ octets os → kind_octet os ≢ kind
  other_kind n {os} e = go stands
    where
      go : Stands → kind_octet os ≢ kind
      go (past l f) = absurd (none_framed (sym (ap frame (drop_of_length-le text l)) ∙ e))
      go (not_framed l g f) = absurd cc
      go (of_another_kind l {os = ps} g h f) = let q : ps ≡ os = cc in subst (λ (u : List ℕ). kind_octet u ≢ kind) q h
      go (of_another_size l g o d f) = absurd (false≢true (ap (λ (v : NextValues). v.read) (sym n ∙ f)))
      go (of_the_kind l g o d f) = absurd (false≢true (ap (λ (v : NextValues). v.read) (sym n ∙ f)))

  -- a refused line: not framed, or of this kind and another size
  pub data RefusedLine (n : ℕ) : Type 0 where
    unframed : offset < length text → frame (drop offset text) ≡ refused n → RefusedLine n
    other_size :
        offset < length text → {os : List ℕ} → frame (drop offset text) ≡ octets os → kind_octet os ≡ kind → length os ≢ size → n ≡ wrong_kind
        → RefusedLine n

  pub refused_line_lem : {n : ℕ} → next_of text offset kind size ≡ refused_line n → RefusedLine n
  refused_line_lem {n} e = go stands
    where
      go : Stands → RefusedLine n
      go (past l f) = absurd (false≢true (ap (λ (v : NextValues). v.read) (sym f ∙ e)))
      go (not_framed l g f) = unframed l (g ∙ ap (λ (v : NextValues). refused v.number) (sym f ∙ e))
      go (of_another_kind l g h f) = absurd (false≢true (ap (λ (v : NextValues). v.read) (sym f ∙ e)))
      go (of_another_size l g o d f) = other_size l g o d (ap (λ (v : NextValues). v.number) (sym e ∙ f))
      go (of_the_kind l g o d f) = let z = ap (λ (v : NextValues). v.next) (sym e ∙ f) in absurd (omega arith)

  pub refused_some : {n : ℕ} → next_of text offset kind size ≡ refused_line n → n ≢ 0
  refused_some {n} e z = go (refused_line_lem e)
    where
      go : RefusedLine n → ⊥
      go (unframed l f) = let b = refused_is _ f in omega arith
      go (other_size l f o d w) = omega arith

  -- a line of this kind and size
  pub found_line :
      {next sum : ℕ} → next_of text offset kind size ≡ body_line next sum → FoundLine text offset kind size next sum
  found_line {next} {sum} e = go stands
    where
      go : Stands → FoundLine text offset kind size next sum
      go (past l f) = absurd (false≢true (ap (λ (v : NextValues). v.read) (sym f ∙ e)))
      go (not_framed l g f) =
          let z = ap (λ (v : NextValues). v.number) (sym e ∙ f) in let k = refused_is (drop offset text) g in absurd (omega arith)
      go (of_another_kind l g h f) = absurd (false≢true (ap (λ (v : NextValues). v.read) (sym f ∙ e)))
      go (of_another_size l g o d f) = let z = ap (λ (v : NextValues). v.number) (sym e ∙ f) in absurd (omega arith)
      go (of_the_kind l {os = os} g o d f) =
          record {
            os = os;
            within = l;
            framed = g;
            ours = o;
            sized = d;
            follows = ap (λ (v : NextValues). v.next) (sym e ∙ f);
            summed = ap (λ (v : NextValues). v.total) (sym e ∙ f);
          }

  -- a line of another kind
  pub other_line : offset < length text → next_of text offset kind size ≡ no_line
      → (os : List ℕ) × (frame (drop offset text) ≡ octets os) × (kind_octet os ≢ kind)
  other_line l e = go stands
    where
      go : Stands → (os : List ℕ) × (frame (drop offset text) ≡ octets os) × (kind_octet os ≢ kind)
      go (past m f) = absurd (omega arith)
      go (not_framed m g f) = absurd (false≢true (ap (λ (v : NextValues). v.read) (sym e ∙ f)))
      go (of_another_kind m {os = os} g h f) = (os, g, h)
      go (of_another_size m g o d f) = absurd (false≢true (ap (λ (v : NextValues). v.read) (sym e ∙ f)))
      go (of_the_kind m g o d f) = absurd (false≢true (ap (λ (v : NextValues). v.read) (sym e ∙ f)))

  -- the number and values say which answer it is
  pub same_next : (a b : Result (Option Line) Refusal) → next_values a ≡ next_of text offset kind size
      → next_values b ≡ next_of text offset kind size → a ≡ b
  same_next (Ok None) (Ok None) e f = refl
  same_next (Ok None) (Err k) e f = absurd (false≢true (ap (λ (v : NextValues). v.read) (e ∙ sym f)))
  same_next (Ok None) (Ok (Some l)) e f = absurd (false≢true (ap (λ (v : NextValues). v.read) (e ∙ sym f)))
  same_next (Err k) (Ok None) e f = absurd (false≢true (ap (λ (v : NextValues). v.read) (f ∙ sym e)))
  same_next (Err k) (Err j) e f = ap Err (same_refusal (ap (λ (v : NextValues). v.number) (e ∙ sym f)))
  same_next (Err k) (Ok (Some l)) e f = absurd (refused_some (sym e) (ap (λ (v : NextValues). v.number) (e ∙ sym f)))
  same_next (Ok (Some l)) (Ok None) e f = absurd (false≢true (ap (λ (v : NextValues). v.read) (f ∙ sym e)))
  same_next (Ok (Some l)) (Err k) e f = absurd (refused_some (sym f) (ap (λ (v : NextValues). v.number) (f ∙ sym e)))
  same_next (Ok (Some l)) (Ok (Some m)) e f =
      ap (λ (v : NextValues). Ok (Some (record { next = v.next; total = v.total }))) (e ∙ sym f)
