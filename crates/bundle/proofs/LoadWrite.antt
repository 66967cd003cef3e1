-- A text that loads is what the writer writes of the record that it loads to.
use Rattle.std.specs.Prelude.{ℕ, ◌<◌, ◌≡◌, refl, ◌≢◌, List, [], ◌∷◌, ◌++◌, map, length}
use Rattle.std.proofs.Common.{sym, ◌∙◌, ap, append_assoc, append-nil, arith, ne_eqb}
use Rattle.std.proofs.Math.Path.{subst}
use Rattle.std.proofs.lemmas.Bool.{false≢true}
use Rattle.std.proofs.Math.ListN.{length-append}
use Rattle.common.specs.Lists.{at}
use Rattle.octets.proofs.LineLaws.{totals_append}
use Rattle.octets.specs.Line.{Framed, kind_octet, body_of, totals, text_of}
use Rattle.policy.specs.declared.Record.{Record}
use Rattle.policy.specs.Table.{Kind, head, end, code, kind_of, kinds, appended, indexed}
use Rattle.policy.specs.RoomLaws.{room_left}
use Rattle.policy.specs.MemoLaws.{rows_indexed}
use Rattle.reading.specs.Loaded.{Loaded}
use Rattle.reading.specs.Body.{numbers}
use Rattle.reading.specs.Loading.{Reading, at_top, line_refusal, after_line, read, load}
use Rattle.reading.specs.LoadingLaws.{Taken, taken, Sound, sound_top, sound_more, end_kept, Sort, sort}
use Rattle.reading.specs.LoadingLaws.Sort.{is_head, is_end, between}
use Rattle.bundle.specs.Writing.{line_octets, rule_lines, with_end, bundle_of}
use Rattle.reading.specs.FramedLaws.{Fine, Lines, lines_checked}
use Rattle.bundle.specs.FramedLaws.{octet_lines, text_again}
use Rattle.reading.specs.FramedLaws.Lines.{none, more}
use Rattle.reading.specs.FramedLaws.Checked.{refused_line_lem, octets_line}
use Rattle.bundle.specs.BodyLaws.{line_again}
use Rattle.reading.specs.KindLaws.{as_many}
use Rattle.bundle.proofs.GrownLaws.{lines_more, lines_first}
use Rattle.reading.specs.TakenLaws.{read_taken, end_taken}
use Rattle.bundle.specs.TakenLaws.{taken_end, taken_head, load_framed}

no_length : {A : Type 0} (l : List A) → length l ≡ 0 → l ≡ []
no_length [] e = refl
no_length (x ∷ l) e = absurd (omega arith)

-- the lines read so far, `done`: their count and sum; they are the record's lines, and after the end line these with their end line
record ReadSoFar (t : Reading) (done : List (List ℕ)) : Type 0 where
  lines : t.lines ≡ length done
  sum : t.sum ≡ totals done
  kept : t.lines ≢ 0 → t.last ≢ 0xFF → rule_lines kinds t.rules ≡ done
  ended : t.last ≡ 0xFF → with_end (rule_lines kinds t.rules) ≡ done

so_far_top : ReadSoFar at_top []
so_far_top = record { lines = refl; sum = refl; kept = λ h o. absurd (h refl); ended = λ e. absurd (omega arith) }

-- ---- one line more

module _ (t : Reading) (os : List ℕ) (done : List (List ℕ)) (fine : Fine os) (s : Sound t) (h : ReadSoFar t done) where
  -- the head
  first_line : Taken t head os → rule_lines kinds (appended head t.rules (numbers head os)) ≡ done ++ (os ∷ [])
  first_line w =
      let v = numbers head os in
      let z : t.lines ≡ 0 = w.first_head refl in
      ap (λ (u : Reading). rule_lines kinds (appended head u.rules v)) (s.top z)
      ∙ lines_first v
      ∙ (λ i. line_octets head (sym (taken_head 1 t.rules v w.passes) i ∷ at v 1 ∷ []) ∷ [])
      ∙ (λ i. line_again head os w.kind w.sized fine i ∷ [])
      ∙ ap (λ (ls : List (List ℕ)). ls ++ (os ∷ [])) (sym (no_length done (sym h.lines ∙ z)))

  -- a kind between head and end
  next_line_lem : (k : Kind) → 1 < code k → code k < 0xFF → Taken t k os
      → rule_lines kinds (appended k t.rules (numbers k os)) ≡ done ++ (os ∷ [])
  next_line_lem k low high w =
      lines_more k t.rules (numbers k os) low high s.sized
      (room_left k t.rules (numbers k os) low high (s.loads some) w.passes)
      (λ j l. s.empty j (omega arith) (let m = w.rises in omega arith))
      (as_many k t.rules (body_of os) high)
      ∙ (λ i. h.kept some w.ended i ++ (line_again k os w.kind w.sized fine i ∷ []))
    where
      some : t.lines ≢ 0
      some z = false≢true (sym (ne_eqb (code k) 1 (λ q. omega arith)) ∙ w.head_first z)

  -- the end line
  end_line_lem : Taken t end os → line_refusal t end os ≡ 0
      → with_end (rule_lines kinds (appended end t.rules (numbers end os))) ≡ done ++ (os ∷ [])
  end_line_lem w e =
      let v = numbers end os in
      let (count, sum) = taken_end t os e in
      ap (λ (r : Record). with_end (rule_lines kinds r)) (end_kept t.rules v)
      ∙ ap with_end (h.kept (λ z. false≢true (w.head_first z)) w.ended)
      ∙ (λ i. done ++ (line_octets end ((sym h.lines ∙ sym count) i ∷ (sym h.sum ∙ sym sum) i ∷ []) ∷ []))
      ∙ (λ i. done ++ (line_again end os w.kind w.sized fine i ∷ []))

  so_far_more : (k : Kind) → line_refusal t k os ≡ 0 → ReadSoFar (after_line t k os) (done ++ (os ∷ []))
  unfolding after_line
  so_far_more k e =
      record {
        lines = omega (arith, h.lines, length-append done (os ∷ []));
        sum = omega (arith, h.sum, totals_append done (os ∷ []));
        kept = λ some o. not_last o (sort k);
        ended = λ z. at_last z (sort k);
      }
    where
      not_last : code k ≢ 0xFF → Sort k → rule_lines kinds (appended k t.rules (numbers k os)) ≡ done ++ (os ∷ [])
      not_last o (is_head q) =
          subst (λ (i : Kind). Taken t i os → rule_lines kinds (appended i t.rules (numbers i os)) ≡ done ++ (os ∷ [])) q first_line
          (taken t k os e)
      not_last o (between low high) = next_line_lem k low high (taken t k os e)
      not_last o (is_end q) = absurd (o (ap code (sym q)))

      at_last : code k ≡ 0xFF → Sort k → with_end (rule_lines kinds (appended k t.rules (numbers k os))) ≡ done ++ (os ∷ [])
      at_last z (is_head q) = let b : code head ≡ 0xFF = ap code q ∙ z in absurd (omega arith)
      at_last z (between low high) = absurd (omega arith)
      at_last z (is_end q) =
          subst
          (λ (i : Kind). line_refusal t i os ≡ 0 → with_end (rule_lines kinds (appended i t.rules (numbers i os))) ≡ done ++ (os ∷ [])) q
          (λ f. end_line_lem (taken t end os f) f) e

-- ---- all lines

-- the index isn't written
lines_indexed : (r : Record) (ks : List Kind) → rule_lines ks (indexed r) ≡ rule_lines ks r
lines_indexed r [] = refl
lines_indexed r (k ∷ ks) = λ j. map (line_octets k) (rows_indexed r k j) ++ lines_indexed r ks j

-- the lines read, and those still to read, are the bundle's
read_so_far : {ls : List Framed} → Lines ls → (t : Reading) (done : List (List ℕ)) → Sound t → ReadSoFar t done → (read t ls).number ≡ 0
    → with_end (rule_lines kinds (read t ls).rules) ≡ done ++ octet_lines ls
unfolding read
read_so_far none t done s h e =
    let (last, same) = end_taken t e in
    ap (λ (r : Record). with_end (rule_lines kinds r)) same ∙ ap with_end (lines_indexed t.rules kinds) ∙ h.ended last ∙ sym (append-nil done)
read_so_far (more (refused_line_lem l u) p) t done s h e = absurd (omega arith)
read_so_far (more {ls = ls} (octets_line {os} f) p) t done s h e =
    let k = kind_of (kind_octet os) in
    let (z, q) = read_taken t os ls e in
    ap (λ (l : Loaded). with_end (rule_lines kinds l.rules)) q
    ∙ read_so_far p (after_line t k os) (done ++ (os ∷ [])) (sound_more t k os (taken t k os z) s) (so_far_more t os done f s h k z)
    (ap (λ (l : Loaded). l.number) (sym q) ∙ e)
    ∙ append_assoc done (os ∷ []) (octet_lines ls)

-- THE LAW: a text that loads is the bundle of the record that it loads to
pub load_write : (text : List ℕ) → (load text).number ≡ 0 → bundle_of (load text).rules ≡ text
unfolding load bundle_of
load_write text e = ap text_of (read_so_far (lines_checked text) at_top [] sound_top so_far_top e) ∙ sym (text_again text (load_framed text e))
