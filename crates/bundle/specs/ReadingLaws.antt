-- Reading written lines from the top, one line after another.
use Rattle.std.specs.Prelude.{ℕ, ◌+◌, ◌≡◌, refl, Bool, true, false, not, cond, List, [], ◌∷◌, ◌++◌, map, length, eqb}
use Rattle.std.proofs.Common.{◌∙◌, ap, append_assoc, arith, length-append, eqb-true, eq-eqb, ne_eqb, le-ltb}
use Rattle.std.proofs.lemmas.List.{map-append}
use Rattle.common.specs.BoolLaws.{same_test}
use Rattle.common.specs.Causes.{Cause, cause, first}
use Rattle.common.specs.Refusals.{wrong_end}
use Rattle.octets.proofs.LineLaws.{totals_append}
use Rattle.octets.specs.Line.{Framed, octets, kind_octet, body_of, total, totals}
use Rattle.policy.specs.Table.{Kind, head, code, is_kind, kind_of, count}
use Rattle.policy.specs.TableLaws.{kind_of_code}
use Rattle.policy.specs.Rows.{row_causes, row_refusal}
use Rattle.policy.specs.Table.{widths}
use Rattle.reading.specs.Body.{numbers}
use Rattle.reading.specs.Loading.{Reading, at_top, misplaced, end_wrong, line_refusal, after_line, not_loaded, read}
use Rattle.reading.specs.LoadingLaws.{Taken}

-- ---- a line that is taken, from what `Taken` says of it

none_after : (cs : List Cause) (c : Cause) → first cs ≡ 0 → first (c ∷ []) ≡ 0 → first (cs ++ (c ∷ [])) ≡ 0
none_after [] c e f = f
none_after (cause k true ∷ cs) c e f = e
none_after (cause k false ∷ cs) c e f = none_after cs c e f

both_one : (x y : Bool) → x ≡ y → not (eqb (cond x 1 0) (cond y 1 0)) ≡ false
both_one x y e = rw (eq-eqb (cond x 1 0) (cond y 1 0) (ap (λ (b : Bool). cond b 1 0) e))

pub takes : (t : Reading) (k : Kind) (os : List ℕ) → Taken t k os → end_wrong t k (numbers k os) ≡ false → line_refusal t k os ≡ 0
unfolding line_refusal misplaced row_refusal
takes t k os w e =
    let heads = both_one (is_kind k head) (eqb t.lines 0)
    (same_test _ _ (λ h. eq-eqb _ _ (w.first_head h), λ z. w.head_first (eqb-true _ _ z))) in
    rw (
      eq-eqb (kind_octet os) (code k) w.kind,
      ne_eqb t.last 0xFF w.ended,
      heads,
      le-ltb (code k) t.last w.rises,
      eq-eqb
          (length (body_of os)) (total (widths k)) w.sized,
    )
    (none_after (row_causes k (count k t.rules) t.rules (numbers k os)) (cause wrong_end (end_wrong t k (numbers k os))) w.passes
    (rw e))

-- ---- reading from the top

-- the lines ls, from the top, come to t
pub record Read (ls : List (List ℕ)) (t : Reading) : Type 0 where
  pub same : (rest : List Framed) → read at_top (map octets ls ++ rest) ≡ read t rest
  pub lines : t.lines ≡ length ls
  pub sum : t.sum ≡ totals ls

pub read_none : Read [] at_top
read_none = record { same = λ rest. refl; lines = refl; sum = refl }

-- one line: it is taken, and reading goes on after it
read_one : (t : Reading) (k : Kind) (os : List ℕ) (rest : List Framed) → kind_octet os ≡ code k → line_refusal t k os ≡ 0
    → read t (octets os ∷ rest) ≡ read (after_line t k os) rest
unfolding read
read_one t k os rest e f =
    let same : kind_of (kind_octet os) ≡ k = ap kind_of e ∙ kind_of_code k in
    ap (λ (j : Kind). cond (eqb (line_refusal t j os) 0) (read (after_line t j os) rest) (not_loaded (line_refusal t j os) (t.lines + 1))) same
    ∙ rw f

pub read_more : {ls : List (List ℕ)} {t : Reading} → Read ls t → (k : Kind) (os : List ℕ) → Taken t k os
    → end_wrong t k (numbers k os) ≡ false
    → Read (ls ++ (os ∷ [])) (after_line t k os)
unfolding after_line
read_more {ls} {t} p k os w e =
    record {
      same = λ rest.
          ap (λ (fs : List Framed). read at_top (fs ++ rest)) (map-append octets ls (os ∷ []))
          ∙ ap (read at_top) (append_assoc (map octets ls) (octets os ∷ []) rest)
          ∙ p.same (octets os ∷ rest) ∙ read_one t k os rest w.kind (takes t k os w e);
      lines = omega (arith, p.lines, length-append ls (os ∷ []));
      sum = omega (arith, p.sum, totals_append ls (os ∷ []));
    }
