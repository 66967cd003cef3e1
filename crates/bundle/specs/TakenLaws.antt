-- What a load's number says: where it is 0, every line was accepted and taken.
use Rattle.std.specs.Prelude.{ℕ, ◌≡◌, refl, true, false, not, ◌&&◌, List, [], ◌∷◌, eqb}
use Rattle.std.proofs.Common.{sym, ◌∙◌, ap, arith, eqb-true}
use Rattle.std.proofs.lemmas.Bool.{not-false}
use Rattle.common.specs.Lists.{at, every}
use Rattle.common.specs.BoolLaws.{and_cases}
use Rattle.common.specs.Causes.{cause}
use Rattle.common.specs.Refusals.{wrong_kind, wrong_end}
use Rattle.octets.specs.Line.{Framed, kind_octet}
use Rattle.octets.specs.Damage.{is_accepted, well_framed}
use Rattle.policy.specs.declared.Record.{Record}
use Rattle.policy.specs.Table.{head, end, kind_of}
use Rattle.policy.specs.Rows.{in_range, row_causes, row_refusal}
use Rattle.policy.specs.RowLaws.{passed}
use Rattle.reading.specs.Loaded.{Loaded}
use Rattle.reading.specs.Body.{numbers}
use Rattle.reading.specs.Loading.{Reading, at_top, misplaced, end_wrong, line_refusal, after_line, read, load}
use Rattle.reading.specs.LoadingLaws.{none_first}
use Rattle.reading.specs.FramedLaws.{Lines, lines_checked}
use Rattle.reading.specs.FramedLaws.Lines.{none, more}
use Rattle.reading.specs.FramedLaws.Checked.{refused_line_lem, octets_line}
use Rattle.reading.specs.TakenLaws.{read_taken}

-- ---- one line

-- a taken end line's numbers are the count of the lines before it, and their sum
pub taken_end : (t : Reading) (os : List ℕ) → line_refusal t end os ≡ 0
    → (at (numbers end os) 0 ≡ t.lines) × (at (numbers end os) 1 ≡ t.sum)
unfolding line_refusal row_causes in_range end_wrong
taken_end t os e =
    let v = numbers end os in
    let same = eqb (at v 0) t.lines && eqb (at v 1) t.sum in
    let late = (none_first wrong_kind (misplaced t end os) (cause wrong_end (not same) ∷ []) (λ z. omega arith) e).1 in
    let p = and_cases (eqb (at v 0) t.lines) _ (not-false same (none_first wrong_end (not same) [] (λ z. omega arith) late).0) in
    (eqb-true _ _ p.0, eqb-true _ _ p.1)

-- a head's version is 1
pub taken_head : (n : ℕ) (r : Record) (v : List ℕ) → row_refusal head n r v ≡ 0 → at v 0 ≡ 1
unfolding row_refusal row_causes in_range
taken_head n r v e =
    eqb-true (at v 0) 1
    (and_cases (eqb (at v 0) 1) _ (not-false (in_range head n r v) (passed false (not (in_range head n r v)) false e).1)).0

-- ---- all lines

read_framed : {ls : List Framed} → Lines ls → (t : Reading) → (read t ls).number ≡ 0 → every is_accepted ls ≡ true
unfolding read
read_framed none t e = refl
read_framed (more (refused_line_lem l h) p) t e = absurd (omega arith)
read_framed (more {ls = ls} (octets_line {os} f) p) t e =
    read_framed p (after_line t (kind_of (kind_octet os)) os) (ap (λ (l : Loaded). l.number) (sym (read_taken t os ls e).1) ∙ e)

-- THE LAW: a text that loads is well framed
pub load_framed : (t : List ℕ) → (load t).number ≡ 0 → well_framed t ≡ true
unfolding load
load_framed t e = read_framed (lines_checked t) at_top e
