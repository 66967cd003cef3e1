-- Two texts that load to the same rules are the same text; a text that loads, with exactly one byte altered, is refused with 1 to 9; what
-- every load answers.
use Rattle.std.specs.Prelude.{ℕ, ◌+◌, ◌≤◌, ◌≡◌, refl, ◌≢◌, Bool, true, false, not, cond, ◌&&◌, ◌||◌, List, [], ◌∷◌, ◌++◌, ltb, leb, eqb}
use Rattle.std.proofs.Common.{sym, ◌∙◌, ap, arith}
use Rattle.std.proofs.lemmas.Bool.{false≢true, eqb-false}
use Rattle.common.specs.Causes.{cause, first}
use Rattle.common.specs.Refusals.{wrong_kind, wrong_end}
use Rattle.common.specs.Refusals as refusals
use Rattle.closure.specs.Closure.{circular}
use Rattle.octets.specs.Line.{Framed, kind_octet}
use Rattle.octets.specs.Damage.{OneAltered}
use Rattle.octets.proofs.DamageLaws.{never_well_framed}
use Rattle.policy.specs.Table.{Kind, hierarchy, prerequisite, kind_of, count, room, rows, blank, indexed}
use Rattle.rows.specs.Checks.{causes}
use Rattle.policy.specs.Rows.{limited, rising, key, minimum_key, in_range, row_causes}
use Rattle.reading.specs.Loaded.{Loaded}
use Rattle.reading.specs.Body.{numbers}
use Rattle.reading.specs.Loading.{Reading, at_top, misplaced, end_wrong, line_refusal, after_line, not_loaded, after_last_line, read, load}
use Rattle.bundle.specs.Writing.{bundle_of}
use Rattle.reading.specs.FramedLaws.{Lines, lines_checked}
use Rattle.reading.specs.FramedLaws.Lines.{none, more}
use Rattle.reading.specs.FramedLaws.Checked.{refused_line_lem, octets_line}
use Rattle.bundle.specs.TakenLaws.{load_framed}
use Rattle.bundle.proofs.LoadWrite.{load_write}

-- two texts that load to the same rules are the same text
pub same_text : (t u : List ℕ) → (load t).number ≡ 0 → (load u).number ≡ 0 → (load t).rules ≡ (load u).rules → t ≡ u
same_text t u e f same = sym (load_write t e) ∙ ap bundle_of same ∙ load_write u f

-- a text that loads, with exactly one byte altered, is refused
pub altered_refused : (t u : List ℕ) → (load t).number ≡ 0 → OneAltered t u → (load u).number ≢ 0
altered_refused t u e o f = false≢true (sym (never_well_framed t u (load_framed t e) o) ∙ load_framed u f)

-- ---- the numbers that loading gives

line_number : (t : Reading) (k : Kind) (os : List ℕ) → line_refusal t k os ≤ 9
unfolding line_refusal row_causes
line_number t k os =
    let v = numbers k os in
    let r = t.rules in
    let i = count k r in
    go (misplaced t k os) (limited k && leb (room k) i) (not (in_range k i r v)) (rising k && ltb (key k v) (minimum_key k i r))
    (end_wrong t k v)
  where
    go : (kind over out falls last : Bool) → first (cause wrong_kind kind ∷ (causes over out falls ++ (cause wrong_end last ∷ []))) ≤ 9
    go true over out falls last = omega arith
    go false true out falls last = omega arith
    go false false true falls last = omega arith
    go false false false true last = omega arith
    go false false false false true = omega arith
    go false false false false false = omega arith

-- "Success is number 0, with line 0 from loading"; a refusal has one of 1 to 9 and the blank record
pub record LoadAnswer (l : Loaded) : Type 0 where
  pub number : l.number ≤ 9
  pub success : l.number ≡ 0 → l.line ≡ 0
  pub refused : l.number ≢ 0 → l.rules ≡ blank

refusal_answer : (n line : ℕ) → n ≢ 0 → n ≤ 9 → LoadAnswer (not_loaded n line)
refusal_answer n line h l = record { number = l; success = λ e. absurd (h e); refused = λ e. refl }

end_answer : (t : Reading) → LoadAnswer (after_last_line t)
unfolding after_last_line
end_answer t = go (eqb t.last 0xFF) (circular (rows hierarchy t.rules) || circular (rows prerequisite t.rules))
  where
    go : (x y : Bool)
        → LoadAnswer
        (cond (not x) (not_loaded wrong_end (t.lines + 1))
        (cond y (not_loaded refusals.circle t.lines) (record { number = 0; line = 0; rules = indexed t.rules })))
    go false y = refusal_answer wrong_end _ (λ e. omega arith) (omega arith)
    go true true = refusal_answer refusals.circle _ (λ e. omega arith) (omega arith)
    go true false = record { number = omega arith; success = λ e. refl; refused = λ e. absurd (e refl) }

read_answer : {ls : List Framed} → Lines ls → (t : Reading) → LoadAnswer (read t ls)
unfolding read
read_answer none t = end_answer t
read_answer (more (refused_line_lem {n} l h) p) t = refusal_answer n (t.lines + 1) (λ e. omega arith) (omega arith)
read_answer (more (octets_line {os} f) p) t =
    go (eqb (line_refusal t (kind_of (kind_octet os)) os) 0) refl _ (read_answer p (after_line t (kind_of (kind_octet os)) os))
  where
    go : (x : Bool) → eqb (line_refusal t (kind_of (kind_octet os)) os) 0 ≡ x → (l : Loaded) → LoadAnswer l
        → LoadAnswer (cond x l (not_loaded (line_refusal t (kind_of (kind_octet os)) os) (t.lines + 1)))
    go true e l h = h
    go false e l h =
        refusal_answer (line_refusal t (kind_of (kind_octet os)) os) _ (eqb-false _ _ e) (line_number t (kind_of (kind_octet os)) os)

-- of every text
pub load_answer : (t : List ℕ) → LoadAnswer (load t)
unfolding load
load_answer t = read_answer (lines_checked t) at_top

-- so an altered text is refused with one of 1 to 9
pub altered_number : (t u : List ℕ) → (load t).number ≡ 0 → OneAltered t u → (1 ≤ (load u).number) × ((load u).number ≤ 9)
altered_number t u e o = let h = altered_refused t u e o in (omega arith, (load_answer u).number)
