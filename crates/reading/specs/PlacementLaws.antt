-- What document 01 says in words of lines out of place: "A second head, or a line after the end, is 4; an empty file is 8 at line 1."
use Rattle.std.specs.Prelude.{ℕ, ◌≡◌, refl, ◌≢◌, true, not, cond, List, [], eqb}
use Rattle.std.proofs.Common.{eq-eqb, ne_eqb}
use Rattle.common.specs.BoolLaws.{or_left, or_right}
use Rattle.common.specs.Refusals.{wrong_kind, wrong_end}
use Rattle.octets.specs.Line.{kind_octet, lines}
use Rattle.policy.specs.Table.{Kind, head, code}
use Rattle.reading.specs.Loading.{Reading, misplaced, line_refusal, not_loaded, after_last_line, read, load}

misplaced_refused : (t : Reading) (k : Kind) (os : List ℕ) → misplaced t k os ≡ true → line_refusal t k os ≡ wrong_kind
unfolding line_refusal
misplaced_refused t k os e = rw e

-- a second head
pub second_head : (t : Reading) (os : List ℕ) → t.lines ≢ 0 → line_refusal t head os ≡ wrong_kind
unfolding misplaced
second_head t os more =
    let later : not (eqb 1 (cond (eqb t.lines 0) 1 0)) ≡ true = rw (ne_eqb t.lines 0 more) refl in
    misplaced_refused t head os (or_right (not (eqb (kind_octet os) (code head))) _ (or_right (eqb t.last 0xFF) _ (or_left _ _ later)))

-- a line after the end
pub after_end_lem : (t : Reading) (k : Kind) (os : List ℕ) → t.last ≡ 0xFF → line_refusal t k os ≡ wrong_kind
unfolding misplaced
after_end_lem t k os e = misplaced_refused t k os (or_right (not (eqb (kind_octet os) (code k))) _ (or_left _ _ (eq-eqb t.last 0xFF e)))

-- an empty file
pub empty_file : load [] ≡ not_loaded wrong_end 1
unfolding load read after_last_line lines
empty_file = refl
