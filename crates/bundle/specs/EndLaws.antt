-- The end line is taken, and a record without circles is handed over.
use Rattle.std.specs.Prelude.{ℕ, ◌+◌, ◌<◌, ◌≡◌, refl, true, false, not, cond, ◌||◌, List, [], ◌∷◌, length}
use Rattle.std.proofs.Common.{sym, ◌∙◌, arith}
use Rattle.std.proofs.Math.Path.{ap}
use Rattle.std.proofs.lemmas.Bool.{false≢true}
use borrow.Author.Tests.{eq-eqb, not-true}
use Rattle.common.specs.Lists.{every}
use Rattle.common.specs.BoolLaws.{and_cases}
use Rattle.common.specs.Refusals as refusals
use Rattle.closure.specs.Closure.{circular}
use Rattle.octets.specs.Line.{totals}
use Rattle.policy.specs.declared.Record.{Record}
use Rattle.policy.specs.declared.Memo.{Memo}
use Rattle.policy.specs.Table.{hierarchy, prerequisite, end, kinds, rows, appended, with_memo, with_index, indexed}
use Rattle.policy.specs.Rows.{in_range, row_causes, row_refusal}
use Rattle.policy.specs.Loadable.{table_loads, loadable, no_circles}
use Rattle.reading.specs.Body.{numbers}
use Rattle.bundle.specs.Writing.{line_octets, with_end}
use Rattle.reading.specs.Loading.{Reading, end_wrong, after_line, not_loaded, after_last_line}
use Rattle.reading.specs.LoadingLaws.{Taken}
use Rattle.bundle.specs.BodyLaws.{line_kind, line_size_lem, line_numbers}
use Rattle.bundle.specs.ReadingLaws.{Read, read_more}

-- ---- the end line

-- of the lines ls
abbrev pub end_line : List (List ℕ) → List ℕ
end_line ls = line_octets end (length ls ∷ totals ls ∷ [])

end_passes : (p : Record) (v : List ℕ) → row_refusal end 0 p v ≡ 0
unfolding row_refusal row_causes in_range
end_passes p v = refl

-- its numbers fit their octets, and are right
module _ {ls : List (List ℕ)} {t : Reading} (read : Read ls t) (few : length ls < 65536) (low : totals ls < 4294967296) where
  end_numbers : numbers end (end_line ls) ≡ length ls ∷ totals ls ∷ []
  end_numbers = line_numbers end (length ls ∷ totals ls ∷ []) refl (few, (low, tt))

  end_right : end_wrong t end (numbers end (end_line ls)) ≡ false
  unfolding end_wrong
  end_right =
      ap (end_wrong t end) end_numbers
      ∙ rw (eq-eqb (length ls) t.lines (sym read.lines), eq-eqb (totals ls) t.sum (sym read.sum))

  pub read_end : 0 < t.lines → t.last < 0x0B → Read (with_end ls) (after_line t end (end_line ls))
  read_end some last = read_more read end (end_line ls) taken end_right
    where
      taken : Taken t end (end_line ls)
      taken =
          record {
            kind = line_kind end (length ls ∷ totals ls ∷ []);
            ended = λ e. omega arith;
            first_head = λ e. absurd (false≢true e);
            head_first = λ e. absurd (omega arith);
            rises = omega arith;
            sized = line_size_lem end (length ls ∷ totals ls ∷ []);
            passes = end_passes t.rules (numbers end (end_line ls));
          }

-- ---- after it

-- no circles, whatever the memo
no_circle : (r : Record) (m : Memo) → loadable r ≡ true
    → (circular (rows hierarchy (with_memo r m)) || circular (rows prerequisite (with_memo r m))) ≡ false
unfolding loadable with_memo
no_circle r m loads =
    let p = and_cases (not (circular (rows hierarchy r))) _ (and_cases (no_circles r) _ (and_cases (every (table_loads r) kinds) _ loads).1).0 in
    rw (not-true (circular (rows hierarchy r)) p.0, not-true (circular (rows prerequisite r)) p.1)

pub at_end : (r : Record) (m : Memo) → loadable r ≡ true → (t : Reading) (os : List ℕ) → indexed t.rules ≡ with_memo r m
    → after_last_line (after_line t end os) ≡ record { number = 0; line = 0; rules = with_memo r m }
unfolding after_last_line after_line appended with_index
at_end r m loads t os e =
    ap (λ (p : Record). cond (circular (rows hierarchy p) || circular (rows prerequisite p)) (not_loaded refusals.circle (t.lines + 1))
    (record { number = 0; line = 0; rules = p })) e
    ∙ rw (no_circle r m loads)
