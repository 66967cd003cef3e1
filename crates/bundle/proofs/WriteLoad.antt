-- A loadable record is written as a text that loads to the same rules, with the memo emptied.
use Rattle.std.specs.Prelude.{ℕ, ◌≤◌, ◌≡◌, true, length}
use Rattle.std.proofs.Math.Path.{sym, ap}
use Rattle.std.proofs.Common.{◌∙◌, subst, arith}
use mathlib.Core.List.{List, [], ◌∷◌, map, append-nil}
use Rattle.octets.specs.Line.{octets, totals, text_of}
use Rattle.policy.specs.declared.Record.{Record}
use Rattle.policy.specs.Table.{Kind, end, kinds, count, row, emptied, with_memo}
use Rattle.policy.specs.Loadable.{loadable}
use Rattle.reading.specs.Loading.{at_top, read, load}
use Rattle.bundle.specs.Writing.{table_lines, rule_lines, with_end, bundle_of}
use Rattle.policy.specs.Typed.{Typed}
use Rattle.bundle.specs.BodyLaws.{row_line, table_lines_lem}
use Rattle.bundle.proofs.LengthLaws.{rooms, rules_few}
use Rattle.bundle.specs.TextLaws.{Lines, lines_append, lines_table, line_of, lines_text, lines_total}
use Rattle.bundle.specs.PartLaws.{Whole, whole_all}
use Rattle.bundle.proofs.PassLaws.{Come, come_rules}
use Rattle.bundle.specs.EndLaws.{end_line, read_end, at_end}

-- ---- the lines before the end line

rule_lines_lem : (r : Record) (ks : List Kind) → Lines (rule_lines ks r)
rule_lines_lem r [] = tt
rule_lines_lem r (k ∷ ks) = lines_append (table_lines k r) (rule_lines ks r) of_kind_lem (rule_lines_lem r ks)
  where
    of_kind_lem : Lines (table_lines k r)
    of_kind_lem = subst Lines (sym (table_lines_lem k r)) (lines_table (count k r) (λ i. row_line k i r) (λ i. line_of k (row k i r)))

-- ---- what these lines come to, with the end line after them

module _ (r : Record) (loads : loadable r ≡ true) where
  text_loads : (ls : List (List ℕ)) → Lines ls → length ls ≤ rooms kinds → Come ls 0x0B (Whole r 0x0B)
      → load (text_of (with_end ls)) ≡ record { number = 0; line = 0; rules = with_memo r (emptied 0 0) }
  unfolding load read
  text_loads ls framed few x =
      let sum = lines_total ls framed in
      let all = lines_append ls (end_line ls ∷ []) framed (line_of end (length ls ∷ totals ls ∷ []), tt) in
      let ended = read_end x.read (omega arith) (omega arith) x.some x.last in
      ap (read at_top) (lines_text (with_end ls) all ∙ sym (append-nil (map octets (with_end ls)))) ∙ ended.same []
      ∙ at_end r (emptied 0 0) loads x.to (end_line ls) (whole_all r x.to.rules loads x.rules)

-- THE THEOREM
pub write_load : (r : Record) → Typed r → loadable r ≡ true
    → load (bundle_of r) ≡ record { number = 0; line = 0; rules = with_memo r (emptied 0 0) }
unfolding bundle_of
write_load r t loads = text_loads r loads (rule_lines kinds r) (rule_lines_lem r kinds) (rules_few r loads kinds) (come_rules r t loads)
