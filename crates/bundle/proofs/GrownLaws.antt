-- The lines of a record that gets one line more: those it had, and that one.
use Rattle.std.specs.Prelude.{ℕ, suc, ◌+◌, ◌≤◌, ◌<◌, ◌≡◌, refl, List, [], ◌∷◌, ◌++◌, map, false, length, drop}
use Rattle.std.proofs.Common.{sym, ◌∙◌, ap, subst, append_assoc, append-nil, arith, ne_eqb}
use Rattle.std.proofs.lemmas.List.{map-append}
use Rattle.std.proofs.Math.Decide.{dec_lt}
use Rattle.common.specs.Lists.{at, table}
use Rattle.policy.specs.declared.Record.{Record}
use Rattle.policy.specs.Table.{Kind, head, user, edge, formula, demarcation, hierarchy, principal, exclusion, prerequisite, method, end}
use Rattle.policy.specs.Table.{code, is_kind, kinds, count, columns, room, row, rows, blank, appended}
use Rattle.policy.specs.TableLaws.{same_kind, ColumnLengths, count_other, columns_other}
use Rattle.policy.specs.TableLaws as tables
use Rattle.policy.specs.GrowthLaws.{blank_empty}
use Rattle.reading.specs.KindLaws.{rows_more}
use Rattle.bundle.specs.Writing.{line_octets, table_lines, rule_lines}

-- ---- lines

-- another kind's lines stay
lines_other : (k j : Kind) (r : Record) (v : List ℕ) → is_kind k j ≡ false → table_lines j (appended k r v) ≡ table_lines j r
lines_other k j r v e = λ t. map (line_octets j) (table (count_other k j r v e t) (λ i. map (λ c. at c i) (columns_other k j r v e t)))

-- ---- the kinds, by their codes

-- the codes follow one another, from n + 1 on
abbrev Counted : ℕ → List Kind → Type 0
Counted n [] = Unit {0}
Counted n (j ∷ ks) = (code j ≡ suc n) × Counted (suc n) ks

counted : Counted 0 kinds
counted = (refl, (refl, (refl, (refl, (refl, (refl, (refl, (refl, (refl, (refl, tt))))))))))

-- so the kinds before the end are 1 to 10
code_few : (k : Kind) → code k < 0xFF → code k ≤ 10
code_few head l = omega arith
code_few user l = omega arith
code_few edge l = omega arith
code_few formula l = omega arith
code_few demarcation l = omega arith
code_few hierarchy l = omega arith
code_few principal l = omega arith
code_few exclusion l = omega arith
code_few prerequisite l = omega arith
code_few method l = omega arith
code_few end l = absurd (omega arith)

-- kinds of which there are no lines
no_lines : (r : Record) (n : ℕ) (ks : List Kind) → Counted n ks → ((j : Kind) → n < code j → count j r ≡ 0) → rule_lines ks r ≡ []
no_lines r n [] c h = refl
no_lines r n (j ∷ ks) c h =
    let z : count j r ≡ 0 = h j (omega (arith, c.0)) in
    let own : table_lines j r ≡ [] = λ t. map (line_octets j) (table (z t) (λ i. row j i r)) in
    let others : rule_lines ks r ≡ [] = no_lines r (suc n) ks c.1 (λ i l. h i (omega arith)) in
    rw (own, others) refl

-- ---- a line of a kind between head and end, when there are no lines of later kinds yet

module _ (k : Kind) (r : Record) (v : List ℕ) (low : 1 < code k) (high : code k < 0xFF) (s : ColumnLengths r) (few : count k r < room k)
    (empty : (j : Kind) → code k < code j → count j r ≡ 0) (all : tables.values (columns k r) v 0 ≡ v) where
  -- kind k's own lines
  table_more : table_lines k (appended k r v) ≡ table_lines k r ++ (line_octets k v ∷ [])
  table_more = ap (map (line_octets k)) (rows_more k r v low high s few all) ∙ map-append (line_octets k) (rows k r) (v ∷ [])

  empty_still : (j : Kind) → code k < code j → count j (appended k r v) ≡ 0
  empty_still j l = count_other k j r v (ne_eqb (code k) (code j) (λ e. omega arith)) ∙ empty j l

  -- kind k's lines and those of the kinds after it
  own_last : (n : ℕ) (ks : List Kind) → Counted n ks → code k ≡ n
      → table_lines k (appended k r v) ++ rule_lines ks (appended k r v) ≡ (table_lines k r ++ rule_lines ks r) ++ (line_octets k v ∷ [])
  own_last n ks c e =
      let after = no_lines (appended k r v) n ks c (λ j l. empty_still j (omega arith)) in
      let before = no_lines r n ks c (λ j l. empty j (omega arith)) in
      (λ t. table_more t ++ after t)
      ∙ append-nil (table_lines k r ++ (line_octets k v ∷ []))
      ∙ ap (λ (ls : List (List ℕ)). ls ++ (line_octets k v ∷ [])) (sym ((λ t. table_lines k r ++ before t) ∙ append-nil (table_lines k r)))

  -- the lines of kinds among which k is
  more_from : (n : ℕ) (ks : List Kind) → Counted n ks → n < code k → code k ≤ n + length ks
      → rule_lines ks (appended k r v) ≡ rule_lines ks r ++ (line_octets k v ∷ [])
  more_from n [] c l h = absurd (omega arith)
  more_from n (j ∷ ks) c l h = go (dec_lt (code j) (code k)) (more_from (suc n) ks c.1)
    where
      go : Dec (code j < code k)
          → (suc n < code k → code k ≤ suc n + length ks → rule_lines ks (appended k r v) ≡ rule_lines ks r ++ (line_octets k v ∷ []))
          → rule_lines (j ∷ ks) (appended k r v) ≡ rule_lines (j ∷ ks) r ++ (line_octets k v ∷ [])
      go (yes below) ih =
          (λ t. lines_other k j r v (ne_eqb (code k) (code j) (λ e. omega arith)) t ++ ih (omega (arith, c.0)) (omega arith) t)
          ∙ sym (append_assoc (table_lines j r) (rule_lines ks r) (line_octets k v ∷ []))
      go (no q) ih =
          subst (λ (i : Kind). table_lines i (appended k r v) ++ rule_lines ks (appended k r v) ≡ (table_lines i r ++ rule_lines ks r) ++
          (line_octets k v ∷ []))
          (same_kind k j (omega (arith, c.0)))
          (own_last (suc n) ks c.1 (omega (arith, c.0)))

  -- THE LAW: the record's lines are those it had, and the new one
  pub lines_more : rule_lines kinds (appended k r v) ≡ rule_lines kinds r ++ (line_octets k v ∷ [])
  lines_more = more_from 0 kinds counted (omega arith) (code_few k high)

-- ---- the head, on the blank record: its version is 1

first_row : (v : List ℕ) → row head 0 (appended head blank v) ≡ 1 ∷ at v 1 ∷ []
unfolding appended
first_row v = refl

pub lines_first : (v : List ℕ) → rule_lines kinds (appended head blank v) ≡ line_octets head (1 ∷ at v 1 ∷ []) ∷ []
lines_first v = λ t. line_octets head (first_row v t) ∷ no_lines (appended head blank v) 1 (drop 1 kinds) counted.1 none t
  where
    none : (j : Kind) → 1 < code j → count j (appended head blank v) ≡ 0
    none j l = count_other head j blank v (ne_eqb 1 (code j) (λ e. omega arith)) ∙ blank_empty j l
