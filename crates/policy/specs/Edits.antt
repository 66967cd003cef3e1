-- Adding and removing an edge (document 01, "Questions and edits"; refusals 10 to 13 and 19).
use Rattle.std.specs.Prelude.{Bool, not, cond, List, [], ◌∷◌, ℕ, ltb, leb, eqb}
use Rattle.common.specs.Limits.{most_edges}
use Rattle.common.specs.Lists.{any, those, same}
use Rattle.common.specs.Causes.{cause, first}
use Rattle.common.specs.Refusals.{edge_out_of_range, edge_present, edge_absent, edges_full, not_loadable}
use Rattle.policy.specs.declared.Record.{Record}
use Rattle.policy.specs.declared.Memo.{Memo}
use Rattle.policy.specs.EditAnswers.{Edited}
use Rattle.policy.specs.Table.{edge, rows, emptied, changed}
use Rattle.rows.specs.Checks.{edge_in_range}
use Rattle.policy.specs.Rows.{key}
use Rattle.policy.specs.Loadable.{loadable}

-- the edge is there
abbrev pub edge_in : List (List ℕ) → List ℕ → Bool
edge_in es e = any (same e) es

-- the edges with e among them, in order
abbrev pub inserted : List ℕ → List (List ℕ) → List (List ℕ)
inserted e [] = e ∷ []
inserted e (x ∷ es) = cond (ltb (key edge e) (key edge x)) (e ∷ x ∷ es) (x ∷ inserted e es)

-- the edges without e
abbrev pub without : List ℕ → List (List ℕ) → List (List ℕ)
without e es = those (λ x. not (same e x)) es

-- "each empties the memo (pair (0, 0))": the memo that an accepted edit of an edge with this label leaves
abbrev pub memo_left : Record → ℕ → Memo
memo_left r label = emptied 0 0

-- a refused edit leaves the record; an accepted one has the new edges and the memo
abbrev pub edited : Record → ℕ → List (List ℕ) → Memo → Edited
edited r n es m = cond (eqb n 0) (record { number = 0; rules = changed r es m }) (record { number = n; rules = r })

-- 19, then 10, 11, 13
abbrev pub add_refusal : Record → ℕ → ℕ → ℕ → ℕ
add_refusal r l x y =
    first
    (cause not_loadable (not (loadable r))
    ∷ cause edge_out_of_range (not (edge_in_range r.objects l x y))
    ∷ cause edge_present (edge_in (rows edge r) (l ∷ x ∷ y ∷ []))
    ∷ cause edges_full (leb most_edges r.edge_count)
    ∷ [])

-- 19, then 10, 12
abbrev pub remove_refusal : Record → ℕ → ℕ → ℕ → ℕ
remove_refusal r l x y =
    first
    (cause not_loadable (not (loadable r))
    ∷ cause edge_out_of_range (not (edge_in_range r.objects l x y))
    ∷ cause edge_absent (not (edge_in (rows edge r) (l ∷ x ∷ y ∷ [])))
    ∷ [])

unfoldable pub added : Record → ℕ → ℕ → ℕ → Edited
added r l x y = edited r (add_refusal r l x y) (inserted (l ∷ x ∷ y ∷ []) (rows edge r)) (memo_left r l)

unfoldable pub removed : Record → ℕ → ℕ → ℕ → Edited
removed r l x y = edited r (remove_refusal r l x y) (without (l ∷ x ∷ y ∷ []) (rows edge r)) (memo_left r l)
