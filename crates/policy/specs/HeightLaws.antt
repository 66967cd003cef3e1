-- Heights kept beside the formulas of a record that gets them one by one.
use Rattle.std.specs.Prelude.{ℕ, ◌+◌, ◌<◌, ◌≡◌, List, [], ◌∷◌, set, replicate}
use Rattle.std.proofs.Common.{sym, ◌∙◌, subst, arith, get_or-set_same}
use Rattle.common.specs.Limits.{most_formulas}
use Rattle.common.specs.Lists.{at}
use Rattle.rows.specs.Op.{op_of, height_of}
use Rattle.tables.specs.HeightLaws as columns
pub use Rattle.tables.specs.HeightLaws.{heights_low, height_here}
use Rattle.policy.specs.declared.Record.{Record}
use Rattle.policy.specs.Table.{formula, count, appended}
use Rattle.policy.specs.Height.{height}
use Rattle.policy.specs.TableLaws.{ColumnLengths, height_kept}

-- the heights of the record's formulas below i
abbrev pub Heights : Record → List ℕ → ℕ → Type 0
Heights r = columns.Heights r.formula_ops r.formula_lefts r.formula_rights

pub heights_start : (r : Record) → count formula r ≡ 0 → Heights r (replicate most_formulas 0) (count formula r)
heights_start r e = subst (Heights r (replicate most_formulas 0)) (sym e) (columns.heights_none _ _ _)

pub heights_appended : {r : Record} {heights : List ℕ} (op a b : ℕ) {x : ℕ} → ColumnLengths r → count formula r < most_formulas
    → Heights r heights (count formula r)
    → x ≡ height_of (op_of op) a b (at heights)
    → Heights (appended formula r (op ∷ a ∷ b ∷ [])) (set heights (count formula r) x) (count formula r + 1)
unfolding appended
heights_appended {r} {heights} op a b {x} s few h e =
    let n = count formula r in
    let r' = appended formula r (op ∷ a ∷ b ∷ []) in
    let kept : Heights r' heights n = record
    { size = h.size; each = λ g. h.each g ∙ sym (height_kept formula r (op ∷ a ∷ b ∷ []) (omega arith) n (omega arith) g) } in
    let o : at (set r.formula_ops n op) n ≡ op = get_or-set_same r.formula_ops n op 0 (omega (arith, s.long formula)) in
    let l : at (set r.formula_lefts n a) n ≡ a = get_or-set_same r.formula_lefts n a 0 (omega (arith, s.long formula)) in
    let u : at (set r.formula_rights n b) n ≡ b = get_or-set_same r.formula_rights n b 0 (omega (arith, s.long formula)) in
    columns.heights_more kept few (height_here kept op a b e ∙ (λ j. height_of (op_of (sym o j)) (sym l j) (sym u j) (height r' n)))
