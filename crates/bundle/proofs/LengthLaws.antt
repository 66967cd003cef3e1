-- How many lines and bytes a record's tables and its bundle have.
use Rattle.std.specs.Prelude.{ℕ, ◌+◌, ◌*◌, ◌≤◌, ◌≡◌, true, List, [], ◌∷◌, length}
use Rattle.std.proofs.Common.{◌∙◌, ap, arith, length-append}
use Rattle.common.specs.Limits.{most_users, most_edges, most_formulas, most_demarcations, most_pairs, most_principals}
use Rattle.common.specs.Limits.{most_exclusions, most_methods}
use Rattle.common.specs.ListLaws.{length_table}
use Rattle.octets.specs.Line.{total, line_bytes, text_of, totals}
use Rattle.octets.proofs.WritingLaws.{length_line}
use Rattle.policy.specs.declared.Record.{Record}
use Rattle.policy.specs.Table.{Kind, head, user, edge, formula, demarcation, hierarchy, principal, exclusion, prerequisite, method, end}
use Rattle.policy.specs.Table.{code, kinds, count, room, row}
use Rattle.policy.specs.Loadable.{loadable}
use Rattle.policy.specs.LoadableLaws.{loadable_table, table_few}
use Rattle.writing.specs.DraftLaws.{text_append, text_size}
use Rattle.policy.specs.Table.{widths}
use Rattle.bundle.specs.Writing.{body, line_octets, table_lines, rule_lines, bundle_of}
use Rattle.bundle.specs.BodyLaws.{length_body, table_lines_lem}

-- the bytes of a line of kind k
abbrev pub line_size : Kind → ℕ
line_size k = 2 * total (widths k) + 7

-- ---- a kind's table

pub table_count : (k : Kind) (r : Record) → length (table_lines k r) ≡ count k r
table_count k r = ap length (table_lines_lem k r) ∙ length_table (count k r) (λ i. line_octets k (row k i r))

pub table_size : (k : Kind) (r : Record) → length (text_of (table_lines k r)) ≡ count k r * line_size k
table_size k r =
    ap (λ (ls : List (List ℕ)). length (text_of ls)) (table_lines_lem k r)
    ∙ text_size (count k r) (line_size k) (λ i. line_octets k (row k i r))
    (λ i. length_line (code k) (body (widths k) (row k i r)) ∙ ap (λ (n : ℕ). 2 * n + 7) (length_body (widths k) (row k i r)))

-- a table, and those of later kinds
pub rest_count : (k : Kind) (ks : List Kind) (r : Record) → length (rule_lines (k ∷ ks) r) ≡ count k r + length (rule_lines ks r)
rest_count k ks r = length-append (table_lines k r) (rule_lines ks r) ∙ ap (λ (n : ℕ). n + length (rule_lines ks r)) (table_count k r)

pub rest_size : (k : Kind) (ks : List Kind) (r : Record)
    → length (text_of (rule_lines (k ∷ ks) r)) ≡ count k r * line_size k + length (text_of (rule_lines ks r))
rest_size k ks r =
    ap length (text_append (table_lines k r) (rule_lines ks r))
    ∙ length-append (text_of (table_lines k r)) (text_of (rule_lines ks r))
    ∙ ap (λ (n : ℕ). n + length (text_of (rule_lines ks r))) (table_size k r)

-- ---- the whole

pub end_size : (v : List ℕ) → length (text_of (line_octets end v ∷ [])) ≡ 19
end_size v = length-append (line_bytes (line_octets end v)) [] ∙ ap (λ (n : ℕ). n + 0) (length_line 0xFF (body (widths end) v))

pub bundle_length_lem : (r : Record)
    → length (bundle_of r)
    ≡ 11 + 13 * (r.user_count + r.edge_count + r.formula_count) + 11 *
    (r.hierarchy_count + r.principal_count + r.exclusion_count + r.prerequisite_count)
    + (23 * r.demarcation_count + 25 * r.method_count) + 19
unfolding bundle_of
bundle_length_lem r =
    let ls = rule_lines kinds r in
    let last = line_octets end (length ls ∷ totals ls ∷ []) in
    let all = ap length (text_append ls (last ∷ [])) ∙ length-append (text_of ls) (text_of (last ∷ [])) in
    let e = end_size (length ls ∷ totals ls ∷ []) in
    let s₁ = rest_size head (user ∷ edge ∷ formula ∷ demarcation ∷ hierarchy ∷ principal ∷ exclusion ∷ prerequisite ∷ method ∷ []) r in
    let s₂ = rest_size user (edge ∷ formula ∷ demarcation ∷ hierarchy ∷ principal ∷ exclusion ∷ prerequisite ∷ method ∷ []) r in
    let s₃ = rest_size edge (formula ∷ demarcation ∷ hierarchy ∷ principal ∷ exclusion ∷ prerequisite ∷ method ∷ []) r in
    let s₄ = rest_size formula (demarcation ∷ hierarchy ∷ principal ∷ exclusion ∷ prerequisite ∷ method ∷ []) r in
    let s₅ = rest_size demarcation (hierarchy ∷ principal ∷ exclusion ∷ prerequisite ∷ method ∷ []) r in
    let s₆ = rest_size hierarchy (principal ∷ exclusion ∷ prerequisite ∷ method ∷ []) r in
    let s₇ = rest_size principal (exclusion ∷ prerequisite ∷ method ∷ []) r in
    let s₈ = rest_size exclusion (prerequisite ∷ method ∷ []) r in
    let s₉ = rest_size prerequisite (method ∷ []) r in
    let s₁₀ = rest_size method [] r in
    omega (arith, all, e, s₁, s₂, s₃, s₄, s₅, s₆, s₇, s₈, s₉, s₁₀)

-- ---- a loadable record

-- how many lines of these kinds there can be
abbrev pub rooms : List Kind → ℕ
rooms [] = 0
rooms (k ∷ ks) = room k + rooms ks

pub rules_few : (r : Record) → loadable r ≡ true → (ks : List Kind) → length (rule_lines ks r) ≤ rooms ks
rules_few r loads [] = omega arith
rules_few r loads (k ∷ ks) = omega (arith, rest_count k ks r, table_few r k (loadable_table r loads k), rules_few r loads ks)

-- its counts
pub record Few (r : Record) : Type 0 where
  pub users : r.user_count ≤ most_users
  pub edges : r.edge_count ≤ most_edges
  pub formulas : r.formula_count ≤ most_formulas
  pub demarcations : r.demarcation_count ≤ most_demarcations
  pub hierarchies : r.hierarchy_count ≤ most_pairs
  pub principals : r.principal_count ≤ most_principals
  pub exclusions : r.exclusion_count ≤ most_exclusions
  pub prerequisites : r.prerequisite_count ≤ most_pairs
  pub methods : r.method_count ≤ most_methods

pub few : (r : Record) → loadable r ≡ true → Few r
few r loads =
    record {
      users = at_most user;
      edges = at_most edge;
      formulas = at_most formula;
      demarcations = at_most demarcation;
      hierarchies = at_most hierarchy;
      principals = at_most principal;
      exclusions = at_most exclusion;
      prerequisites = at_most prerequisite;
      methods = at_most method;
    }
  where
    at_most : (k : Kind) → count k r ≤ room k
    at_most k = table_few r k (loadable_table r loads k)
