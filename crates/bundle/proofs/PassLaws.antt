-- Reading a loadable record's lines, kind by kind, comes to the whole record.
use Rattle.std.specs.Prelude.{ℕ, zero, suc, ◌+◌, ◌≤◌, ◌<◌, ◌≡◌, refl, true, false}
use Rattle.std.proofs.Common.{sym, ◌∙◌, arith, eqb-true, ne_eqb}
use Rattle.std.proofs.Math.Path.{ap, subst}
use mathlib.Core.List.{List, [], ◌∷◌, ◌++◌, append_assoc, append-nil}
use Rattle.common.specs.Lists.{table}
use Rattle.policy.specs.declared.Record.{Record}
use Rattle.policy.specs.Table.{Kind, head, user, edge, formula, demarcation, hierarchy, principal, exclusion, prerequisite, method, end}
use Rattle.policy.specs.Table.{code, kinds, count, row, blank, appended}
use Rattle.policy.specs.Rows.{row_refusal}
use Rattle.policy.specs.Loadable.{loadable}
use Rattle.policy.specs.LoadableLaws.{loadable_table, table_few}
use Rattle.reading.specs.Body.{numbers}
use Rattle.bundle.specs.Writing.{table_lines, rule_lines}
use Rattle.policy.specs.Typed.{Typed}
use Rattle.reading.specs.Loading.{Reading, at_top, end_wrong, after_line}
use Rattle.reading.specs.LoadingLaws.{Taken}
use Rattle.bundle.specs.BodyLaws.{line_kind, line_size_lem, row_line, row_numbers, table_lines_lem}
use Rattle.bundle.specs.CheckLaws.{same_refusal, head_refusal_lem, row_passes}
use Rattle.bundle.specs.ReadingLaws.{Read, read_none, read_more}
use Rattle.bundle.specs.PartLaws.{Part, Whole, part_agrees, part_more, part_start, part_end, whole_head}

-- the lines ls, from the top, come to a record of which P holds; there are some, and the last one's kind octet is below c
pub record Come (ls : List (List ℕ)) (c : ℕ) (P : Record → Type 0) : Type 0 where
  pub to : Reading
  pub read : Read ls to
  pub some : 0 < to.lines
  pub last : to.last < c
  pub rules : P to.rules

come_as : {ls : List (List ℕ)} {c d : ℕ} {P Q : Record → Type 0} → c ≤ d → ((p : Record) → P p → Q p) → Come ls c P → Come ls d Q
come_as l f x =
    record { to = x.to; read = x.read; some = x.some; last = let h = x.last in omega arith; rules = f x.to.rules x.rules }

come_same : {ls ms : List (List ℕ)} {c : ℕ} {P : Record → Type 0} → ls ≡ ms → Come ls c P → Come ms c P
come_same {c = c} {P = P} e x = subst (λ (ns : List (List ℕ)). Come ns c P) e x

-- only the end line's numbers are held to the lines before it
not_end : (t : Reading) (k : Kind) (v : List ℕ) → code k < code end → end_wrong t k v ≡ false
unfolding end_wrong
not_end t k v h = rw (ne_eqb (code k) 0xFF (λ e. omega arith))

-- the octets of these kinds are c, c + 1, .. and d comes next
abbrev Rise : ℕ → List Kind → ℕ → Type 0
Rise c [] d = c ≡ d
Rise c (k ∷ ks) d = (code k ≡ c) × (code k < code end) × Rise (c + 1) ks d

module _ (r : Record) (typed : Typed r) (loads : loadable r ≡ true) where
  -- ---- the head

  come_head : Come (row_line head 0 r ∷ []) 2 (Whole r 2)
  unfolding after_line
  come_head =
      record {
        to = after_line at_top head (row_line head 0 r);
        read = read_more read_none head (row_line head 0 r) taken (not_end at_top head (numbers head (row_line head 0 r)) (omega arith));
        some = omega arith;
        last = omega arith;
        rules =
            subst (λ (v : List ℕ). Whole r 2 (appended head blank v)) (sym (row_numbers r typed head 0 (omega arith)))
            (whole_head r typed.sized);
      }
    where
      taken : Taken at_top head (row_line head 0 r)
      taken =
          record {
            kind = line_kind head (row head 0 r);
            ended = λ e. omega arith;
            first_head = λ e. refl;
            head_first = λ e. refl;
            rises = omega arith;
            sized = line_size_lem head (row head 0 r);
            passes =
                ap (row_refusal head 1 blank) (row_numbers r typed head 0 (omega arith))
                ∙ head_refusal_lem blank r (row head 0 r)
                ∙ row_passes r loads head 0 (omega arith);
          }

  -- ---- a kind after the head

  module _ (k : Kind) (low : code head < code k) (high : code k < code end) where
    -- its line at i, its first n lines, all of them
    come_line : {ls : List (List ℕ)} {i : ℕ} → i < count k r → Come ls (code k + 1) (Part r k i)
        → Come (ls ++ (row_line k i r ∷ [])) (code k + 1) (Part r k (suc i))
    unfolding after_line
    come_line {ls} {i} l x =
        record {
          to = after_line x.to k (row_line k i r);
          read = read_more x.read k (row_line k i r) taken (not_end x.to k (numbers k (row_line k i r)) high);
          some = omega arith;
          last = omega arith;
          rules = subst (λ (v : List ℕ). Part r k (suc i) (appended k x.to.rules v)) (sym (row_numbers r typed k i high)) more;
        }
      where
        more : Part r k (suc i) (appended k x.to.rules (row k i r))
        more = part_more x.rules low high typed.sized (omega (arith, table_few r k (loadable_table r loads k)))

        taken : Taken x.to k (row_line k i r)
        taken =
            record {
              kind = line_kind k (row k i r);
              ended = λ e. omega (arith, x.last);
              first_head = λ e. absurd (omega (arith, eqb-true (code k) 1 e));
              head_first = λ e. absurd (omega (arith, x.some));
              rises = omega (arith, x.last);
              sized = line_size_lem k (row k i r);
              passes =
                  (λ t. row_refusal k (x.rules.here.counted t) x.to.rules (row_numbers r typed k i high t))
                  ∙ same_refusal k i x.to.rules r (part_agrees x.rules low) (row k i r) ∙ row_passes r loads k i l;
            }

    come_more : {ls : List (List ℕ)} (n : ℕ) → n ≤ count k r → Come ls (code k + 1) (Part r k 0)
        → Come (ls ++ table n (λ i. row_line k i r)) (code k + 1) (Part r k n)
    come_more {ls} zero l x = come_same (sym (append-nil ls)) x
    come_more {ls} (suc n) l x =
        come_same (append_assoc ls (table n (λ i. row_line k i r)) (row_line k n r ∷ [])) (come_line l (come_more n (omega arith) x))

    come_table : {ls : List (List ℕ)} {c : ℕ} → code k ≡ c → Come ls c (Whole r c) → Come (ls ++ table_lines k r) (c + 1) (Whole r (c + 1))
    come_table {ls} {c} e x =
        come_same (ap (λ (ms : List (List ℕ)). ls ++ ms) (sym (table_lines_lem k r)))
        (come_as (omega arith) (λ p. part_end k e) (come_more (count k r) (omega arith) (come_as (omega arith) (λ p. part_start k e) x)))

  -- ---- kinds one after another

  come_kinds : {ls : List (List ℕ)} {c d : ℕ} (ks : List Kind) → Rise c ks d → code head < c → Come ls c (Whole r c)
      → Come (ls ++ rule_lines ks r) d (Whole r d)
  come_kinds {ls} [] e l x = subst (λ (d : ℕ). Come (ls ++ []) d (Whole r d)) e (come_same (sym (append-nil ls)) x)
  come_kinds {ls} (k ∷ ks) e l x =
      come_same (append_assoc ls (table_lines k r) (rule_lines ks r))
      (come_kinds {ls = ls ++ table_lines k r} ks e.2 (omega arith) (come_table k (let h = e.0 in omega arith) e.1 e.0 x))

  -- THE LAW: all lines but the end line
  pub come_rules : Come (rule_lines kinds r) 0x0B (Whole r 0x0B)
  come_rules =
      come_kinds (user ∷ edge ∷ formula ∷ demarcation ∷ hierarchy ∷ principal ∷ exclusion ∷ prerequisite ∷ method ∷ []) (
        refl,
        omega arith,
        (
          refl,
          omega arith,
          (
            refl,
            omega arith,
            (
              refl,
              omega arith,
              (
                refl,
                omega arith,
                (
                  refl,
                  omega arith,
                  (
                    refl,
                    omega arith,
                    (
                      refl,
                      omega arith,
                      (
                        refl,
                        omega arith,
                        refl,
                      ),
                    ),
                  ),
                ),
              ),
            ),
          ),
        ),
      )
      (omega arith) come_head
