-- What loads is loadable, with an empty memo of pair (0, 0).
use Rattle.std.specs.Prelude.{ℕ, ◌+◌, ◌≤◌, ◌<◌, ◌≡◌, refl, ◌≢◌, Bool, true, false, not, cond, ◌||◌, List, [], ◌∷◌, ◌++◌, length, ltb, eqb}
use Rattle.std.proofs.Common.{sym, ◌∙◌, ap, subst, arith, eqb-true, eq-eqb, ne_eqb, ltb-false}
use Rattle.std.proofs.lemmas.Bool.{false≢true, eqb-false, not-false}
use Rattle.common.specs.BoolLaws.{or_none}
use Rattle.common.specs.Causes.{Cause, cause, first}
use Rattle.common.specs.Refusals.{wrong_kind, wrong_end}
use Rattle.common.specs.Refusals as refusals
use Rattle.octets.specs.Line.{Framed, refused, octets, kind_octet, body_of, total, lines}
use Rattle.closure.specs.Closure.{circular}
use Rattle.policy.specs.declared.Record.{Record}
use Rattle.policy.specs.Table.{Kind, code, kind_of, is_kind, count, rows, emptied, no_index, blank, appended, with_index, indexed}
use Rattle.policy.specs.Table.{head, user, edge, formula, demarcation, hierarchy, principal, exclusion, prerequisite, method, end}
use Rattle.policy.specs.Rows.{row_causes, row_refusal}
use Rattle.policy.specs.Loadable.{table_loads, loadable}
use Rattle.policy.specs.LoadableLaws.{loadable_from, index_agrees_lem}
use Rattle.policy.specs.MemoLaws.{indexed_loadable}
use Rattle.policy.specs.ColumnLengthLaws.{sized_index}
use Rattle.edge_index.specs.Index.{index_in}
use Rattle.policy.specs.TableLaws.{ColumnLengths, blank_loads, sized_blank, sized_appended, count_other}
use Rattle.policy.specs.GrowthLaws.{tables_more, tables_first, blank_empty}
use Rattle.reading.specs.Loaded.{Loaded}
use Rattle.policy.specs.Table.{widths}
use Rattle.reading.specs.Body.{numbers}
use Rattle.reading.specs.Loading.{Reading, at_top, misplaced, end_wrong, line_refusal, after_line, not_loaded, after_last_line, read, load}

-- ---- a line that is taken

-- no cause is there: none of the first, and none of those with one more behind them
none_before : (cs : List Cause) (c : Cause) → first (cs ++ (c ∷ [])) ≡ 0 → first cs ≡ 0
none_before [] c e = refl
none_before (cause k true ∷ cs) c e = e
none_before (cause k false ∷ cs) c e = none_before cs c e

pub none_first : (k : ℕ) (m : Bool) (cs : List Cause) → k ≢ 0 → first (cause k m ∷ cs) ≡ 0 → (m ≡ false) × (first cs ≡ 0)
none_first k true cs h e = absurd (h e)
none_first k false cs h e = (refl, e)

pub record Taken (t : Reading) (k : Kind) (os : List ℕ) : Type 0 where
  pub kind : kind_octet os ≡ code k
  pub ended : t.last ≢ 0xFF
  pub first_head : is_kind k head ≡ true → t.lines ≡ 0
  pub head_first : t.lines ≡ 0 → is_kind k head ≡ true
  pub rises : t.last ≤ code k
  pub sized : length (body_of os) ≡ total (widths k)
  pub passes : row_refusal k (count k t.rules) t.rules (numbers k os) ≡ 0

one_both : (x y : Bool) → not (eqb (cond x 1 0) (cond y 1 0)) ≡ false → x ≡ y
one_both true true e = refl
one_both true false e = absurd (false≢true (sym e))
one_both false true e = absurd (false≢true (sym e))
one_both false false e = refl

pub taken : (t : Reading) (k : Kind) (os : List ℕ) → line_refusal t k os ≡ 0 → Taken t k os
unfolding line_refusal misplaced row_refusal
taken t k os e =
    let row = row_causes k (count k t.rules) t.rules (numbers k os) in
    let last = cause wrong_end (end_wrong t k (numbers k os)) in
    let (m, q) = none_first wrong_kind (misplaced t k os) (row ++ (last ∷ [])) (λ z. omega arith) e in
    let p = none_before row last q in
    let (a, m₁) = or_none (not (eqb (kind_octet os) (code k))) _ m in
    let (b, m₂) = or_none (eqb t.last 0xFF) _ m₁ in
    let (c, m₃) = or_none (not (eqb (cond (is_kind k head) 1 0) (cond (eqb t.lines 0) 1 0))) _ m₂ in
    let (d, f) = or_none (ltb (code k) t.last) _ m₃ in
    let same = one_both (is_kind k head) (eqb t.lines 0) c in
    record {
      kind = eqb-true _ _ (not-false _ a);
      ended = eqb-false _ _ b;
      first_head = λ h. eqb-true _ _ (sym same ∙ h);
      head_first = λ z. same ∙ eq-eqb _ _ z;
      rises = ltb-false _ _ d;
      sized = eqb-true _ _ (not-false _ f);
      passes = p;
    }

-- ---- the records of the lines taken

-- before the first line, or: every table loads, and there are no lines of a kind above the last one's
pub record Sound (t : Reading) : Type 0 where
  pub sized : ColumnLengths t.rules
  pub memo : t.rules.memo ≡ emptied 0 0
  pub top : t.lines ≡ 0 → t ≡ at_top
  pub loads : t.lines ≢ 0 → (j : Kind) → table_loads t.rules j ≡ true
  pub empty : (j : Kind) → 1 < code j → t.last < code j → count j t.rules ≡ 0

pub sound_top : Sound at_top
unfolding blank
sound_top = record { sized = sized_blank; memo = refl; top = λ z. refl; loads = λ h. absurd (h refl); empty = λ j l h. blank_empty j l }

memo_kept : (k : Kind) (r : Record) (v : List ℕ) → (appended k r v).memo ≡ r.memo
unfolding appended
memo_kept k r v = refl

pub end_kept : (r : Record) (v : List ℕ) → appended end r v ≡ r
unfolding appended
end_kept r v = refl

-- head, end, or a kind between them
pub data Sort (k : Kind) : Type 0 where
  is_head : head ≡ k → Sort k
  is_end : end ≡ k → Sort k
  between : 1 < code k → code k < 0xFF → Sort k

pub sort : (k : Kind) → Sort k
sort head = is_head refl
sort user = between (omega arith) (omega arith)
sort edge = between (omega arith) (omega arith)
sort formula = between (omega arith) (omega arith)
sort demarcation = between (omega arith) (omega arith)
sort hierarchy = between (omega arith) (omega arith)
sort principal = between (omega arith) (omega arith)
sort exclusion = between (omega arith) (omega arith)
sort prerequisite = between (omega arith) (omega arith)
sort method = between (omega arith) (omega arith)
sort end = is_end refl

-- every table loads once the line is in
abbrev AllLoad : Kind → Record → List ℕ → Type 0
AllLoad k r os = (j : Kind) → table_loads (appended k r (numbers k os)) j ≡ true

pub sound_more : (t : Reading) (k : Kind) (os : List ℕ) → Taken t k os → Sound t → Sound (after_line t k os)
unfolding after_line
sound_more t k os w s =
    record {
      sized = sized_appended k (numbers k os) s.sized;
      memo = memo_kept k t.rules (numbers k os) ∙ s.memo;
      top = λ z. absurd (omega arith);
      loads = λ h. all (sort k);
      empty = λ j l h.
          count_other k j t.rules (numbers k os) (ne_eqb (code k) (code j) (λ z. omega arith))
          ∙ s.empty j l (let m = w.rises in omega arith);
    }
  where
    not_top : 1 < code k → t.lines ≢ 0
    not_top l z = false≢true (sym (ne_eqb (code k) 1 (λ q. omega arith)) ∙ w.head_first z)

    all : Sort k → AllLoad k t.rules os
    all (between low high) =
        tables_more k t.rules (numbers k os) low high s.sized (s.loads (not_top low))
        (λ j l. s.empty j (omega arith) (let m = w.rises in omega arith)) w.passes
    all (is_end e) =
        subst (λ (i : Kind). AllLoad i t.rules os) e
        (λ j. ap (λ (r : Record). table_loads r j) (end_kept t.rules (numbers end os)) ∙ s.loads not_first j)
      where
        not_first : t.lines ≢ 0
        not_first z = false≢true (ap (λ (i : Kind). is_kind i head) e ∙ w.head_first z)
    all (is_head e) =
        let z : t.lines ≡ 0 = w.first_head (ap (λ (i : Kind). is_kind i head) (sym e)) in
        let b : t.rules ≡ blank = ap (λ (u : Reading). u.rules) (s.top z) in
        subst (λ (i : Kind). row_refusal i (count i t.rules) t.rules (numbers i os) ≡ 0 → AllLoad i t.rules os) e
        (subst (λ (r : Record). row_refusal head 1 r (numbers head os) ≡ 0 → AllLoad head r os) (sym b) (tables_first (numbers head os)))
        w.passes

-- what a text that loads gives
pub record AsLoaded (r : Record) : Type 0 where
  pub loads : loadable r ≡ true
  pub memo : r.memo ≡ emptied 0 0
  pub sized : ColumnLengths r

-- of the answer of loading
abbrev Gives : Loaded → Type 0
Gives a = a.number ≡ 0 → AsLoaded a.rules

end_loaded : (t : Reading) → Sound t → Gives (after_last_line t)
unfolding after_last_line with_index
end_loaded t s = go (eqb t.last 0xFF) (circular (rows hierarchy t.rules)) (circular (rows prerequisite t.rules)) refl refl refl
  where
    not_top : t.last ≡ 0xFF → t.lines ≢ 0
    not_top p o = let l : ◌≡◌ {A = ℕ} 0 0xFF = ap (λ (x : Reading). x.last) (sym (s.top o)) ∙ p in omega arith

    go : (x y z : Bool) → eqb t.last 0xFF ≡ x → circular (rows hierarchy t.rules) ≡ y → circular (rows prerequisite t.rules) ≡ z
        → Gives
        (cond (not x) (not_loaded wrong_end (t.lines + 1))
        (cond (y || z) (not_loaded refusals.circle t.lines) (record { number = 0; line = 0; rules = indexed t.rules })))
    go false y z p q u n = absurd (omega arith)
    go true true z p q u n = absurd (omega arith)
    go true false true p q u n = absurd (omega arith)
    go true false false p q u n =
        record {
          loads = indexed_loadable t.rules (s.loads (not_top (eqb-true _ _ p))) (rw (q, u));
          memo = s.memo;
          sized = sized_index t.rules _ s.sized;
        }

-- the blank record, which a refusal hands back, is one of them
blank_loaded : AsLoaded blank
unfolding blank no_index index_in circular
blank_loaded = record { loads = loadable_from blank blank_loads refl ((index_agrees_lem blank).1 refl); memo = refl; sized = sized_blank }

read_loaded : (ls : List Framed) (t : Reading) → Sound t → Gives (read t ls)
unfolding read
read_loaded [] t s e = end_loaded t s e
read_loaded (refused n ∷ ls) t s e = blank_loaded
read_loaded (octets os ∷ ls) t s e = go (eqb (line_refusal t k os) 0) refl (read_loaded ls (after_line t k os)) e
  where
    k : Kind
    k = kind_of (kind_octet os)

    go : (x : Bool) → eqb (line_refusal t k os) 0 ≡ x → (Sound (after_line t k os) → Gives (read (after_line t k os) ls))
        → Gives (cond x (read (after_line t k os) ls) (not_loaded (line_refusal t k os) (t.lines + 1)))
    go true p ih n = ih (sound_more t k os (taken t k os (eqb-true _ _ p)) s) n
    go false p ih n = blank_loaded

-- THE LAW: what loads is loadable, with an empty memo of pair (0, 0)
pub as_loaded : (text : List ℕ) → (load text).number ≡ 0 → AsLoaded (load text).rules
unfolding load
as_loaded text = read_loaded (lines text) at_top sound_top
