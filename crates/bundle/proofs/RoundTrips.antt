-- Loading and writing, said of any text and any record (demand 2): what each theorem says of the calls is here in one place.
use Rattle.std.specs.Prelude.{ℕ, ◌≤◌, ◌≡◌, ◌↔◌, Bool, true, false, not, List, [], ◌∷◌, ◌++◌, ltb}
use Rattle.std.proofs.Math.Path.{refl, sym, ap}
use Rattle.std.proofs.Common.{◌∙◌, subst, arith, le-ltb}
use Rattle.std.proofs.Math.ListN.{length, take, drop}
use Rattle.std.proofs.Math.Seq.{take-append_seam}
use Rattle.common.specs.Causes.{cause, first}
use Rattle.common.specs.Refusals.{short_buffer, not_loadable}
use Rattle.policy.specs.declared.Record.{Record}
use Rattle.policy.specs.Table.{emptied, with_memo}
use Rattle.policy.specs.Loadable.{loadable}
use Rattle.policy.specs.MemoLaws.{memo_aside}
use Rattle.reading.specs.Loaded.{Loaded}
use Rattle.reading.specs.Loading.{load}
use Rattle.reading.specs.LoadingLaws.{as_loaded}
use Rattle.bundle.specs.Written.{Written}
use Rattle.bundle.specs.Writing.{bundle_of, length_needed, written, write_refusal, buffer_after}
use Rattle.policy.specs.Typed.{Typed}
use Rattle.bundle.specs.WriterParts.{Writes}
use Rattle.bundle.proofs.WriteLoad.{write_load}
use Rattle.bundle.proofs.LoadWrite.{load_write}

-- what loading answers for a text of this record's rules: success, and the memo emptied
abbrev pub loads_to : Record → Loaded
loads_to r = record { number = 0; line = 0; rules = with_memo r (emptied 0 0) }

-- ---- 19 means what document 01 says: a record is loadable exactly when some text loads to it, memo aside

-- the same memo again is the same record
pub loadable_exactly : (r : Record) → Typed r → (loadable r ≡ true) ↔ ((text : List ℕ) × (load text ≡ loads_to r))
loadable_exactly r t = (λ e. (bundle_of r, write_load r t e), back)
  where
    back : (text : List ℕ) × (load text ≡ loads_to r) → loadable r ≡ true
    back (text, e) =
        let rules : (load text).rules ≡ with_memo r (emptied 0 0) = ap (λ (l : Loaded). l.rules) e in
        sym (memo_aside r (emptied 0 0))
        ∙ subst (λ (x : Record). loadable x ≡ true) rules (as_loaded text (ap (λ (l : Loaded). l.number) e)).loads

-- ---- what the writer's contract then says

-- a success: some text loads to the record, there was room, and the bundle stands at the buffer's start
success : (r : Record) (before : List ℕ) → write_refusal r before ≡ 0 → loadable r ≡ true
unfolding write_refusal
success r before e = go (loadable r) (ltb (length before) (length (bundle_of r))) e
  where
    go : (x y : Bool) → first (cause not_loadable (not x) ∷ cause short_buffer y ∷ []) ≡ 0 → x ≡ true
    go true y h = refl
    go false y h = absurd (omega arith)

module _ {r : Record} {before after : List ℕ} {w : Written} (c : Writes r before after w) where
  -- WRITE THEN LOAD: what was written loads to the same rules, with the memo emptied
  pub written_loads : w.number ≡ 0 → load (take w.length after) ≡ loads_to r
  unfolding written length_needed buffer_after
  written_loads e =
      let n : write_refusal r before ≡ 0 = sym (ap (λ (x : Written). x.number) c.answers) ∙ e in
      let loads = success r before n in
      let long : w.length ≡ length (bundle_of r) = ap (λ (x : Written). x.length) c.answers ∙ rw loads refl in
      let bytes : after ≡ bundle_of r ++ drop (length (bundle_of r)) before = c.buffer ∙ rw n refl in
      ap load ((λ j. take (long j) (bytes j)) ∙ take-append_seam (bundle_of r) (drop (length (bundle_of r)) before))
      ∙ write_load r c.typed loads

-- LOAD THEN WRITE: what was loaded is written as the same bytes, where there is room for them
pub loaded_written : (text : List ℕ) {before after : List ℕ} {w : Written} → (load text).number ≡ 0
    → Writes (load text).rules before after w → length text ≤ length before
    → (w ≡ record { number = 0; length = length text }) × (after ≡ text ++ drop (length text) before)
unfolding written length_needed buffer_after write_refusal
loaded_written text {before} e c room =
    let r = (load text).rules in
    let same = load_write text e in
    let loads = (as_loaded text e).loads in
    let short = le-ltb (length before) (length (bundle_of r)) (subst (λ (t : List ℕ). length t ≤ length before) (sym same) room) in (
      c.answers ∙ rw (loads, short) (λ j. record { number = 0; length = length (same j) }),
      c.buffer ∙ rw (loads, short) (λ j. same j ++ drop (length (same j)) before),
    )

-- and a loaded record is equal to the written and loaded one, index and memo included
pub loaded_again : (text : List ℕ) → (load text).number ≡ 0 → load (bundle_of (load text).rules) ≡ load text
loaded_again text e = ap load (load_write text e)
