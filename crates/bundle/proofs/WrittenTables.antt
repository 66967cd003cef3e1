-- Tables written one after another: the room for each, and its lines as its columns make them.
use Prim.Native.Nat.{ℕ, ◌+◌, ◌*◌, ◌%◌, ◌≤◌}
use mathlib.Core.Path.{◌≡◌, refl, sym, ◌∙◌, ap, subst}
use mathlib.Core.List.{List, [], ◌∷◌, append-nil}
use native.Mathlib.Omega.{arith}
use lib.ListN.{length}
use Rattle.common.specs.Lists.{table}
use Rattle.common.specs.Limits.{most_lines}
use Rattle.octets.specs.Line.{framed, line_bytes, text_of}
use Rattle.octets.proofs.WritingLaws.{length_line}
use Rattle.policy.specs.declared.Record.{Record}
use Rattle.policy.specs.Table.{Kind, head, count, code}
use Rattle.writing.specs.declared.Draft.{Draft}
use Rattle.writing.specs.Drafts.{greatest_total, Put, Grown, Gives, lines_of}
use Rattle.writing.specs.DraftLaws.{put_length}
use Rattle.bundle.specs.Writing.{row_body, line_octets, table_lines, rule_lines}
use Rattle.bundle.specs.WriterParts.{Room, start}
use Rattle.bundle.specs.BodyLaws.{table_lines_lem}
use Rattle.bundle.proofs.LengthLaws.{line_size, rest_count, rest_size}

-- ---- how many lines the tables of several kinds have, and bytes, line by line

abbrev pub counts : List Kind → Record → ℕ
counts [] r = 0
counts (k ∷ ks) r = count k r + counts ks r

abbrev pub sizes : List Kind → Record → ℕ
sizes [] r = 0
sizes (k ∷ ks) r = count k r * line_size k + sizes ks r

rules_count : (ks : List Kind) (r : Record) → length (rule_lines ks r) ≡ counts ks r
rules_count [] r = refl
rules_count (k ∷ ks) r = omega (arith, rest_count k ks r, rules_count ks r)

rules_size : (ks : List Kind) (r : Record) → length (text_of (rule_lines ks r)) ≡ sizes ks r
rules_size [] r = refl
rules_size (k ∷ ks) r = omega (arith, rest_size k ks r, rules_size ks r)

-- room for them, in numbers
pub room_for : (ks : List Kind) (r : Record) {r' : Record} {b : List ℕ} {d : Draft} → r ≡ r' → Room b d (rule_lines ks r')
    → (d.offset + sizes ks r ≤ length b) × (d.lines + counts ks r ≤ most_lines + 1) × (d.sum ≤ greatest_total * d.lines)
room_for ks r {b = b} {d} e h' =
    let h = subst (λ (x : Record). Room b d (rule_lines ks x)) (sym e) h' in
    (omega (arith, h.room, rules_size ks r), omega (arith, h.few, rules_count ks r), h.fair)

-- ---- lines

-- a table of kind k, with the bodies that its closure gives
module _ {B : Type 0} {octets : B → List ℕ} {post : ℕ → B → Type 0} (k : Kind) (r : Record) {b c : List ℕ} {d e : Draft} where
  pub put_table : ((bodies : ℕ → List ℕ) → Gives octets post (count k r) bodies → Put b c d e (table (count k r) (lines_of (code k) bodies)))
      → Gives octets post (count k r) (λ i. row_body k i r) → Put b c d e (table_lines k r)
  put_table put gives = subst (Put b c d e) (sym (table_lines_lem k r)) (put (λ i. row_body k i r) gives)

-- the head's line
pub head_grown : {b c : List ℕ} {e : Draft} (objects : ℕ) → 11 ≤ length b → Put b c start e (line_octets head (1 ∷ objects ∷ []) ∷ [])
    → Grown b c start e 1 11
head_grown {b} {c} {e} objects l p =
    let body = 1 ∷ objects % 256 ∷ [] in
    let n = ap length (append-nil (line_bytes (framed 0x01 body))) ∙ length_line 0x01 body in
    record {
      offset = omega (arith, p.offset, n);
      lines = omega (arith, p.lines);
      fair = omega (arith, p.fair, p.sum, p.lines);
      long = put_length (omega (arith, p.offset, n)) p;
    }
