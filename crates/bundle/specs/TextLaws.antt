-- Written lines as a text are read back line by line; and how large their plain sum can be.
use Rattle.std.specs.Prelude.{ℕ, zero, suc, ◌*◌, ◌≤◌, ◌<◌, ◌≡◌, refl, List, [], ◌∷◌, ◌++◌, map, length}
use Rattle.std.proofs.Common.{sym, ◌∙◌, ap, append_assoc, arith, length-append}
use Rattle.common.specs.Lists.{table}
use Rattle.octets.specs.Line.{octets, total, digits, framed, lines, totals, text_of}
use Rattle.octets.proofs.LineLaws.{lines_none, lines_cons}
use Rattle.octets.proofs.WritingLaws.{Octets, framed_octets, length_framed, reads_back, rest_follows}
use Rattle.policy.specs.Table.{Kind, head, user, edge, formula, demarcation, hierarchy, principal, exclusion, prerequisite, method, end}
use Rattle.policy.specs.Table.{code}
use Rattle.policy.specs.Table.{widths}
use Rattle.bundle.specs.Writing.{body, line_octets}
use Rattle.bundle.specs.BodyLaws.{length_body, octets_body}

-- the octets of a line with at most 9 octets in its body
pub record Line (os : List ℕ) : Type 0 where
  pub kind : ℕ
  pub body : List ℕ
  pub is : os ≡ framed kind body
  pub low : kind < 256
  pub short : length body ≤ 9
  pub fit : Octets body

abbrev pub Lines : List (List ℕ) → Type 0
Lines [] = Unit {0}
Lines (os ∷ ls) = Line os × Lines ls

pub lines_append : (ls ms : List (List ℕ)) → Lines ls → Lines ms → Lines (ls ++ ms)
lines_append [] ms p q = q
lines_append (os ∷ ls) ms p q = (p.0, lines_append ls ms p.1 q)

pub lines_table : (n : ℕ) (f : ℕ → List ℕ) → ((i : ℕ) → Line (f i)) → Lines (table n f)
lines_table zero f p = tt
lines_table (suc n) f p = lines_append (table n f) (f n ∷ []) (lines_table n f p) (p n, tt)

-- ---- every kind's lines are such

record Low (k : Kind) : Type 0 where
  octet : code k < 256
  size : total (widths k) ≤ 9

low : (k : Kind) → Low k
low head = record { octet = omega arith; size = omega arith }
low user = record { octet = omega arith; size = omega arith }
low edge = record { octet = omega arith; size = omega arith }
low formula = record { octet = omega arith; size = omega arith }
low demarcation = record { octet = omega arith; size = omega arith }
low hierarchy = record { octet = omega arith; size = omega arith }
low principal = record { octet = omega arith; size = omega arith }
low exclusion = record { octet = omega arith; size = omega arith }
low prerequisite = record { octet = omega arith; size = omega arith }
low method = record { octet = omega arith; size = omega arith }
low end = record { octet = omega arith; size = omega arith }

pub line_of : (k : Kind) (v : List ℕ) → Line (line_octets k v)
line_of k v =
    record {
      kind = code k;
      body = body (widths k) v;
      is = refl;
      low = (low k).octet;
      short = omega (arith, length_body (widths k) v, (low k).size);
      fit = octets_body (widths k) v;
    }

-- ---- reading back

-- THE LAW: written lines, as a text, are read as these lines
pub lines_text : (ls : List (List ℕ)) → Lines ls → lines (text_of ls) ≡ map octets ls
lines_text [] p = lines_none
lines_text (os ∷ ls) p =
    let n = p.0 in
    let bytes : text_of (os ∷ ls) ≡ digits (framed n.kind n.body) ++ (0x0A ∷ text_of ls) =
    append_assoc (digits os) (0x0A ∷ []) (text_of ls) ∙ ap (λ (m : List ℕ). digits m ++ (0x0A ∷ text_of ls)) n.is in
    let short : length n.body ≤ 255 = omega arith in
    let some : 0 < length (digits (framed n.kind n.body) ++ (0x0A ∷ text_of ls)) = omega
    (arith, length-append (digits (framed n.kind n.body)) (0x0A ∷ text_of ls)) in
    let first = reads_back n.kind n.body (text_of ls) n.low short n.fit ∙ ap octets (sym n.is) in
    let rest = ap lines (rest_follows n.kind n.body (text_of ls) n.low short n.fit) ∙ lines_text ls p.1 in
    ap lines bytes ∙ lines_cons _ some ∙ (λ j. first j ∷ rest j)

-- ---- sums

total_le : (os : List ℕ) → Octets os → total os ≤ 255 * length os
total_le [] p = omega arith
total_le (o ∷ os) p = omega (arith, total_le os p.1, p.0)

line_total_lem : {os : List ℕ} → Line os → total os ≤ 3060
line_total_lem {os} n =
    let e = n.is in
    let t = total_le (framed n.kind n.body) (framed_octets n.kind n.body n.low (omega arith) n.fit) in
    omega (arith, length_framed n.kind n.body, ap total e)

pub lines_total : (ls : List (List ℕ)) → Lines ls → totals ls ≤ 3060 * length ls
lines_total [] p = omega arith
lines_total (os ∷ ls) p = omega (arith, lines_total ls p.1, line_total_lem p.0)
