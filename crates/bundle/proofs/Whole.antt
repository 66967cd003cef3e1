-- The bundle of a record in its parts: the room that it takes, and what stands in the buffer when all are written.
use Prim.Native.Nat.{ℕ, ◌+◌, ◌≤◌}
use mathlib.Core.Path.{◌≡◌, refl, sym, ◌∙◌, ap, subst}
use mathlib.Core.Bool.{true}
use mathlib.Core.List.{List, [], ◌∷◌, ◌++◌, append_assoc}
use native.Mathlib.Omega.{arith}
use lib.ListN.{length, drop, length-append}
use Rattle.octets.specs.Line.{text_of, totals}
use Rattle.policy.specs.declared.Record.{Record}
use Rattle.policy.specs.Table.{Kind, head, user, edge, formula, demarcation, hierarchy, principal, exclusion, prerequisite, method, end}
use Rattle.policy.specs.Table.{kinds}
use Rattle.policy.specs.LinesBefore.{lines_before}
use Rattle.policy.specs.Loadable.{loadable}
use Rattle.writing.specs.declared.Draft.{Draft}
use Rattle.writing.specs.Drafts.{RoomFor, Put}
use Rattle.writing.specs.DraftLaws.{text_append, put_join, put_length}
use Rattle.bundle.specs.Writing.{line_octets, table_lines, rule_lines, with_end, bundle_of}
use Rattle.bundle.specs.WriterParts.{graph_lines, ground_lines, start, Room}
use Rattle.bundle.proofs.LengthLaws.{end_size, rules_few}

rules_append : (ks js : List Kind) (r : Record) → rule_lines (ks ++ js) r ≡ rule_lines ks r ++ rule_lines js r
rules_append [] js r = refl
rules_append (k ∷ ks) js r =
    ap (λ (ls : List (List ℕ)). table_lines k r ++ ls) (rules_append ks js r)
    ∙ sym (append_assoc (table_lines k r) (rule_lines ks r) (rule_lines js r))

module _ (r : Record) where
  parts : rule_lines kinds r ≡ graph_lines r ++ ground_lines r
  parts = rules_append (head ∷ user ∷ edge ∷ formula ∷ demarcation ∷ []) (hierarchy ∷ principal ∷ exclusion ∷ prerequisite ∷ method ∷ []) r

  lengths : length (bundle_of r) ≡ length (text_of (graph_lines r)) + length (text_of (ground_lines r)) + 19
  unfolding bundle_of
  lengths =
      let ls = rule_lines kinds r in
      let v = length ls ∷ totals ls ∷ [] in
      ap length (text_append ls (line_octets end v ∷ [])) ∙ length-append (text_of ls) (text_of (line_octets end v ∷ []))
      ∙ (let p = ap (λ (ms : List (List ℕ)). length (text_of ms)) parts in
      let q = ap length (text_append (graph_lines r) (ground_lines r)) ∙ length-append (text_of (graph_lines r)) (text_of (ground_lines r)) in
      let e = end_size (length (rule_lines kinds r) ∷ totals (rule_lines kinds r) ∷ []) in
      omega arith)

  module _ (loads : loadable r ≡ true) where
    counts : length (graph_lines r) + length (ground_lines r) ≤ lines_before end
    counts = let n = ap length parts ∙ length-append (graph_lines r) (ground_lines r) in omega (arith, rules_few r loads kinds)

    module _ {b : List ℕ} (fits : length (bundle_of r) ≤ length b) where
      pub room_start : Room b start (graph_lines r)
      room_start = let l = lengths in let n = counts in record { room = omega arith; few = omega arith; fair = omega arith }

      module _ {c : List ℕ} {d : Draft} (p : Put b c start d (graph_lines r)) where
        pub room_grounds : Room c d (ground_lines r)
        room_grounds =
            let l = lengths in
            let n = counts in
            let same : length c ≡ length b = put_length (omega (arith, p.offset)) p in
            record { room = omega (arith, p.offset); few = omega (arith, p.lines); fair = omega (arith, p.lines, p.sum, p.fair) }

        module _ {a : List ℕ} {e : Draft} (q : Put c a d e (ground_lines r)) where
          pub room_end : RoomFor a e 1 19
          room_end =
              let l = lengths in
              let n = counts in
              let same : length c ≡ length b = put_length (omega (arith, p.offset)) p in
              let again : length a ≡ length c = put_length (omega (arith, p.offset, q.offset)) q in
              record {
                room = omega (arith, p.offset, q.offset);
                few = omega (arith, p.lines, q.lines);
                fair = omega
                    (arith, p.lines, p.sum, p.fair, q.lines, q.sum, q.fair);
              }

          all : Put b a start e (rule_lines kinds r)
          all = subst (Put b a start e) (sym parts) (put_join (omega arith) p q)

          -- THE LAW: the three parts written one after another are the bundle, and past it the buffer is as it was
          pub whole : {z : List ℕ} {f : Draft} → Put a z e f (line_octets end (e.lines ∷ e.sum ∷ []) ∷ [])
              → z ≡ bundle_of r ++ drop (length (bundle_of r)) b
          unfolding bundle_of
          whole {z} {f} u =
              let ls = rule_lines kinds r in
              let n : e.lines ≡ length ls = omega (arith, all.lines) in
              let m : e.sum ≡ totals ls = omega (arith, all.sum) in
              let last : line_octets end (e.lines ∷ e.sum ∷ []) ∷ [] ≡ line_octets end (length ls ∷ totals ls ∷ []) ∷ [] =
              λ j. line_octets end (n j ∷ m j ∷ []) ∷ [] in
              let w = put_join (omega arith) all (subst (Put a z e f) last u) in
              let end-offset : f.offset ≡ length (text_of (with_end ls)) = omega (arith, w.offset) in
              w.bytes ∙ ap (λ (k : ℕ). text_of (with_end ls) ++ drop k b) end-offset
