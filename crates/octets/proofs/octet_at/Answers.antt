-- `octet_at` meets its contract: the k-th pair of the text from the offset on is there, or not.
use Rattle.std.proofs.Common.{◌≡◌, ◌/◌, List, ℕ, Option, [], get_or, length, sym, ap, ◌∙◌, drop, arith}
use Rattle.std.specs.Option.{unwrap_or}
use Rattle.std.specs.Simd.{first_chunks}
use Rattle.octets.specs.Answers.{pair_octet}
use Rattle.octets.proofs.Octet.{past, octet_here}
use Rattle.octets.proofs.octet_at.Goals as goal

pub returns-in_default : goal.returns-in_default
returns-in_default c =
    let n : length c.as_chunks.result.0.now ≡ length c.rest_from.result.now / 2 = c.as_chunks.ensures.front_len in
    let r = ap length c.rest_from.ensures in
    sym (past _ _ (omega (arith, c.in_default.ensures.lookup.3)))

pub returns : goal.returns
returns c =
    let t = drop c.args.offset c.args.text.now in
    let n : length c.as_chunks.result.0.now ≡ length c.rest_from.result.now / 2 = c.as_chunks.ensures.front_len in
    let r = ap length c.rest_from.ensures in
    let p = c.in-Some.ensures.lookup.3 in
    let pair : c.in-Some.pair.now ≡ get_or (first_chunks 2 (length t / 2) t) c.args.k [] =
    p.1 [] ∙ ap (λ (ps : List (List ℕ)). get_or ps c.args.k []) c.as_chunks.ensures.front
    ∙ ap (λ (s : List ℕ). get_or (first_chunks 2 (length s / 2) s) c.args.k []) c.rest_from.ensures in
    c.unwrap_or.ensures
    ∙ ap (λ (o : Option ℕ). unwrap_or o 0) (c.octet_of.ensures ∙ ap pair_octet pair)
    ∙ octet_here t c.args.k (omega (arith, p.0))
