-- `refusal_text` meets its contract: the numbers have few digits, and are written as the text says.
use Rattle.std.proofs.Common.{◌≡◌, ℕ, List, [], ◌∷◌, ◌++◌, length, decimal, ap, ◌∙◌, arith}
use Rattle.std.proofs.lemmas.Fmt.{length-decimal-le}
use Rattle.rewriting.proofs.Digits.{refused_is}
use Rattle.rewriting.proofs.refusal_text.Goals as goal

pub returns : goal.returns
returns c =
    let start = ap (λ (t : List ℕ). t ++ (82 ∷ 69 ∷ 70 ∷ 85 ∷ 83 ∷ 69 ∷ 68 ∷ 32 ∷ [])) c.new-text.ensures in
    let number : c.push_str-2.new.self.bytes ≡ (82 ∷ 69 ∷ 70 ∷ 85 ∷ 83 ∷ 69 ∷ 68 ∷ 32 ∷ []) ++ decimal c.args.number =
    c.push_str-2.ensures.bytes ∙ (λ j. (c.push_str.ensures.bytes ∙ start) j ++ c.format.ensures.text j) in
    let line = c.push_str-4.ensures.bytes ∙ (λ j. (c.push_str-3.ensures.bytes ∙ ap (λ (t : List ℕ). t ++ (32 ∷ [])) number) j ++ c.format-2.ensures.text j) in
    c.push_str-5.ensures.bytes ∙ ap (λ (t : List ℕ). t ++ (10 ∷ [])) line ∙ refused_is c.args.number c.args.line c.requires.0 c.requires.1

pub push_str-requires-4 : goal.push_str-requires-4
push_str-requires-4 c =
    let n = length-decimal-le 1 c.args.number (omega arith) c.requires.0 (omega arith) in
    let d = length-decimal-le 5 c.args.line (omega arith) c.requires.1 (omega arith) in
    let f : length c.format.result.now ≡ length (decimal c.args.number) = ap length c.format.ensures.text in
    let g : length c.format-2.result.now ≡ length (decimal c.args.line) = ap length c.format-2.ensures.text in
    let z : length c.new-text.result.bytes ≡ 0 = ap length c.new-text.ensures in
    (omega arith, omega arith)

pub push_str-requires-5 : goal.push_str-requires-5
push_str-requires-5 c =
    let n = length-decimal-le 1 c.args.number (omega arith) c.requires.0 (omega arith) in
    let d = length-decimal-le 5 c.args.line (omega arith) c.requires.1 (omega arith) in
    let f : length c.format.result.now ≡ length (decimal c.args.number) = ap length c.format.ensures.text in
    let g : length c.format-2.result.now ≡ length (decimal c.args.line) = ap length c.format-2.ensures.text in
    let z : length c.new-text.result.bytes ≡ 0 = ap length c.new-text.ensures in
    (omega arith, omega arith)
