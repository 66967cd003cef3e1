-- The book starts with the edges of the record that its text loads to.
use Rattle.std.specs.Prelude.{ℕ, ◌≡◌, refl, cond, List, [], ◌∷◌, take, drop, eqb}
use Rattle.std.proofs.Common.{◌∙◌, arith, get_or-drop}
use Rattle.common.specs.Lists.{at}
use Rattle.octets.specs.Line.{Framed, refused, octets, kind_octet, body_of, lines}
use Rattle.octets.specs.Number.{number}
use Rattle.policy.specs.Table.{edge, rows}
use Rattle.reading.specs.Body.{numbers, lines_of}
use Rattle.reading.specs.Loading.{load}
use Rattle.reading.specs.KindLaws.{rows_loaded}
use Rattle.history.specs.Book.{edge_lines, first_book}

-- a line's label, from and to are its body's octets
one_octet : (l : List ℕ) → number (take 1 l) ≡ at l 0
one_octet [] = refl
one_octet (x ∷ l) = omega arith

edge_numbers : (os : List ℕ) → numbers edge os ≡ at (body_of os) 0 ∷ at (body_of os) 1 ∷ at (body_of os) 2 ∷ []
edge_numbers os =
    let b = body_of os in
    λ i. one_octet b i ∷ (one_octet (drop 1 b) ∙ get_or-drop 1 b 0 0) i
    ∷ (one_octet (drop 1 (drop 1 b)) ∙ get_or-drop 1 (drop 1 b) 0 0 ∙ get_or-drop 1 b 1 0) i ∷ []

edge_lines_lem : (ls : List Framed) → lines_of edge ls ≡ edge_lines ls
edge_lines_lem [] = refl
edge_lines_lem (refused n ∷ ls) = edge_lines_lem ls
edge_lines_lem (octets os ∷ ls) = λ i. cond (eqb (kind_octet os) 0x03) (edge_numbers os i ∷ edge_lines_lem ls i) (edge_lines_lem ls i)

-- THE LAW: the edge lines are the loaded record's edges
pub first_edges : (text : List ℕ) → (load text).number ≡ 0 → rows edge (load text).rules ≡ first_book text
first_edges text e = rows_loaded edge (omega arith) (omega arith) text e ∙ edge_lines_lem (lines text)
