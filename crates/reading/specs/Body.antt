-- The bodies of lines as numbers.
use Rattle.std.specs.Prelude.{ℕ, List, [], ◌∷◌, cond, take, drop, eqb}
use Rattle.octets.specs.Line.{Framed, refused, octets, kind_octet, body_of}
use Rattle.octets.specs.Number.{number}
use Rattle.policy.specs.Table.{Kind, code, widths}

-- octets as numbers of these widths
abbrev pub values : List ℕ → List ℕ → List ℕ
values [] os = []
values (w ∷ ws) os = number (take w os) ∷ values ws (drop w os)

-- the numbers of a framed line of kind k
abbrev pub numbers : Kind → List ℕ → List ℕ
numbers k os = values (widths k) (body_of os)

-- of the lines from the top, the numbers of those of kind k
abbrev pub lines_of : Kind → List Framed → List (List ℕ)
lines_of k [] = []
lines_of k (refused n ∷ ls) = lines_of k ls
lines_of k (octets os ∷ ls) = cond (eqb (kind_octet os) (code k)) (numbers k os ∷ lines_of k ls) (lines_of k ls)
