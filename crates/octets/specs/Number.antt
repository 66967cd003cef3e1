-- Numbers of several octets: the high octet first.
use Rattle.std.specs.Prelude.{ℕ, zero, suc, ◌+◌, ◌*◌, ◌/◌, ◌%◌, List, [], ◌∷◌, ◌++◌}

-- the octets os after a number v that the octets before them make
abbrev pub number_from : ℕ → List ℕ → ℕ
number_from v [] = v
number_from v (o ∷ os) = number_from (v * 256 + o) os

abbrev pub number : List ℕ → ℕ
number os = number_from 0 os

-- the number v in n octets
abbrev pub in_octets : ℕ → ℕ → List ℕ
in_octets zero v = []
in_octets (suc n) v = in_octets n (v / 256) ++ (v % 256 ∷ [])
