-- What the program `rewrite` prints for its standard input (document 01, "The bundle").
use Rattle.std.specs.Prelude.{ℕ, zero, suc, ◌+◌, ◌/◌, ◌%◌, cond, List, [], ◌∷◌, ◌++◌, length, drop, ltb, leb, eqb}
use Rattle.reading.specs.Loaded.{Loaded}
use Rattle.reading.specs.Loading.{load}
use Rattle.bundle.specs.Writing.{bundle_of}

-- "A program reads a bundle of at most 65,536 bytes on standard input"
abbrev pub most_bytes : ℕ
most_bytes = 65536

-- the decimal digits of n, at most d of them
abbrev pub decimals : ℕ → ℕ → List ℕ
decimals zero n = []
decimals (suc d) n = cond (ltb n 10) ((48 + n) ∷ []) (decimals d (n / 10) ++ ((48 + n % 10) ∷ []))

-- `REFUSED`, a space, the number, a space, the line number (of a text of at most 65,536 bytes: at most 5 digits), and 0A
abbrev pub refused_text : ℕ → ℕ → List ℕ
refused_text n line = (82 ∷ 69 ∷ 70 ∷ 85 ∷ 83 ∷ 69 ∷ 68 ∷ 32 ∷ []) ++ (decimals 1 n ++ (32 ∷ (decimals 5 line ++ (10 ∷ []))))

-- `TOO LONG` and 0A
abbrev pub too_long : List ℕ
too_long = 84 ∷ 79 ∷ 79 ∷ 32 ∷ 76 ∷ 79 ∷ 78 ∷ 71 ∷ 10 ∷ []

-- a bundle that loads is written again by the writer
abbrev pub reported : Loaded → List ℕ
reported l = cond (eqb l.number 0) (bundle_of l.rules) (refused_text l.number l.line)

unfoldable pub program : List ℕ → List ℕ
program text = cond (ltb most_bytes (length text)) too_long (reported (load text))

-- ---- bytes put at the start of a buffer

-- how many: all, or none where they do not fit
unfoldable pub shown_length : List ℕ → List ℕ → ℕ
shown_length t buffer = cond (leb (length t) (length buffer)) (length t) 0

-- what the buffer then holds: they, and the bytes past them as they were; untouched where they do not fit
unfoldable pub shown : List ℕ → List ℕ → List ℕ
shown t buffer = cond (leb (length t) (length buffer)) (t ++ drop (length t) buffer) buffer
