-- One altered byte: what the theorem of `DamageLaws` speaks of.
use Rattle.std.specs.Prelude.{ℕ, Bool, true, false, ◌&&◌, ◌≢◌, List, ◌∷◌, nat_le}
use Rattle.common.specs.Lists.{any, every}
use Rattle.octets.specs.Line.{Framed, refused, octets, lines}

-- texts of the same length that differ in exactly one byte
pub data OneAltered : List ℕ → List ℕ → Type 0 where
  this : {b b' : ℕ} {t : List ℕ} → b ≢ b' → OneAltered (b ∷ t) (b' ∷ t)
  next : {b : ℕ} {t t' : List ℕ} → OneAltered t t' → OneAltered (b ∷ t) (b ∷ t')

-- a line is accepted; a line is refused with 1, 2 or 3
abbrev pub is_accepted : Framed → Bool
is_accepted (refused k) = false
is_accepted (octets os) = true

abbrev pub is_refused : Framed → Bool
is_refused (refused k) = nat_le 1 k && nat_le k 3
is_refused (octets os) = false

-- every line of a text is well framed
abbrev pub well_framed : List ℕ → Bool
well_framed t = every is_accepted (lines t)

-- a text has a line that is refused
abbrev pub has_refused_line : List ℕ → Bool
has_refused_line t = any is_refused (lines t)
