-- What framing says of the lines of a text: each is refused with 1, 2 or 3, or its octets are as a line's must be.
use Rattle.std.specs.Prelude.{ℕ, ◌+◌, ◌%◌, ◌≤◌, ◌≡◌, Bool, true, false, cond, List, [], ◌∷◌, length, eqb}
use Rattle.std.proofs.Common.{sym, subst}
use Rattle.common.specs.Lists.{at}
use Rattle.octets.specs.Line.{Framed, refused, octets, total, line_of, starts, later_lines, lines}
use Rattle.octets.proofs.LineLaws.{Accepted, LineJudged, frame_judged}
use Rattle.octets.proofs.LineLaws.LineJudged.{accepts, refuses}
use Rattle.octets.proofs.WritingLaws.{Octets, octets_of_pairs}

-- octets with the length octet and the sum right
pub record Fine (os : List ℕ) : Type 0 where
  pub small : Octets os
  pub long : at os 0 + 3 ≡ length os
  pub adds : total os % 256 ≡ 0

-- a line is refused with 1, 2 or 3, or has such octets
pub data Checked : Framed → Type 0 where
  refused_line_lem : {n : ℕ} → 1 ≤ n → n ≤ 3 → Checked (refused n)
  octets_line : {os : List ℕ} → Fine os → Checked (octets os)

-- lines as framing gives them
pub data Lines : List Framed → Type 0 where
  none : Lines []
  more : {f : Framed} {ls : List Framed} → Checked f → Lines ls → Lines (f ∷ ls)

fine : {t os : List ℕ} → Accepted t os → Fine os
fine {t} a = record { small = subst Octets a.read (octets_of_pairs (line_of t) a.are); long = a.long; adds = a.adds }

checked : {t : List ℕ} {f : Framed} → LineJudged t f → Checked f
checked (accepts e a) = subst Checked (sym e) (octets_line (fine a))
checked (refuses e l h) = subst Checked (sym e) (refused_line_lem l h)

starts_checked : (t : List ℕ) {ls : List Framed} → Lines ls → Lines (starts t ls)
starts_checked [] p = none
starts_checked (b ∷ t) p = more (checked (frame_judged (b ∷ t))) p

later_checked : (t : List ℕ) → Lines (later_lines t)
later_checked [] = none
later_checked (b ∷ t) = go (eqb b 0x0A) (later_checked t)
  where
    go : (x : Bool) → Lines (later_lines t) → Lines (cond x (starts t (later_lines t)) (later_lines t))
    go true p = starts_checked t p
    go false p = p

pub lines_checked : (t : List ℕ) → Lines (lines t)
unfolding lines
lines_checked t = starts_checked t (later_checked t)
