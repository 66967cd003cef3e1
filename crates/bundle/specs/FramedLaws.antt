-- A text all of whose lines are accepted is what their octets write.
use Rattle.std.specs.Prelude.{ℕ, ◌≡◌, refl, Bool, true, false, cond, List, [], ◌∷◌, ◌++◌, eqb}
use Rattle.std.proofs.Common.{sym, ◌∙◌, ap, append_assoc}
use Rattle.std.proofs.lemmas.Bool.{false≢true}
use Rattle.common.specs.Lists.{every}
use Rattle.octets.specs.Line.{Framed, refused, octets, rest_of, frame, starts, later_lines, lines, digits, text_of}
use Rattle.octets.proofs.WritingLaws.{written_again}
use Rattle.octets.specs.Damage.{is_accepted, well_framed}

-- the octets of the lines, where all are accepted
abbrev pub octet_lines : List Framed → List (List ℕ)
octet_lines [] = []
octet_lines (refused n ∷ ls) = octet_lines ls
octet_lines (octets os ∷ ls) = os ∷ octet_lines ls

-- a first line that is accepted, and the text that follows it
first_text : (t : List ℕ) (f : Framed) (ls : List Framed) → frame t ≡ f → (every is_accepted ls ≡ true → rest_of t ≡ text_of (octet_lines ls))
    → every is_accepted (f ∷ ls) ≡ true
    → t ≡ text_of (octet_lines (f ∷ ls))
first_text t (refused n) ls e rest h = absurd (false≢true h)
first_text t (octets os) ls e rest h =
    written_again t e
    ∙ ap (λ (u : List ℕ). digits os ++ (0x0A ∷ u)) (rest h)
    ∙ sym (append_assoc (digits os) (0x0A ∷ []) (text_of (octet_lines ls)))

starts_text : (t : List ℕ) (ls : List Framed) → (every is_accepted ls ≡ true → rest_of t ≡ text_of (octet_lines ls))
    → every is_accepted (starts t ls) ≡ true
    → t ≡ text_of (octet_lines (starts t ls))
starts_text [] ls rest h = refl
starts_text (b ∷ t) ls rest h = first_text (b ∷ t) (frame (b ∷ t)) ls refl rest h

later_text : (t : List ℕ) → every is_accepted (later_lines t) ≡ true → rest_of t ≡ text_of (octet_lines (later_lines t))
later_text [] h = refl
later_text (b ∷ t) h₀ = go (eqb b 0x0A) (later_text t) h₀
  where
    go : (x : Bool) → (every is_accepted (later_lines t) ≡ true → rest_of t ≡ text_of (octet_lines (later_lines t)))
        → every is_accepted (cond x (starts t (later_lines t)) (later_lines t)) ≡ true
        → cond x t (rest_of t) ≡ text_of (octet_lines (cond x (starts t (later_lines t)) (later_lines t)))
    go true rest h = starts_text t (later_lines t) rest h
    go false rest h = rest h

-- THE LAW: a text whose lines are all accepted is what their octets write
pub text_again : (t : List ℕ) → well_framed t ≡ true → t ≡ text_of (octet_lines (lines t))
unfolding lines
text_again t h = starts_text t (later_lines t) (later_text t) h
