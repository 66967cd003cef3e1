-- The numbers of a line's body, read off its octets.
use Prim.Native.Nat.{ℕ, zero, suc, ◌+◌, ◌-◌, ◌*◌, ◌≤◌, ◌<◌}
use mathlib.Core.Path.{◌≡◌, refl, ◌∙◌, ap}
use mathlib.Core.List.{List, [], ◌∷◌, ◌++◌}
use native.Mathlib.Omega.{arith}
use lib.ListN.{length, take, drop, length-take, length-drop}
use lib.Seq.{take-suc, get_or-take, get_or-drop, drop-drop}
use Rattle.common.specs.Lists.{at, table}
use Rattle.common.specs.ListLaws.{table_same}
use Rattle.octets.specs.Line.{body_of, total}
use Rattle.octets.specs.Number.{number}
use Rattle.policy.specs.Table.{Kind}
use Rattle.policy.specs.Table.{widths}
use Rattle.reading.specs.Body.{values, numbers}
use Rattle.lines.specs.NextLine.{number_at}

-- a part of a list, number by number
part_table : (l : List ℕ) (k w : ℕ) → k + w ≤ length l → take w (drop k l) ≡ table w (λ i. at l (k + i))
part_table l k zero h = refl
part_table l k (suc w) h =
    take-suc (drop k l) w 0 (omega (arith, length-drop k l))
    ∙ (λ j. part_table l k w (omega arith) j ++ (get_or-drop k l w 0 j ∷ []))

-- the numbers of these widths, from the k-th octet on
abbrev pub fields_at : List ℕ → List ℕ → ℕ → List ℕ
fields_at os [] k = []
fields_at os (w ∷ ws) k = number_at os k w ∷ fields_at os ws (k + w)

pub one_octet : (os : List ℕ) (k : ℕ) → at os k ≡ number_at os k 1
unfolding number_at
one_octet os k =
    let e : k ≡ k + 0 = omega arith in ap (at os) e ∙ (let z : at os (k + 0) ≡ 0 * 256 + at os (k + 0) = omega arith in z)

pub two_octets_lem : (os : List ℕ) (k : ℕ) → at os k * 256 + at os (k + 1) ≡ number_at os k 2
unfolding number_at
two_octets_lem os k =
    let e : k ≡ k + 0 = omega arith in
    ap (λ (j : ℕ). at os j * 256 + at os (k + 1)) e
    ∙ (let z : at os (k + 0) * 256 + at os (k + 1) ≡ (0 * 256 + at os (k + 0)) * 256 + at os (k + 1) = omega arith in z)

module _ (os : List ℕ) (n : ℕ) (size : length os ≡ n + 3) where
  body_size : length (body_of os) ≡ n
  body_size = omega (arith, length-take (length os - 3) (drop 2 os), length-drop 2 os)

  -- the octets of the body are those of the line
  body_octet : (i : ℕ) → i < n → at (body_of os) i ≡ at os (2 + i)
  body_octet i l = get_or-take (length os - 3) (drop 2 os) i 0 (omega arith) ∙ get_or-drop 2 os i 0

  field : (s w : ℕ) → s + w ≤ n → number (take w (drop s (body_of os))) ≡ number_at os (2 + s) w
  unfolding number_at
  field s w h =
      ap number
      (part_table (body_of os) s w (let b = body_size in omega arith)
      ∙ table_same w _ _ (λ i l. body_octet (s + i) (omega arith) ∙ ap (at os) (let z : 2 + (s + i) ≡ 2 + s + i = omega arith in z)))

  fields : (ws : List ℕ) (s : ℕ) → s + total ws ≤ n → values ws (drop s (body_of os)) ≡ fields_at os ws (2 + s)
  fields [] s h = refl
  fields (w ∷ ws) s h =
      λ j. field s w (omega arith) j
      ∷ (ap (values ws) (drop-drop w s (body_of os))
      ∙ fields ws (s + w) (omega arith)
      ∙ ap (fields_at os ws) (let z : 2 + (s + w) ≡ 2 + s + w = omega arith in z)) j

  -- the numbers of a line of kind k
  pub numbers_are : (k : Kind) → total (widths k) ≡ n → numbers k os ≡ fields_at os (widths k) 2
  numbers_are k h = fields (widths k) 0 (omega arith)
