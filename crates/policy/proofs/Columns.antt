-- The edges' columns: what they hold in a loadable record, and that a value more or less in each is an edge more or less.
use Prim.Native.Nat.{ℕ, zero, suc, ◌+◌, ◌-◌, ◌≤◌, ◌<◌}
use mathlib.Core.Path.{◌≡◌, refl, sym, ◌∙◌, ap}
use mathlib.Core.List.{List, [], ◌∷◌, ◌++◌, map, map-append, append_assoc}
use native.Mathlib.Omega.{arith}
use native.Mathlib.Numerals.{add-one}
use lib.ListN.{length, take, drop, replicate, length-append, length-take, length-drop, length-map}
use lib.Seq.{take-append-le, drop-append-le, take_at, drop_at, drop-drop}
use Rattle.common.specs.Limits.{most_edges}
use Rattle.common.specs.Lists.{at}
use Rattle.policy.specs.Table.{column}

-- ---- a value more, a value less

module _ (f : List ℕ → ℕ) where
  map_take : (n : ℕ) (es : List (List ℕ)) → take n (map f es) ≡ map f (take n es)
  map_take zero es = refl
  map_take (suc n) [] = refl
  map_take (suc n) (e ∷ es) = ap (λ (l : List ℕ). f e ∷ l) (map_take n es)

  map_drop : (n : ℕ) (es : List (List ℕ)) → drop n (map f es) ≡ map f (drop n es)
  map_drop zero es = refl
  map_drop (suc n) [] = refl
  map_drop (suc n) (e ∷ es) = map_drop n es

  module _ (es : List (List ℕ)) (z : List ℕ) where
    size : length (map f es) ≡ length es
    size = length-map es f

    below_part : (p : ℕ) → p ≤ length es → take p (map f es ++ z) ≡ map f (take p es)
    below_part p h = take-append-le p (map f es) z (omega (arith, size)) ∙ map_take p es

    above_part : (p : ℕ) → p ≤ length es → take (length es - p) (drop p (map f es ++ z)) ≡ map f (drop p es)
    above_part p h =
        ap (take (length es - p)) (drop-append-le p (map f es) z (omega (arith, size)) ∙ ap (λ (l : List ℕ). l ++ z) (map_drop p es))
        ∙ take_at (map f (drop p es)) z (length es - p) (length-map (drop p es) f ∙ length-drop p es)

    unused_part : drop (length es) (map f es ++ z) ≡ z
    unused_part = drop_at (map f es) z (length es) size

module _ (j : ℕ) (es : List (List ℕ)) (n p : ℕ) {c : List ℕ} (is : c ≡ column j es) (size : n ≡ length es) where
  abbrev f : List ℕ → ℕ
  f e = at e j

  abbrev z : List ℕ
  z = replicate (most_edges - length es) 0

  below_is : p ≤ n → take p c ≡ map f (take p es)
  below_is h = ap (take p) is ∙ below_part f es z p (omega arith)

  above_is : (q : ℕ) → q ≤ n → take (n - q) (drop q c) ≡ map f (drop q es)
  above_is q h = (λ k. take (size k - q) (drop q (is k))) ∙ above_part f es z q (omega arith)

  unused_is : drop n c ≡ z
  unused_is = (λ k. drop (size k) (is k)) ∙ unused_part f es z

  pub column_more : (e : List ℕ) {v : ℕ} {fs : List (List ℕ)} → v ≡ at e j → p ≤ n → n < most_edges → fs ≡ take p es ++ (e ∷ drop p es)
      → take p c ++ (v ∷ (take (n - p) (drop p c) ++ drop (n + 1) c)) ≡ column j fs
  column_more e {v} {fs} w h s split =
      let long : most_edges - length es ≡ suc (most_edges - length fs) = omega
      (arith, ap length split, length-append (take p es) (e ∷ drop p es), length-take p es, length-drop p es) in
      let rest : drop (n + 1) c ≡ replicate (most_edges - length fs) 0 =
      sym (drop-drop 1 n c) ∙ ap (drop 1) (unused_is ∙ ap (λ (m : ℕ). replicate m 0) long) in
      (λ k. below_is h k ++ (w k ∷ (above_is p h k ++ rest k)))
      ∙ sym (append_assoc (map f (take p es)) (at e j ∷ map f (drop p es)) (replicate (most_edges - length fs) 0))
      ∙ ap (λ (l : List ℕ). l ++ replicate (most_edges - length fs) 0) (sym (ap (map f) split ∙ map-append f (take p es) (e ∷ drop p es)))

  pub column_less : {fs : List (List ℕ)} → p < n → n ≤ most_edges → fs ≡ take p es ++ drop (suc p) es
      → take p c ++ (take (n - (p + 1)) (drop (p + 1) c) ++ (0 ∷ drop n c)) ≡ column j fs
  column_less {fs} h s split =
      let long : suc (most_edges - length es) ≡ most_edges - length fs = omega
      (arith, ap length split, length-append (take p es) (drop (suc p) es), length-take p es, length-drop (suc p) es) in
      let rest : 0 ∷ drop n c ≡ replicate (most_edges - length fs) 0 =
      ap (λ (l : List ℕ). 0 ∷ l) unused_is ∙ ap (λ (m : ℕ). replicate m 0) long in
      (λ k. below_is (omega arith) k ++ (above_is (p + 1) (omega arith) k ++ rest k))
      ∙ (λ k. map f (take p es) ++ (map f (drop (add-one p k) es) ++ replicate (most_edges - length fs) 0))
      ∙ sym (append_assoc (map f (take p es)) (map f (drop (suc p) es)) (replicate (most_edges - length fs) 0))
      ∙ ap (λ (l : List ℕ). l ++ replicate (most_edges - length fs) 0) (sym (ap (map f) split ∙ map-append f (take p es) (drop (suc p) es)))
