-- Laws of writing: lengths; a written line reads back as the octets written; and a line that is accepted is the one its octets write.
use Rattle.std.specs.Prelude.{◌≡◌, ℕ, zero, suc, ◌+◌, ◌-◌, ◌*◌, ◌/◌, ◌%◌, ◌<◌, ◌≤◌, Bool, true, false, cond, ◌⊎◌, List, [], ◌∷◌, ◌++◌, length, take, ◌==◌, refl}
use Rattle.std.proofs.Math.Path.{sym}
use Rattle.std.proofs.Common.{◌∙◌, ap, subst, inl, inr, ⊎_elim, length-append, length-take-le, lt-ltb, le-ltb, ne_eqb, eqb-true}
use Rattle.std.proofs.lemmas.Bool.{false≢true}
use native.Mathlib.Omega.{arith}
use Rattle.std.proofs.Math.Decide.{dec_lt}
use Rattle.common.specs.Lists.{at}
use Rattle.octets.specs.Line.{digit_value, octet, octets_of, total, line_of, rest_of, ended, octets, frame, kind_octet, body_of}
use Rattle.octets.specs.Line.{digit, digits, check, framed, line_bytes}
use Rattle.octets.proofs.LineLaws.{value_number, value_letter, digit_is, not_end, Pairs, accepted, accept}

-- ---- lengths and sums

pub length_digits : (os : List ℕ) → length (digits os) ≡ 2 * length os
length_digits [] = refl
length_digits (o ∷ os) = let h = length_digits os in omega arith

pub length_framed : (kind : ℕ) (body : List ℕ) → length (framed kind body) ≡ length body + 3
unfolding framed
length_framed kind body = omega (arith, length-append body (check (total (length body ∷ kind ∷ body)) ∷ []))

pub length_line : (kind : ℕ) (body : List ℕ) → length (line_bytes (framed kind body)) ≡ 2 * length body + 7
length_line kind body =
    omega (arith, length-append (digits (framed kind body)) (0x0A ∷ []), length_digits (framed kind body), length_framed kind body)

pub total_append : (os ps : List ℕ) → total (os ++ ps) ≡ total os + total ps
total_append [] ps = omega arith
total_append (o ∷ os) ps = let h = total_append os ps in omega arith

-- ---- digits and values

-- what is below 10, or not
split : (d : ℕ) → Dec (d < 10) → ((d < 10) × (digit d ≡ 48 + d)) ⊎ ((10 ≤ d) × (digit d ≡ 55 + d))
split d (yes l) = inl (l, rw (lt-ltb d 10 l))
split d (no h) = let l : 10 ≤ d = omega arith in inr (l, rw (le-ltb d 10 l))

pub value_digit : (d : ℕ) → d < 16 → digit_value (digit d) ≡ d
value_digit d l =
    ⊎_elim
    (λ p. ap digit_value p.1 ∙ value_number (48 + d) (omega arith) (omega arith) ∙ (let e : 48 + d - 48 ≡ d = omega arith in e))
    (λ p. ap digit_value p.1 ∙ value_letter (55 + d) (omega arith) (omega arith) ∙ (let e : 55 + d - 55 ≡ d = omega arith in e))
    (split d (dec_lt d 10))

pub digit_value_lem : (c : ℕ) → digit_value c < 16 → digit (digit_value c) ≡ c
digit_value_lem c l =
    let s = split (digit_value c) (dec_lt (digit_value c) 10) in
    ⊎_elim
    (λ p. ⊎_elim (λ q. q.1 ∙ (let e : 48 + digit_value c ≡ c = omega arith in e)) (λ q. absurd (omega arith)) s)
    (λ p. ⊎_elim (λ q. absurd (omega arith)) (λ q. q.1 ∙ (let e : 55 + digit_value c ≡ c = omega arith in e)) s)
    (digit_is c l)

-- ---- a written line reads back

-- every number is an octet
abbrev pub Octets : List ℕ → Type 0
Octets [] = Unit {0}
Octets (o ∷ os) = (o < 256) × Octets os

pub octets_append : (os ps : List ℕ) → Octets os → Octets ps → Octets (os ++ ps)
octets_append [] ps p q = q
octets_append (o ∷ os) ps p q = (p.0, octets_append os ps p.1 q)

pub octets_take : (n : ℕ) (os : List ℕ) → Octets os → Octets (take n os)
octets_take zero os p = tt
octets_take (suc n) [] p = tt
octets_take (suc n) (o ∷ os) p = (p.0, octets_take n os p.1)

high : (o : ℕ) → o < 256 → digit_value (digit (o / 16)) ≡ o / 16
high o l = value_digit (o / 16) (omega arith)

low : (o : ℕ) → digit_value (digit (o % 16)) ≡ o % 16
low o = value_digit (o % 16) (omega arith)

pairs_digits : (os : List ℕ) → Octets os → Pairs (digits os)
pairs_digits [] p = tt
pairs_digits (o ∷ os) p = (
  let h = high o p.0 in let l = p.0 in omega arith,
  let h = low o in omega arith,
  pairs_digits os p.1,
)

octets_digits : (os : List ℕ) → Octets os → octets_of (digits os) ≡ os
octets_digits [] p = refl
octets_digits (o ∷ os) p =
    let e : octet (digit (o / 16)) (digit (o % 16)) ≡ o = let h = high o p.0 in let k = low o in omega arith in
    (λ i. e i ∷ octets_digits os p.1 i)

-- pairs of digits, then the end: that is the first line, and the rest follows it
abbrev Split : List ℕ → List ℕ → List ℕ → Type 0
Split t l r = (line_of t ≡ l) × (rest_of t ≡ r) × (ended t ≡ true)

one_more : (a : ℕ) (t l r : List ℕ) → digit_value a < 16 → Split t l r → Split (a ∷ t) (a ∷ l) r
one_more a t l r h s =
    let n = ne_eqb a 0x0A (not_end a h) in
    (rw n (ap (λ (m : List ℕ). a ∷ m) s.0), rw n s.1, rw n s.2)

line_splits : (l t : List ℕ) → Pairs l → Split (l ++ (0x0A ∷ t)) l t
line_splits [] t p = (refl, refl, refl)
line_splits (a ∷ []) t p = absurd p
line_splits (a ∷ b ∷ l) t p =
    one_more a (b ∷ (l ++ (0x0A ∷ t))) (b ∷ l) t p.0 (one_more b (l ++ (0x0A ∷ t)) l t p.1 (line_splits l t p.2))

module _ (kind : ℕ) (body : List ℕ) where
  framed_adds : total (framed kind body) % 256 ≡ 0
  unfolding framed
  framed_adds =
      let h = total_append (length body ∷ kind ∷ body) (check (total (length body ∷ kind ∷ body)) ∷ []) in
      let m = total (length body ∷ kind ∷ body) in
      rw h (sums m)
    where
      sums : (m : ℕ) → (m + (check m + 0)) % 256 ≡ 0
      sums m = omega arith

  pub framed_octets : kind < 256 → length body ≤ 255 → Octets body → Octets (framed kind body)
  unfolding framed
  framed_octets k l p =
      (omega arith, (k, octets_append body (check (total (length body ∷ kind ∷ body)) ∷ []) p (omega arith, tt)))

  framed_long : at (framed kind body) 0 + 3 ≡ length (framed kind body)
  unfolding framed
  framed_long = sym (length_framed kind body)

  -- THE LAW: a written line, whatever follows it, reads back as the octets written
  pub reads_back : (t : List ℕ) → kind < 256 → length body ≤ 255 → Octets body
      → frame (digits (framed kind body) ++ (0x0A ∷ t)) ≡ octets (framed kind body)
  reads_back t k l p =
      let os = framed kind body in
      let q = framed_octets k l p in
      let s = line_splits (digits os) t (pairs_digits os q) in
      accept
      (record {
        end = s.2;
        are = subst Pairs (sym s.0) (pairs_digits os q);
        read = ap octets_of s.0 ∙ octets_digits os q;
        long = framed_long;
        adds = framed_adds;
      })

  -- and what follows it is the rest
  pub rest_follows : (t : List ℕ) → kind < 256 → length body ≤ 255 → Octets body → rest_of (digits (framed kind body) ++ (0x0A ∷ t)) ≡ t
  rest_follows t k l p = (line_splits (digits (framed kind body)) t (pairs_digits (framed kind body) (framed_octets k l p))).1

-- ---- an accepted line is the one that its octets write

line_rest : (t : List ℕ) → ended t ≡ true → t ≡ line_of t ++ (0x0A ∷ rest_of t)
line_rest [] e = absurd (false≢true e)
line_rest (b ∷ t) e₀ = go (b == 0x0A) refl (line_rest t) e₀
  where
    go : (x : Bool) → (b == 0x0A) ≡ x → (ended t ≡ true → t ≡ line_of t ++ (0x0A ∷ rest_of t)) → cond x true (ended t) ≡ true
        → b ∷ t ≡ cond x [] (b ∷ line_of t) ++ (0x0A ∷ cond x t (rest_of t))
    go true q ih e = ap (λ (c : ℕ). c ∷ t) (eqb-true _ _ q)
    go false q ih e = ap (λ (m : List ℕ). b ∷ m) (ih e)

digits_octets : (l : List ℕ) → Pairs l → digits (octets_of l) ≡ l
digits_octets [] p = refl
digits_octets (a ∷ []) p = absurd p
digits_octets (a ∷ b ∷ l) p =
    let e : octet a b / 16 ≡ digit_value a = let h = p.0 in let k = p.1 in omega arith in
    let f : octet a b % 16 ≡ digit_value b = let h = p.0 in let k = p.1 in omega arith in
    (λ i. (ap digit e ∙ digit_value_lem a p.0) i ∷ (ap digit f ∙ digit_value_lem b p.1) i ∷ digits_octets l p.2 i)

-- the bytes of an accepted line are its octets' digits
pub written_again : (t : List ℕ) {os : List ℕ} → frame t ≡ octets os → t ≡ digits os ++ (0x0A ∷ rest_of t)
written_again t {os} e =
    let a = accepted e in
    line_rest t a.end ∙ ap (λ (l : List ℕ). l ++ (0x0A ∷ rest_of t)) (sym (digits_octets (line_of t) a.are) ∙ ap digits a.read)

pub octets_of_pairs : (l : List ℕ) → Pairs l → Octets (octets_of l)
octets_of_pairs [] p = tt
octets_of_pairs (a ∷ []) p = absurd p
octets_of_pairs (a ∷ b ∷ l) p = (let h = p.0 in let k = p.1 in omega arith, octets_of_pairs l p.2)

-- n octets and one more, by the last one
pub last_of : (n : ℕ) (l : List ℕ) → length l ≡ n + 1 → l ≡ take n l ++ (at l n ∷ [])
last_of zero [] e = absurd (omega arith)
last_of zero (x ∷ []) e = refl
last_of zero (x ∷ y ∷ l) e = absurd (omega arith)
last_of (suc n) [] e = absurd (omega arith)
last_of (suc n) (x ∷ l) e = ap (λ (m : List ℕ). x ∷ m) (last_of n l (omega arith))

pub octet_at_index : (l : List ℕ) (n : ℕ) → Octets l → at l n < 256
octet_at_index [] n p = omega arith
octet_at_index (o ∷ l) zero p = p.0
octet_at_index (o ∷ l) (suc n) p = octet_at_index l n p.1

-- the octets of an accepted line are those framed from its kind and body
pub framed_again : (os : List ℕ) → Octets os → at os 0 + 3 ≡ length os → total os % 256 ≡ 0 → os ≡ framed (kind_octet os) (body_of os)
unfolding framed
framed_again [] p e s = absurd (omega arith)
framed_again (n ∷ []) p e s = absurd (omega arith)
framed_again (n ∷ kind ∷ l) p e s =
    let size : length l ≡ n + 1 = omega arith in
    let m : length (n ∷ kind ∷ l) - 3 ≡ n = omega arith in
    let body : body_of (n ∷ kind ∷ l) ≡ take n l = ap (λ (k : ℕ). take k l) m in
    let long : length (body_of (n ∷ kind ∷ l)) ≡ n = ap length body ∙ length-take-le n l (omega arith) in
    let whole : l ≡ body_of (n ∷ kind ∷ l) ++ (at l n ∷ []) = last_of n l size ∙ ap (λ (b : List ℕ). b ++ (at l n ∷ [])) (sym body) in
    let sum : total l ≡ total (body_of (n ∷ kind ∷ l)) + (at l n + 0) =
    ap total whole ∙ total_append (body_of (n ∷ kind ∷ l)) (at l n ∷ []) in
    let zero-sum : (n + (kind + total l)) % 256 ≡ 0 = s in
    let last : at l n ≡ check (total (length (body_of (n ∷ kind ∷ l)) ∷ kind ∷ body_of (n ∷ kind ∷ l))) =
    checks n kind (total (body_of (n ∷ kind ∷ l))) (at l n) (octet_at_index l n p.1.1) (omega arith)
    ∙ ap (λ (k : ℕ). check (k + (kind + total (body_of (n ∷ kind ∷ l))))) (sym long) in
    (λ i. sym long i ∷ kind ∷ (whole ∙ ap (λ (o : ℕ). body_of (n ∷ kind ∷ l) ++ (o ∷ [])) last) i)
  where
    checks : (n kind b o : ℕ) → o < 256 → (n + (kind + (b + (o + 0)))) % 256 ≡ 0 → o ≡ check (n + (kind + b))
    checks n kind b o l e = omega arith
