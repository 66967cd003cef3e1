-- Laws of `Number`: a number below 256^n is what its n octets say, and n octets are those of the number they say.
use Rattle.std.specs.Prelude.{◌≡◌, ℕ, zero, suc, ◌+◌, ◌*◌, ◌/◌, ◌%◌, ◌^◌, ◌<◌, List, [], ◌∷◌, ◌++◌, length, take, refl}
use Rattle.std.proofs.Common.{sym, ◌∙◌, ap, subst, arith, pow-suc, length-append, length-take-le}
use Rattle.common.specs.Lists.{at}
use Rattle.octets.specs.Number.{number_from, number, in_octets}
use Rattle.octets.proofs.WritingLaws.{Octets, octets_append, octets_take, last_of, octet_at_index}

-- one octet more, at the low end
pub number_last : (v : ℕ) (os : List ℕ) (o : ℕ) → number_from v (os ++ (o ∷ [])) ≡ number_from v os * 256 + o
number_last v [] o = refl
number_last v (x ∷ os) o = number_last (v * 256 + x) os o

pub length_in_octets : (n v : ℕ) → length (in_octets n v) ≡ n
length_in_octets zero v = refl
length_in_octets (suc n) v = let h = length_in_octets n (v / 256) in omega (arith, length-append (in_octets n (v / 256)) (v % 256 ∷ []))

pub octets_in_octets : (n v : ℕ) → Octets (in_octets n v)
octets_in_octets zero v = tt
octets_in_octets (suc n) v = octets_append (in_octets n (v / 256)) (v % 256 ∷ []) (octets_in_octets n (v / 256)) (omega arith, tt)

pub number_in_octets : (n v : ℕ) → v < 256 ^ n → number (in_octets n v) ≡ v
number_in_octets zero v l = let h : v < 1 = l in omega arith
number_in_octets (suc n) v l =
    let b : v < 256 ^ n * 256 = subst (λ (m : ℕ). v < m) (pow-suc 256 n) l in
    let h = number_in_octets n (v / 256) (omega arith) in
    number_last 0 (in_octets n (v / 256)) (v % 256) ∙ (let e : number (in_octets n (v / 256)) * 256 + v % 256 ≡ v = omega arith in e)

pub in_octets_number : (n : ℕ) (os : List ℕ) → length os ≡ n → Octets os → in_octets n (number os) ≡ os
in_octets_number zero [] e p = refl
in_octets_number zero (o ∷ os) e p = absurd (omega arith)
in_octets_number (suc n) os e p =
    let w = last_of n os (omega arith) in
    let v : number os ≡ number (take n os) * 256 + at os n = ap number w ∙ number_last 0 (take n os) (at os n) in
    let l = octet_at_index os n p in
    let high : number os / 256 ≡ number (take n os) = omega arith in
    let low : number os % 256 ≡ at os n = omega arith in
    (λ i. in_octets n (high i) ++ (low i ∷ []))
    ∙ ap (λ (m : List ℕ). m ++ (at os n ∷ [])) (in_octets_number n (take n os) (length-take-le n os (omega arith)) (octets_take n os p))
    ∙ sym w

-- n octets say a number below 256^n
pub number_below : (n : ℕ) (os : List ℕ) → length os ≡ n → Octets os → number os < 256 ^ n
number_below zero [] e p = omega arith
number_below zero (o ∷ os) e p = absurd (omega arith)
number_below (suc n) os e p =
    let h = number_below n (take n os) (length-take-le n os (omega arith)) (octets_take n os p) in
    let v : number os ≡ number (take n os) * 256 + at os n = ap number (last_of n os (omega arith)) ∙ number_last 0 (take n os) (at os n) in
    let l = octet_at_index os n p in
    let b : number os < 256 ^ n * 256 = omega arith in
    subst (λ (m : ℕ). number os < m) (sym (pow-suc 256 n)) b
