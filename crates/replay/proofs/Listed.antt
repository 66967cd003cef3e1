-- The octets of a list of calls, eight by eight.
use Prim.Native.Nat.{ℕ, zero, suc, ◌+◌, ◌*◌, ◌<◌}
use Rattle.std.specs.Prelude.{◌≡◌, List, [], ◌∷◌}
use Rattle.std.specs.Simd.{first_chunks}
use Rattle.std.proofs.Common.{◌∙◌, ap, arith, take, drop, get_or}
use Rattle.std.proofs.lemmas.List.{get_or-take, get_or-drop, drop-drop}
use Rattle.octets.specs.Number.{number}
use Rattle.common.specs.Lists.{at}
use Rattle.replay.specs.Replay.{call_octets, call_fields, listed_call_of, listed_call_at}

-- calls with the same octets are the same
pub same_octets : (f g : ℕ → ℕ) → ((d : ℕ) → d < call_octets → f d ≡ g d)
    → listed_call_of (call_fields f) ≡ listed_call_of (call_fields g)
same_octets f g e =
    λ j. listed_call_of
    (record {
      kind = e 0 (omega arith) j;
      first = e 1 (omega arith) j;
      second = e 2 (omega arith) j;
      third = e 3 (omega arith) j;
      set = number (e 4 (omega arith) j ∷ e 5 (omega arith) j ∷ e 6 (omega arith) j ∷ e 7 (omega arith) j ∷ []);
    })

chunk_at : (n k i : ℕ) (xs : List ℕ) → i < k → get_or (first_chunks n k xs) i [] ≡ take n (drop (n * i) xs)
chunk_at n zero i xs l = absurd (omega arith)
chunk_at n (suc k) zero xs l = let z : 0 ≡ n * 0 = omega arith in ap (λ (m : ℕ). take n (drop m xs)) z
chunk_at n (suc k) (suc i) xs l =
    let e : n + n * i ≡ n * suc i = omega arith in
    chunk_at n k i (drop n xs) (omega arith) ∙ ap (take n) (drop-drop (n * i) n xs) ∙ ap (λ (m : ℕ). take n (drop m xs)) e

-- of the first m calls of the octets, call i
pub listed_at : (calls : List ℕ) {listed : List (List ℕ)} (k m i : ℕ) → listed ≡ first_chunks call_octets k calls → i < m → i < k
    → listed_call_of (call_fields (at (get_or (take m listed) i []))) ≡ listed_call_at calls i
listed_at calls {listed} k m i e l h =
    ap (λ (os : List ℕ). listed_call_of (call_fields (at os)))
    (get_or-take m listed i [] l ∙ ap (λ (os : List (List ℕ)). get_or os i []) e ∙ chunk_at call_octets k i calls h)
    ∙ same_octets (at (take call_octets (drop (call_octets * i) calls))) (λ d. at calls (call_octets * i + d))
    (λ d h. get_or-take call_octets (drop (call_octets * i) calls) d 0 h ∙ get_or-drop (call_octets * i) calls d 0)
