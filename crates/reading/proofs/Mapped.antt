-- What `map_err` answers, by what it was asked of.
use Rattle.std.specs.Prelude.{◌≡◌, refl, Result, Ok, Err, MatchResult, IsErrAnd}
use Rattle.std.proofs.lemmas.Result.{err_from_is_err_and}

module _ {T E U : Type 0} (Q : E → U → Type 0) where
  pub mapped_ok : (r : Result T E) {s : Result T U} → MatchResult r (λ x. s ≡ Ok x) (λ e. IsErrAnd s (Q e)) → {x : T} → s ≡ Ok x → r ≡ Ok x
  mapped_ok (Ok y) m h = cc
  mapped_ok (Err e) {s} m h = let p = err_from_is_err_and s m in cc

  pub mapped_err : (r : Result T E) {s : Result T U} → MatchResult r (λ x. s ≡ Ok x) (λ e. IsErrAnd s (Q e)) → {u : U} → s ≡ Err u
      → (e : E) × (r ≡ Err e) × Q e u
  mapped_err (Ok y) m {u} h = absurd (cc)
  mapped_err (Err e) {s} m {u} h =
      let p = err_from_is_err_and s m in
      let same : p.0 ≡ u = cc in
      (e, refl, rw same at p.2)
