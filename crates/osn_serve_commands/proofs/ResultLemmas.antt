-- What a `?` returns, and facts of bytes that may be known.
use Rattle.std.proofs.Common.{◌≡◌, ℕ, List, Option, Some, None, Result, IfErr, IfSome}
use Rattle.std.proofs.Common.{refl, subst, sym}
use Rattle.std.specs.Result.{IsErrAnd}
use Rattle.std.proofs.lemmas.Result.{err_from_is_err_and}

-- what a `?` returns, if the error that it makes has the property
pub if_err_made : {T E : Type 0} {P Q : E → Type 0} (r : Result T E)
    → IsErrAnd r Q → ((e : E) → Q e → P e) → IfErr r P
if_err_made {P = P} r made goes =
    let err = err_from_is_err_and r made in
    subst (λ s. IfErr s P) (sym err.1) (goes err.0 err.2)

-- a fact of bytes that are known
pub known_bytes : (bytes : Option (List ℕ)) (content : List ℕ) (P : List ℕ → Type 0)
    → bytes ≡ Some content → IfSome bytes P → P content
known_bytes bytes content P known h = subst (λ (x : Option (List ℕ)). IfSome x P) known h

-- a fact of bytes that may be known, of any
pub any_bytes : (bytes : Option (List ℕ)) (P : List ℕ → Type 0)
    → ((content : List ℕ) → bytes ≡ Some content → P content) → IfSome bytes P
any_bytes None P h = tt
any_bytes (Some content) P h = h content refl
