-- The object that was read of a line, or its fault.
use Rattle.std.specs.Prelude.{◌≡◌, ◌⊎◌, ℕ, List, Result, Ok, Err, MatchResult, is_ok, true}
use Rattle.osn_request.specs.Version.{newest_version}
use Rattle.osn_request.specs.declared.request.line_object.LineObject.{LineObject}
use Rattle.osn_request.specs.declared.request.RequestError.{RequestError}
use Rattle.osn_request.specs.LineObject.{line_data}
use Rattle.osn_request.specs.declared.request.RequestError.TheVariants.{NoMemory}
use Rattle.osn_request.specs.Request.{object_of, request, Fails}

-- the line's object, or its fault
abbrev pub IsReadOf : List ℕ → Result LineObject RequestError → Type 0
IsReadOf whole read = MatchResult read
    (λ o. object_of whole ≡ Ok (line_data o)) (λ e. Fails e (object_of whole))

-- memory ran out while the line was read, or the line has a request
abbrev pub WantsMemory : ℕ → List ℕ → Result LineObject RequestError → Type 0
WantsMemory readers whole read =
    (read ≡ Err NoMemory) ⊎ (is_ok (request newest_version readers whole) ≡ true)
