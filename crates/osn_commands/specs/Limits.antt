-- The limits of the register, as the command line names them: this project's profile.
use Rattle.std.specs.Prelude.{ℕ, ◌==◌, if◌then◌else◌, codes, List, [], ◌∷◌, Option, Some, None}
use Rattle.std.specs.Prelude.{Result, Ok}
use Rattle.std.specs.Option.{ok_or}
use Rattle.std.specs.Str.{bytes_eq}
use Rattle.std.specs.Str.Parse.{digits_value, without_leading_plus}
use Rattle.osn_register.specs.Limits.{standard_limits}
use Rattle.osn_register.specs.declared.limits.Limits.{Limits}
use Rattle.osn_invocation.specs.Invocation.{is_number}
use Rattle.osn_written.specs.WrittenDate.{parts_at}
use Rattle.osn_report.specs.declared.misuse.Misuse.{Misuse}
use Rattle.osn_report.specs.declared.misuse.Misuse.TheVariants as misuses

-- one part after another, if the first one is there
infixl 10 ◌>>=◌
abbrev pub ◌>>=◌ : {A B : Type 0} → Option A → (A → Option B) → Option B
(Some x) >>= f = f x
None >>= f = None

-- the text with a byte in front of its first part
abbrev pub onto_first : ℕ → List (List ℕ) → List (List ℕ)
onto_first b [] = (b ∷ []) ∷ []
onto_first b (part ∷ parts) = (b ∷ part) ∷ parts

-- the settings of a text, which are between its commas: `lands=5000,changes=200`
abbrev pub settings : List ℕ → List (List ℕ)
settings [] = [] ∷ []
settings (b ∷ rest) = if b == 44 then [] ∷ settings rest else onto_first b (settings rest)

-- the number that a text is, below 2 ^ 32, after an optional plus
abbrev pub number_of : List ℕ → Option ℕ
number_of text =
    if is_number (without_leading_plus text) then Some (digits_value 10 (without_leading_plus text))
    else None

-- the limits with the one of this name set
abbrev pub with_limit : Limits → List ℕ → ℕ → Option Limits
with_limit limits name n =
    if bytes_eq name (codes "lands") then Some (record limits { lands = n })
    else (if bytes_eq name (codes "changes") then Some (record limits { changes = n })
    else (if bytes_eq name (codes "exceptions") then Some (record limits { exceptions = n })
    else (if bytes_eq name (codes "edits") then Some (record limits { edits = n })
    else (if bytes_eq name (codes "editions") then Some (record limits { editions = n })
    else None))))

-- the limits with one set, by its name, `=` and a number
abbrev pub with_setting : Limits → List ℕ → Option Limits
with_setting limits text = do
  setting ← parts_at 61 text
  n ← number_of setting.1
  with_limit limits setting.0 n

-- the limits with one after another set: if one is named twice, the last counts
abbrev pub with_settings : Limits → List (List ℕ) → Option Limits
with_settings limits [] = Some limits
with_settings limits (text ∷ texts) = do
  limits ← with_setting limits text
  with_settings limits texts

-- the limits that words ask for: the standard ones, with those set that the words name
abbrev pub limits_of_words : Option (List ℕ) → Result Limits Misuse
limits_of_words None = Ok standard_limits
limits_of_words (Some text) = ok_or (with_settings standard_limits (settings text)) misuses.Limits
