-- What a text of territories says: of which edition it was made, a list of edits, each with its
-- place, and the territories after them. This project's profile.
use Rattle.std.specs.Prelude.{◌≡◌, ℕ, ℤ, pos, unsigned_abs, int_lt, List, [], ◌∷◌, ◌++◌, codes}
use Rattle.std.specs.Prelude.{Option, Some, None, option_map, option_and_then, if◌then◌else◌}
use Rattle.std.specs.Prelude.{Result, Ok, Err}
use Rattle.std.specs.Str.{bytes_eq}
use Rattle.toml.specs.Data.{Data, Members, no_members, member, as_integer, get_member}
use Rattle.toml.specs.Parse.{parse_document}
use Rattle.osn_days.specs.Rules.{newest_rules}
use Rattle.osn_register.specs.declared.limits.Limits.{Limits}
use Rattle.osn_register.specs.declared.refusal.Refusal.{Refusal}
use Rattle.osn_register.specs.Lawful.{code_of}
use Rattle.osn_register.specs.Plain.{EntryModel, refusal, effect}
use Rattle.osn_register_text.specs.declared.fault.KeyFault.{KeyFault}
use Rattle.osn_register_text.specs.declared.fault.Reason.TheVariants.{NotEdition, Refused}
use Rattle.osn_register_text.specs.declared.fault.TextFault.{TextFault}
use Rattle.osn_register_text.specs.declared.fault.TextFault.TheVariants as faults
use Rattle.osn_register_text.specs.declared.key.Part.TheVariants as parts
use Rattle.osn_register_text.specs.Field.{◌>>=◌, fault_of, or_fault}
use Rattle.osn_register_text.specs.TerritoryText.{Placed, territory_edits}

-- ---- the edition that it was made of

-- the key of its number, next to the codes of territories, which are of other letters
abbrev pub edition_key : List ℕ
edition_key = codes "edition"

abbrev pub no_edition : KeyFault
no_edition = fault_of (record { code = edition_key; part = parts.Territory }) NotEdition

-- the number of an edition, 0 before the first
abbrev pub edition_number : ℤ → Option ℕ
edition_number number = if int_lt number (pos 0) then None else Some (unsigned_abs number)

abbrev pub edition_in : Option Data → Result (Option ℕ) KeyFault
edition_in None = Ok None
edition_in (Some d) =
    or_fault no_edition (option_and_then edition_number (as_integer d))
    >>= λ edition. Ok (Some edition)

-- the edition that a text was made of, if it names one
abbrev pub text_edition : Members → Result (Option ℕ) KeyFault
text_edition ms = edition_in (get_member edition_key ms)

-- ---- its territories

-- the edits of the value at a key: no edits for the key of the edition
abbrev pub member_edits : List ℕ → Data → Result (List Placed) KeyFault
member_edits code d = if bytes_eq code edition_key then Ok [] else territory_edits code d

-- the edits of a text's territories, in the order of their codes
abbrev pub text_edits : Members → Result (List Placed) KeyFault
text_edits no_members = Ok []
text_edits (member code d ms) = do
  first ← member_edits code d
  rest ← text_edits ms
  Ok (first ++ rest)

-- the territories after an edit, or its refusal at its place
abbrev pub territories_after : Placed → List EntryModel → Option Refusal
    → Result (List EntryModel) KeyFault
territories_after e territories None = Ok (effect territories e.1)
territories_after e territories (Some f) =
    Err (fault_of (record { code = code_of e.1; part = e.0 }) (Refused f))

-- the territories after edits in turn, or the first refusal at its place
abbrev pub territories_after_all : Limits → List EntryModel → List Placed
    → Result (List EntryModel) KeyFault
territories_after_all limits territories [] = Ok territories
territories_after_all limits territories (e ∷ es) =
    territories_after e territories (refusal newest_rules limits territories e.1)
    >>= λ next. territories_after_all limits next es

-- ---- the whole text

-- what a text's table says, or its first fault: that of its edition first, then that of its form,
-- and then what the register refuses
unfoldable pub text_says : Limits → Members → Result (Option ℕ × List EntryModel) KeyFault
text_says limits ms = do
  edition ← text_edition ms
  edits ← text_edits ms
  territories ← territories_after_all limits [] edits
  Ok (edition, territories)

-- what a text says, or its first fault, if it is TOML
abbrev pub text_of_table : Limits → List ℕ → Option (Result (Option ℕ × List EntryModel) KeyFault)
text_of_table limits text = option_map (text_says limits) (parse_document text)

-- why a text doesn't describe territories, unless memory runs out
abbrev pub IsFaultOf : Option (Result (Option ℕ × List EntryModel) KeyFault) → TextFault → Type 0
IsFaultOf said (faults.Toml fault) = said ≡ None
IsFaultOf said (faults.Key fault) = said ≡ Some (Err fault)
IsFaultOf said faults.NoMemory = Unit {0}
