-- What the fields of a row say: the date, the territory and the weekday. This project's profile.
use Rattle.std.specs.Prelude.{ℕ, ◌-◌, Bool, false, not, ◌&&◌, ◌==◌, if◌then◌else◌, List, [], length}
use Rattle.std.specs.Prelude.{take, drop, Option, Some, None, is_none, is_some, ok_or, Result}
use Rattle.std.specs.Prelude.{Ok, Err}
use Rattle.std.specs.Char.{is_ascii_whitespace}
use Rattle.std.specs.List.{prefix_len, suffix_len}
use Rattle.std.specs.Option.{option_and_then}
use Rattle.std.specs.Str.{is_utf8}
use Rattle.osn_days.specs.declared.weekday.Weekday.{Weekday}
use Rattle.osn_grammar.specs.declared.text_reading.DateOrder.{DateOrder}
use Rattle.osn_grammar.specs.declared.text_reading.TextReading.{TextReading}
use Rattle.osn_written.specs.declared.any_date.AnyDate.{AnyDate}
use Rattle.osn_grammar.specs.Reading.{members, read_date}
use Rattle.osn_territory.specs.Territory.{TerritoryModel}
use Rattle.osn_letters.specs.PlaceEntries.{PlaceEntry, code_of}
use Rattle.osn_letters.specs.TerritoryNames.{only_called}
use Rattle.osn_letters.specs.declared.no_place.NoPlace.{NoPlace}
use Rattle.osn_letters.specs.declared.no_place.NoPlace.TheVariants.{Unknown, NotUtf8}
use Rattle.osn_register.specs.Code.{is_code}
use Rattle.osn_register.specs.Plain.{EntryModel, territory_of}
use Rattle.osn_written.specs.declared.written_date.DateFault.{DateFault}
use Rattle.osn_written.specs.declared.written_date.DateFault.TheVariants.{Malformed}
use Rattle.osn_written.specs.WrittenDate.{weekday_named}

-- bytes without the white space of ASCII before them
abbrev pub without_leading : List ℕ → List ℕ
without_leading bytes = drop (prefix_len is_ascii_whitespace bytes) bytes

-- bytes without the white space of ASCII after them
abbrev pub without_trailing : List ℕ → List ℕ
without_trailing bytes = take (length bytes - suffix_len is_ascii_whitespace bytes) bytes

-- bytes without the white space of ASCII around them
abbrev pub trimmed : List ℕ → List ℕ
trimmed bytes = without_trailing (without_leading bytes)

-- the text that a field has without the white space around it, if it is a text
abbrev pub text_in_field : List ℕ → Option (List ℕ)
text_in_field bytes = if is_utf8 (trimmed bytes) then Some (trimmed bytes) else None

-- a field is a text
abbrev pub is_text : List ℕ → Bool
is_text bytes = is_some (text_in_field bytes)

-- what the text of a field says of a date, or why it says nothing of one
abbrev pub date_of_text : DateOrder → Option (List ℕ) → Result TextReading DateFault
date_of_text order None = Err Malformed
date_of_text order (Some text) = read_date order text

abbrev pub date_of_field : DateOrder → List ℕ → Result TextReading DateFault
date_of_field order field = date_of_text order (text_in_field field)

-- the dates of the set that the text of a field is
abbrev pub members_of : Option (List ℕ) → List AnyDate
members_of None = []
members_of (Some text) = members text

abbrev pub members_in : List ℕ → List AnyDate
members_in field = members_of (text_in_field field)

-- the territory of a text, if that is a code, and that of a territory
abbrev pub territory_of_code : List EntryModel → List ℕ → Option TerritoryModel
territory_of_code territories text = if is_code text then territory_of text territories else None

-- the territory of a code of a table of places
abbrev pub territory_listed : List EntryModel → List ℕ → Result TerritoryModel NoPlace
territory_listed territories code = ok_or (territory_of_code territories code) Unknown

-- the territory of a code that is found, or else the only one that is called so
abbrev pub territory_or : Option TerritoryModel → Result TerritoryModel NoPlace
    → Result TerritoryModel NoPlace
territory_or (Some territory) called = Ok territory
territory_or None called = called

abbrev pub territory_of_text : List EntryModel → List ℕ → Result TerritoryModel NoPlace
territory_of_text territories text =
    territory_or (territory_of_code territories text) (only_called text territories)

-- the territory of the code that a table of places has for a text, if it has one, else that of the
-- text
abbrev pub territory_by : List EntryModel → List ℕ → Option (List ℕ)
    → Result TerritoryModel NoPlace
territory_by territories text None = territory_of_text territories text
territory_by territories text (Some code) = territory_listed territories code

-- the territory of the text of a field, if that is a text
abbrev pub territory_of_place : List EntryModel → List PlaceEntry → Option (List ℕ)
    → Result TerritoryModel NoPlace
territory_of_place territories places None = Err NotUtf8
territory_of_place territories places (Some text) =
    territory_by territories text (code_of text places)

-- the territory of a field
abbrev pub territory_in : List EntryModel → List PlaceEntry → List ℕ
    → Result TerritoryModel NoPlace
territory_in territories places place =
    territory_of_place territories places (text_in_field place)

-- the weekday of a field, which may be lacking
abbrev pub weekday_in : Option (List ℕ) → Option Weekday
weekday_in named = option_and_then weekday_named (option_and_then text_in_field named)

-- the field is not empty and is not the name of a weekday
abbrev pub is_malformed_weekday : Option (List ℕ) → Bool
is_malformed_weekday None = false
is_malformed_weekday (Some name) =
    not (length (trimmed name) == 0) && is_none (weekday_in (Some name))
