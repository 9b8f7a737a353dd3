-- The tables of a text, which keys each may have, and what a key requires: this project's profile.
use Rattle.std.specs.Prelude.{ℕ, Bool, List, [], ◌∷◌, ◌++◌, codes}
use Rattle.std.specs.Fmt.{decimal}
use Rattle.std.specs.List.{list_any}
use Rattle.std.specs.Str.{bytes_eq}
use Rattle.osn_register_text.specs.declared.key.Key.{Key}
use Rattle.osn_register_text.specs.declared.key.Key.TheVariants.{Name, Calendar, Style, Rule}
use Rattle.osn_register_text.specs.declared.key.Key.TheVariants.{Source}
use Rattle.osn_register_text.specs.declared.key.Key.TheVariants.{Note, Changes, Easters, From, Year}
use Rattle.osn_register_text.specs.declared.key.Key.TheVariants.{Date}
use Rattle.osn_register_text.specs.declared.key.Part.{Part}
use Rattle.osn_register_text.specs.declared.key.Part.TheVariants.{Territory, Change, Easter}

abbrev pub key_name : Key → List ℕ
key_name Name = codes "name"
key_name Calendar = codes "calendar"
key_name Style = codes "style"
key_name Rule = codes "rule"
key_name Source = codes "source"
key_name Note = codes "note"
key_name Changes = codes "changes"
key_name Easters = codes "easters"
key_name From = codes "from"
key_name Year = codes "year"
key_name Date = codes "date"

-- the keys that a table may have
abbrev pub keys_of : Part → List Key
keys_of Territory = Name ∷ Calendar ∷ Style ∷ Rule ∷ Source ∷ Note ∷ Changes ∷ Easters ∷ []
keys_of (Change n) = From ∷ Calendar ∷ Style ∷ Rule ∷ Source ∷ Note ∷ []
keys_of (Easter n) = Year ∷ Date ∷ Source ∷ Note ∷ []

-- the table may have a key of this name
abbrev pub is_key_of : Part → List ℕ → Bool
is_key_of part name = list_any (λ key. bytes_eq name (key_name key)) (keys_of part)

-- ---- in words

-- how a day is written
abbrev pub allowed_day : List ℕ
allowed_day =
    codes "write { gregorian = \"1752-09-14\" }, with julian or swedish in its place, "
    ++ codes "or { day = 639797 }"

-- what is written at a key
abbrev pub allowed_at : Key → List ℕ
allowed_at Name = codes "write a text"
allowed_at Calendar = codes "write julian, gregorian or swedish"
allowed_at Style = codes "write january, annunciation, nativity, september, pisan or easter"
allowed_at Rule = codes "write julian or gregorian"
allowed_at Source = codes "write a text of 1 to 1,000 bytes, with no control character"
allowed_at Note = codes "write a text"
allowed_at Changes = codes "write a list of tables"
allowed_at Easters = codes "write a list of tables"
allowed_at From = allowed_day
allowed_at Year = codes "write a whole number"
allowed_at Date = allowed_day

-- which keys a table may have
abbrev pub keys_text : Part → List ℕ
keys_text Territory =
    codes "a territory has name, calendar, style, rule, source, note, changes and easters"
keys_text (Change n) = codes "a change has from, calendar, style, rule, source and note"
keys_text (Easter n) = codes "a listed Easter has year, date, source and note"

-- the path from a territory to a table of it
abbrev pub part_text : Part → List ℕ
part_text Territory = []
part_text (Change n) = codes ".changes." ++ decimal n
part_text (Easter n) = codes ".easters." ++ decimal n
