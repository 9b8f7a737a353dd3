-- What may be meant by a fault of a text of territories, or what to do about it, in a line below
-- it: this project's profile.
use Rattle.std.specs.Prelude.{ℕ, if◌then◌else◌, List, [], ◌∷◌, ◌++◌, map, codes}
use Rattle.std.specs.Prelude.{Option, Some, None}
use Rattle.osn_lines.specs.Escape.{escaped_text}
use Rattle.osn_register_text.specs.declared.key.Key.{Key}
use Rattle.osn_register_text.specs.declared.key.Key.TheVariants as keys
use Rattle.osn_register_text.specs.declared.key.Part.{Part}
use Rattle.osn_register_text.specs.declared.key.Part.TheVariants as parts
use Rattle.osn_register_text.specs.declared.fault.KeyFault.{KeyFault}
use Rattle.osn_register_text.specs.declared.fault.Reason.{Reason}
use Rattle.osn_register_text.specs.declared.fault.Reason.TheVariants as reasons
use Rattle.osn_register_text.specs.declared.fault.TextFault.{TextFault}
use Rattle.osn_register_text.specs.declared.fault.TextFault.TheVariants as faults
use Rattle.osn_register_text.specs.declared.fault.ValueFault.{ValueFault}
use Rattle.osn_register_text.specs.declared.fault.ValueFault.TheVariants as values
use Rattle.osn_register_text.specs.Key.{is_key_of, key_name, keys_of}
use Rattle.osn_register_text.specs.Nearest.{nearest_of}

-- ---- what may be meant

-- the names of the keys that a table may have
abbrev pub key_names : Part → List (List ℕ)
key_names part = map key_name (keys_of part)

-- the keys by which a day may be
abbrev pub day_keys : List (List ℕ)
day_keys = codes "gregorian" ∷ codes "julian" ∷ codes "swedish" ∷ codes "day" ∷ []

-- the words that a key allows
abbrev pub calendar_words : List (List ℕ)
calendar_words = codes "julian" ∷ codes "gregorian" ∷ codes "swedish" ∷ []

abbrev pub style_words : List (List ℕ)
style_words =
    codes "january" ∷ codes "annunciation" ∷ codes "nativity" ∷ codes "september" ∷ codes "pisan"
    ∷ codes "easter" ∷ []

abbrev pub rule_words : List (List ℕ)
rule_words = codes "julian" ∷ codes "gregorian" ∷ []

-- help: calender: did you mean calendar?
abbrev pub meant_line : List ℕ → List ℕ → List ℕ
meant_line word name =
    codes "help: " ++ (escaped_text word ++ (codes ": did you mean " ++ (name ++ codes "?\n")))

abbrev pub if_meant : List ℕ → Option (List ℕ) → List ℕ
if_meant word None = []
if_meant word (Some name) = meant_line word name

-- the line on a word that is not one of these names, if one of them is near
abbrev pub word_help : List (List ℕ) → List ℕ → List ℕ
word_help names word = if_meant word (nearest_of names word)

abbrev pub day_line : List ℕ → Option (List ℕ) → List ℕ
day_line word None = codes "help: "
    ++ (escaped_text word ++ codes ": a day has one key: gregorian, julian, swedish or day\n")
day_line word (Some name) = meant_line word name

-- the line on a key that no day has: the nearest key, or else all of them
abbrev pub day_help : List ℕ → List ℕ
day_help word = day_line word (nearest_of day_keys word)

-- the line on a word that is not one of a key's words, if one of them is near
abbrev pub value_words_help : Key → List ℕ → List ℕ
value_words_help keys.Calendar word = word_help calendar_words word
value_words_help keys.Style word = word_help style_words word
value_words_help keys.Rule word = word_help rule_words word
value_words_help key word = []

-- ---- what to do

-- the line on what is not a table, in the place of a territory
abbrev pub key_line : List ℕ → List ℕ
key_line code = codes "help: "
    ++ (code
    ++ codes " is a key of a territory: write it below the line of a code, such as [GB]\n")

abbrev pub table_line : List ℕ → List ℕ
table_line code = codes "help: "
    ++ (escaped_text code
    ++ codes ": write each territory as a table: [GB], for example, and its keys below\n")

abbrev pub territory_help : List ℕ → List ℕ
territory_help code =
    if is_key_of parts.Territory code then key_line code else table_line code

-- the line on what is not a list, or not a row of one
abbrev pub changes_help : List ℕ → List ℕ
changes_help code = codes "help: write [["
    ++ (escaped_text code ++ codes ".changes]] above the keys of each change\n")

abbrev pub easters_help : List ℕ → List ℕ
easters_help code = codes "help: write [["
    ++ (escaped_text code ++ codes ".easters]] above the keys of each listed Easter\n")

abbrev pub table_help : List ℕ → Part → List ℕ
table_help code parts.Territory = territory_help code
table_help code (parts.Change n) = changes_help code
table_help code (parts.Easter n) = easters_help code

abbrev pub form_help : List ℕ → Key → List ℕ
form_help code keys.Changes = changes_help code
form_help code keys.Easters = easters_help code
form_help code key = []

-- ---- all faults

abbrev pub value_help : List ℕ → Key → ValueFault → List ℕ
value_help code key values.Form = form_help code key
value_help code key (values.UnknownWord word) = value_words_help key word
value_help code key (values.UnknownDayKey name) = day_help name
value_help code key fault = []

abbrev pub reason_help : List ℕ → Part → Reason → List ℕ
reason_help code part reasons.NotTable = table_help code part
reason_help code part (reasons.UnknownKey name) = word_help (key_names part) name
reason_help code part (reasons.Value key fault) = value_help code key fault
reason_help code part reason = []

abbrev pub key_fault_help : KeyFault → List ℕ
key_fault_help f = reason_help f.code f.part f.reason

-- the line below a fault, if there is one
abbrev pub fault_help : TextFault → List ℕ
fault_help (faults.Key fault) = key_fault_help fault
fault_help fault = []
