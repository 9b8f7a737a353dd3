-- The words for a text that doesn't describe territories: this project's profile.
use Rattle.std.specs.Prelude.{ℕ, List, ◌++◌, codes}
use Rattle.std.specs.Fmt.{decimal}
use Rattle.osn_days.specs.CalendarWords.{calendar_word}
use Rattle.osn_register.specs.Refusal.{refusal_number, refusal_name}
use Rattle.osn_request.specs.RefusalMessages.{refusal_message}
use Rattle.osn_register_text.specs.declared.key.Key.{Key}
use Rattle.osn_register_text.specs.declared.key.Part.{Part}
use Rattle.osn_register_text.specs.declared.fault.ValueFault.{ValueFault}
use Rattle.osn_register_text.specs.declared.fault.ValueFault.TheVariants as values
use Rattle.osn_register_text.specs.declared.fault.Reason.{Reason}
use Rattle.osn_register_text.specs.declared.fault.Reason.TheVariants as reasons
use Rattle.osn_register_text.specs.declared.fault.KeyFault.{KeyFault}
use Rattle.osn_register_text.specs.declared.fault.TomlFault.{TomlFault}
use Rattle.osn_register_text.specs.declared.fault.TextFault.{TextFault}
use Rattle.osn_register_text.specs.declared.fault.TextFault.TheVariants as faults
use Rattle.osn_register_text.specs.Key.{allowed_at, key_name, keys_text, part_text}
use Rattle.osn_lines.specs.Escape.{escaped_text}

-- what is wrong with the value at a key
abbrev pub value_text : Key → ValueFault → List ℕ
value_text key values.Missing = codes "missing: " ++ allowed_at key
value_text key values.Form = allowed_at key
value_text key (values.UnknownDayKey name) = allowed_at key
value_text key (values.UnknownWord word) =
    codes "\""
    ++ (escaped_text word
    ++ (codes "\" is not a " ++ (key_name key ++ (codes ": " ++ allowed_at key))))
value_text key values.Unquoted = codes
    "put the date in quotes, such as { gregorian = \"1752-09-14\" }"
value_text key (values.NoSuchDate calendar) =
    codes "no such day in the " ++ (calendar_word calendar ++ codes " calendar")

-- the path to what is wrong in a table, and what is wrong
abbrev pub reason_text : Part → Reason → List ℕ
reason_text part reasons.NotTable = codes ": write a table"
reason_text part (reasons.UnknownKey name) =
    codes "." ++ (escaped_text name ++ (codes ": unknown key: " ++ keys_text part))
reason_text part (reasons.Value key fault) =
    codes "." ++ (key_name key ++ (codes ": " ++ value_text key fault))
reason_text part reasons.NotEdition =
    codes ": write the number of the edition that the text was made from, such as 3"
reason_text part reasons.NotLater = codes ": not later than the change before it"
reason_text part (reasons.Refused refusal) =
    codes ": " ++ (decimal (refusal_number refusal)
    ++ (codes " " ++ (refusal_name refusal ++ (codes ": " ++ refusal_message refusal))))

-- the path to what is wrong in a text, and what is wrong
abbrev pub key_fault_text : KeyFault → List ℕ
key_fault_text f = escaped_text f.code ++ (part_text f.part ++ reason_text f.part f.reason)

abbrev pub toml_fault_text : TomlFault → List ℕ
toml_fault_text f =
    codes "line " ++ (decimal f.line
    ++ (codes ", column " ++ (decimal f.column ++ (codes ": " ++ f.message))))

abbrev pub text_fault_text : TextFault → List ℕ
text_fault_text (faults.Toml fault) = toml_fault_text fault
text_fault_text (faults.Key fault) = key_fault_text fault
text_fault_text faults.NoMemory = codes "memory ran out"
