-- The day that a number of the command line says. This project's profile.
use Rattle.std.specs.Prelude.{ℕ, pos, ◌-◌, nat_lt, Bool, if◌then◌else◌, codes, List}
use Rattle.std.specs.Prelude.{Option, Some, None, option_map, Result, Ok, Err}
use Rattle.std.specs.Str.{str_eq_ignore_ascii_case}
use Rattle.osn_days.specs.Rules.{newest_rules}
use Rattle.osn_register.specs.Plain.{is_off_line}
use Rattle.osn_written.specs.WrittenDate.{number_of, parts_at}
use Rattle.osn_report.specs.declared.misuse.Misuse.{Misuse}
use Rattle.osn_report.specs.declared.misuse.Misuse.TheVariants as misuses

-- the day of a number
abbrev pub day_of_number : ℕ → Result ℕ Misuse
day_of_number number =
    if is_off_line newest_rules (pos number) then Err misuses.DayNumber else Ok number

-- the day of a Julian day number
abbrev pub day_of_julian : ℕ → Result ℕ Misuse
day_of_julian number =
    if is_off_line newest_rules (pos (number - 1721425)) then Err misuses.JulianDayNumber
    else Ok (number - 1721425)

-- the number of a day, unless it may be its Julian day number as well
abbrev pub unless_either : Result ℕ Misuse → Result ℕ Misuse
unless_either (Ok number) =
    if nat_lt 1721425 number then Err (misuses.WhichDayNumber number) else Ok number
unless_either (Err misuse) = Err misuse

-- the day of a number that is alone
abbrev pub day_of_either : ℕ → Result ℕ Misuse
day_of_either number = unless_either (day_of_number number)

-- a word that says which number follows, in capital or small letters
abbrev pub is_day_word : List ℕ → Bool
is_day_word word = str_eq_ignore_ascii_case word (codes "day")

abbrev pub is_julian_word : List ℕ → Bool
is_julian_word word = str_eq_ignore_ascii_case word (codes "jdn")

-- the day of a number after a word that says which number it is
abbrev pub day_after : List ℕ → ℕ → Option (Result ℕ Misuse)
day_after word number =
    if is_day_word word then Some (day_of_number number)
    else (if is_julian_word word then Some (day_of_julian number) else None)

abbrev pub day_of : List ℕ → Option ℕ → Option (Result ℕ Misuse)
day_of word None = None
day_of word (Some number) = day_after word number

abbrev pub day_after_word : List ℕ → List ℕ → Option (Result ℕ Misuse)
day_after_word word text = day_of word (number_of text)

-- the day of a text that is a number, with a word before it or alone: `632287`, `day 632287` or
-- `JDN 2353712`
abbrev pub day_in_parts : List ℕ → Option (List ℕ × List ℕ) → Option (Result ℕ Misuse)
day_in_parts text (Some parts) = day_after_word parts.0 parts.1
day_in_parts text None = option_map day_of_either (number_of text)

abbrev pub day_by_number : List ℕ → Option (Result ℕ Misuse)
day_by_number text = day_in_parts text (parts_at 32 text)

-- the day of a Julian day number, which a text is
abbrev pub day_of_julian_text : Option ℕ → Result ℕ Misuse
day_of_julian_text None = Err misuses.JulianDayNumber
day_of_julian_text (Some number) = day_of_julian number

abbrev pub day_by_julian : List ℕ → Result ℕ Misuse
day_by_julian text = day_of_julian_text (number_of text)
