-- The days of a text: `{ julian = "1752-01-01" }` is a date of a calendar, `{ day = 639797 }` a day
-- of the line by its number. This project's profile.
use Rattle.std.specs.Prelude.{ℕ, ℤ, pos, if◌then◌else◌, nat_le, Bool, ◌||◌, List, length, codes}
use Rattle.std.specs.Prelude.{slice_get}
use Rattle.std.specs.Prelude.{Option, Some, None, is_some, option_map, option_and_then}
use Rattle.std.specs.Prelude.{Result, Ok, Err}
use Rattle.std.specs.Str.{bytes_eq}
use Rattle.toml.specs.Data.{Data, Members, no_members, member}
use Rattle.toml.specs.Data.{as_datetime, as_integer, as_str, as_table}
use Rattle.osn_days.specs.declared.calendar.Calendar.{Calendar}
use Rattle.osn_days.specs.declared.date.Date.{Date}
use Rattle.osn_days.specs.CalendarWords.{calendar_named}
use Rattle.osn_days.specs.Chain.{days_with_date}
use Rattle.osn_days.specs.Rules.{newest_rules}
use Rattle.osn_written.specs.WrittenDate.{number_of, parts_at}
use Rattle.osn_register_text.specs.declared.key.Key.{Key}
use Rattle.osn_register_text.specs.declared.fault.KeyFault.{KeyFault}
use Rattle.osn_register_text.specs.declared.fault.ValueFault.{ValueFault}
use Rattle.osn_register_text.specs.declared.fault.ValueFault.TheVariants.{Form, Unquoted}
use Rattle.osn_register_text.specs.declared.fault.ValueFault.TheVariants.{NoSuchDate, UnknownDayKey}
use Rattle.osn_register_text.specs.Field.{Place, ◌>>=◌, fault_at, required_value, or_fault}

-- ---- dates

-- a year of three digits or more
abbrev pub year_of : List ℕ → Option ℕ
year_of part = if nat_le 3 (length part) then number_of part else None

-- a month or a day of one or two digits
abbrev pub short_number_of : List ℕ → Option ℕ
short_number_of part = if nat_le (length part) 2 then number_of part else None

-- the date of these parts
abbrev pub date_of_parts : List ℕ → List ℕ → List ℕ → Option Date
date_of_parts year month day =
    option_and_then (λ y.
    option_and_then (λ m.
    option_map (λ d. record { year = pos y; month = m; day = d })
    (short_number_of day)) (short_number_of month)) (year_of year)

-- a date such as `1752-09-14`: a year, a month and a day with `-` between them
abbrev pub date_of : List ℕ → Option Date
date_of text =
    option_and_then (λ years.
    option_and_then (λ days. date_of_parts years.0 days.0 days.1)
    (parts_at 45 years.1)) (parts_at 45 text)

-- ---- days

-- the day that has the date in a calendar
abbrev pub day_with : Calendar → Date → Option ℤ
day_with calendar date = option_map pos (slice_get (days_with_date newest_rules calendar date) 0)

-- the day of a date's text in a calendar
abbrev pub day_of_text : Calendar → List ℕ → Result ℤ ValueFault
day_of_text calendar text =
    or_fault Form (date_of text)
    >>= λ date. or_fault (NoSuchDate calendar) (day_with calendar date)

-- the day of a date in a calendar
abbrev pub day_in_calendar : Calendar → Data → Result ℤ ValueFault
day_in_calendar calendar d =
    or_fault (if is_some (as_datetime d) then Unquoted else Form) (as_str d)
    >>= day_of_text calendar

-- the day of a member: a calendar with a date, or `day` with a day number
abbrev pub day_of_member : List ℕ → Data → Result ℤ ValueFault
day_of_member name d =
    if bytes_eq name (codes "day") then or_fault Form (as_integer d)
    else (or_fault Form (calendar_named name) >>= λ calendar. day_in_calendar calendar d)

-- the only member
abbrev pub only_member : Members → Option (List ℕ × Data)
only_member no_members = None
only_member (member k d no_members) = Some (k, d)
only_member (member k d (member l e ms)) = None

-- the day of a table of one member
abbrev pub day_in : Data → Result ℤ ValueFault
day_in d =
    or_fault Form (option_and_then only_member (as_table d)) >>= λ m. day_of_member m.0 m.1

abbrev pub with_place : Place → Key → Result ℤ ValueFault → Result ℤ KeyFault
with_place at key (Ok day) = Ok day
with_place at key (Err fault) = Err (fault_at at key fault)

-- a day may be by this key
abbrev pub is_day_key : List ℕ → Bool
is_day_key name = bytes_eq name (codes "day") || is_some (calendar_named name)

abbrev pub unless_day_key : Option (List ℕ × Data) → Option (List ℕ)
unless_day_key None = None
unless_day_key (Some m) = if is_day_key m.0 then None else Some m.0

-- the key of the only member, if no day is by it
abbrev pub unknown_day_key : Data → Option (List ℕ)
unknown_day_key d = unless_day_key (option_and_then only_member (as_table d))

abbrev pub unless_unknown : Place → Key → Option (List ℕ) → Result ℤ ValueFault
    → Result ℤ KeyFault
unless_unknown at key None day = with_place at key day
unless_unknown at key (Some name) day = Err (fault_at at key (UnknownDayKey name))

-- the day at a key
abbrev pub day_at : Place → Key → Members → Result ℤ KeyFault
day_at at key ms =
    required_value at key ms >>= λ d. unless_unknown at key (unknown_day_key d) (day_in d)
