-- The notes on an edit that an editor may not have meant. This project's profile.
use Rattle.std.specs.Prelude.{ℕ, ◌==◌, nat_le, Bool, ◌&&◌, ◌||◌, if◌then◌else◌, ℤ, List, [], ◌++◌}
use Rattle.std.specs.Prelude.{codes, Option, Some, None}
use Rattle.std.specs.Fmt.{signed_decimal}
use Rattle.std.specs.Ordering.{int_eq}
use Rattle.std.specs.Str.{bytes_eq}
use Rattle.osn_days.specs.declared.calendar.Calendar.{Calendar}
use Rattle.osn_days.specs.declared.calendar.Calendar.TheVariants.{Julian, Gregorian}
use Rattle.osn_days.specs.declared.date.Date.{Date}
use Rattle.osn_days.specs.Chain.{date_of}
use Rattle.osn_days.specs.Rules.{Rules}
use Rattle.osn_territory.specs.declared.regime.Regime.{Regime}
use Rattle.osn_pages.specs.Words.{weekday_words}
use Rattle.osn_register_text.specs.EditDay.{day_numbered}
use Rattle.osn_register_text.specs.Part.{is_other_regime}

-- the regime from a day on is that of the day before
unfoldable pub same_regime_note : List ℕ → Option Regime → Regime → List ℕ
same_regime_note code before regime =
    if is_other_regime before regime then []
    else codes "note: "
    ++ (code
    ++ codes ": nothing changes on that day: write the new calendar, style or rule\n")

-- an Easter is on another weekday than Sunday
unfoldable pub weekday_note : List ℕ → List ℕ → List ℕ
weekday_note code weekday =
    if bytes_eq weekday (codes "Sunday") then []
    else codes "note: "
    ++ (code
    ++ (codes ": Easter is a Sunday, and that day is a " ++ (weekday ++ codes "\n")))

-- A date from 21 March to 26 April of a year. A rule gives 22 March to 25 April; what was found
-- from the moon itself may be a day off that.
abbrev pub is_spring_date : ℤ → Date → Bool
is_spring_date year date =
    int_eq date.year year
    && (((date.month == 3) && nat_le 21 date.day) || ((date.month == 4) && nat_le date.day 26))

abbrev pub is_in_spring : Calendar → ℤ → ℕ → Bool
is_in_spring c year day = is_spring_date year (date_of c day)

-- an Easter of a year is on no such date
unfoldable pub season_text : List ℕ → ℤ → List ℕ
season_text code year =
    codes "note: "
    ++ (code
    ++ (codes ": that day is not from 21 March to 26 April "
    ++ (signed_decimal year ++ codes ", Julian or Gregorian\n")))

abbrev pub season_note : List ℕ → ℤ → ℕ → List ℕ
season_note code year day =
    if is_in_spring Julian year day || is_in_spring Gregorian year day then []
    else season_text code year

-- the notes on an Easter, if the line has its day
abbrev pub easter_notes_on : List ℕ → ℤ → Option ℕ → List ℕ
easter_notes_on code year None = []
easter_notes_on code year (Some day) =
    weekday_note code (weekday_words day) ++ season_note code year day

abbrev pub easter_notes : Rules → List ℕ → ℤ → ℤ → List ℕ
easter_notes p code year number = easter_notes_on code year (day_numbered p number)
