-- The lines of the days that a written date means. This project's profile.
use Rattle.std.specs.Prelude.{ℕ, ◌||◌, if◌then◌else◌, is_some, List, []}
use Rattle.std.specs.Prelude.{◌++◌, Option, Some, None, codes}
use Rattle.std.specs.Fmt.{decimal}
use Rattle.std.specs.List.{flat_map}
use Rattle.std.specs.Option.{option_or}
use Rattle.osn_days.specs.declared.calendar.Calendar.TheVariants.{Gregorian, Julian}
use Rattle.osn_days.specs.declared.weekday.Weekday.{Weekday}
use Rattle.osn_days.specs.Line.{julian_day}
use Rattle.osn_days.specs.Weekday.{weekday_name}
use Rattle.osn_territory.specs.declared.dating.DatedDay.{DatedDay}
use Rattle.osn_territory.specs.Dating.{dated_text}
use Rattle.osn_written.specs.declared.written_date.WrittenDate.{WrittenDate}
use Rattle.osn_written.specs.Meaning.{is_on, is_not_counted_double}
use Rattle.osn_pages.specs.Words.{calendar_words, named_day}

-- ---- weekdays

-- the weekday, if one is given and the day is another
abbrev pub other_weekday : Option Weekday → ℕ → Option Weekday
other_weekday None d = None
other_weekday (Some given) d = if is_on (Some given) d then None else Some given

-- the words that the day is of the weekday, or of which it is not
abbrev pub weekday_verdict : Option Weekday → List ℕ
weekday_verdict None = codes " ok"
weekday_verdict (Some given) = codes " not " ++ weekday_name given

-- the remark on a day, if the date names a weekday or one is given beside it
unfoldable pub verdict : Option Weekday → Option Weekday → ℕ → List ℕ
verdict written given d =
    if is_some written || is_some given then
    weekday_verdict (option_or (other_weekday written d) (other_weekday given d))
    else []

-- ---- the lines

-- a day by its weekday and as the territory dated it, by two calendars and by its numbers, and the
-- remark on its weekday
unfoldable pub day_line : List ℕ → DatedDay → List ℕ
day_line remark x =
    named_day x
    ++ (codes "    "
    ++ (calendar_words Gregorian x.day
    ++ (codes " Gregorian    "
    ++ (calendar_words Julian x.day
    ++ (codes " Julian    day "
    ++ (decimal x.day
    ++ (codes "    JDN " ++ (decimal (julian_day x.day) ++ (remark ++ codes "\n")))))))))

-- the line of a day of which no weekday is asked
abbrev pub plain_day_line : DatedDay → List ℕ
plain_day_line x = day_line [] x

-- the line that the territory counted the day of a double date from 1 January, and what it wrote
unfoldable pub not_double_line : DatedDay → List ℕ
not_double_line x =
    codes "not counted double there: the place wrote " ++ (dated_text x ++ codes "\n")

-- the lines of a day that the date means
unfoldable pub meant_lines : WrittenDate → Option Weekday → DatedDay → List ℕ
meant_lines w given x =
    day_line (verdict w.weekday given x.day) x
    ++ (if is_not_counted_double w x then not_double_line x else [])

-- the lines of all such days
abbrev pub days_text : WrittenDate → Option Weekday → List DatedDay → List ℕ
days_text w given days = flat_map (meant_lines w given) days
