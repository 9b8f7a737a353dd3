-- Days and dates in English words: this project's profile.
use Rattle.std.specs.Prelude.{ℕ, List, ◌++◌, codes}
use Rattle.std.specs.Fmt.{decimal, signed_decimal}
use Rattle.osn_days.specs.declared.calendar.Calendar.{Calendar}
use Rattle.osn_days.specs.declared.date.Date.{Date}
use Rattle.osn_days.specs.Chain.{date_of}
use Rattle.osn_days.specs.Line.{weekday}
use Rattle.osn_days.specs.Month.{month_name}
use Rattle.osn_days.specs.Weekday.{weekday_name, weekday_numbered}
use Rattle.osn_territory.specs.declared.dating.DatedDay.{DatedDay}
use Rattle.osn_territory.specs.Dating.{dated_text}

-- a date with its year counted from 1 January: 22 February 1732
abbrev pub words_of_date : Date → List ℕ
words_of_date date =
    decimal date.day
    ++ (codes " " ++ (month_name date.month ++ (codes " " ++ signed_decimal date.year)))

-- the date of a day in a calendar
unfoldable pub calendar_words : Calendar → ℕ → List ℕ
calendar_words c d = words_of_date (date_of c d)

-- the name of a day's weekday
abbrev pub weekday_words : ℕ → List ℕ
weekday_words d = weekday_name (weekday_numbered (weekday d))

-- a day as a territory names it: Friday 11 February 1731/2
unfoldable pub named_day : DatedDay → List ℕ
named_day x = weekday_words x.day ++ (codes " " ++ dated_text x)

-- a day as a territory names it, with its number: Thursday 14 September 1752 (day 639797)
unfoldable pub numbered_day : DatedDay → List ℕ
numbered_day x = named_day x ++ (codes " (day " ++ (decimal x.day ++ codes ")"))

-- from which day to which a year ran: the year 1731 ran there from .. to ..
unfoldable pub year_ends : ℕ → DatedDay → DatedDay → List ℕ
year_ends year first last =
    codes "the year "
    ++ (decimal year
    ++ (codes " ran there from " ++ (numbered_day first ++ (codes " to " ++ numbered_day last))))

-- the day before a change and the day of the change, as the territory named both
unfoldable pub days_at_change : DatedDay → DatedDay → List ℕ
days_at_change before change =
    named_day before ++ (codes " was followed by " ++ numbered_day change)

-- the line that no day had the year
unfoldable pub empty_year_line : ℕ → List ℕ
empty_year_line year = codes "the place had no day of the year " ++ (decimal year ++ codes "\n")
