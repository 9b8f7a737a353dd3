-- The page of a conversion, which is the line of a day by each calendar, and the days of a written
-- date in one calendar. This project's profile.
use Rattle.std.specs.Prelude.{ℕ, pos, if◌then◌else◌, List, [], ◌++◌, Option, None, codes}
use Rattle.std.specs.Fmt.{decimal}
use Rattle.osn_days.specs.declared.calendar.Calendar.{Calendar}
use Rattle.osn_days.specs.declared.calendar.Calendar.TheVariants.{Gregorian, Julian, Swedish}
use Rattle.osn_days.specs.declared.date.Date.{Date}
use Rattle.osn_days.specs.declared.weekday.Weekday.{Weekday}
use Rattle.osn_days.specs.Chain.{days_with_date}
use Rattle.osn_days.specs.Line.{julian_day}
use Rattle.osn_days.specs.Rules.{Rules}
use Rattle.osn_written.specs.declared.written_date.WrittenDate.{WrittenDate}
use Rattle.osn_pages.specs.Reading.{verdict}
use Rattle.osn_pages.specs.Words.{calendar_words, weekday_words}

-- the weekday of a day and its date in each calendar
unfoldable pub dates_text : ℕ → List ℕ
dates_text d =
    weekday_words d
    ++ (codes "    "
    ++ (calendar_words Gregorian d
    ++ (codes " Gregorian    "
    ++ (calendar_words Julian d
    ++ (codes " Julian    " ++ (calendar_words Swedish d ++ codes " Swedish"))))))

-- the numbers of a day: its own and its Julian day number
unfoldable pub numbers_text : ℕ → List ℕ
numbers_text d =
    codes "    day " ++ (decimal d ++ (codes "    JDN " ++ decimal (julian_day d)))

-- the page of a day: its weekday, its dates, its numbers, and the remark on the weekday that was
-- given, if any
unfoldable pub conversion_page : ℕ → Option Weekday → List ℕ
conversion_page d given =
    dates_text d ++ (numbers_text d ++ (verdict None given d ++ codes "\n"))

-- the date of these numbers, whether a calendar has it or not
abbrev pub numbered_date : ℕ → ℕ → ℕ → Date
numbered_date year month day = record { year = pos year; month = month; day = day }

-- the days of the line that have the written date in the calendar. A double date is that of a
-- territory, and no calendar has it
abbrev pub days_of_written : Rules → Calendar → WrittenDate → List ℕ
days_of_written p c w =
    if w.is_double then [] else days_with_date p c (numbered_date w.year w.month w.day)
