-- A date in words: a day, a month, a year, a range or a bound, with what is said beside it. This
-- project's profile.
use Rattle.std.specs.Prelude.{ℕ, Bool, nat_lt, ◌+◌, pos, List, if◌then◌else◌, [], ◌++◌, codes}
use Rattle.std.specs.Prelude.{Option, Some, None}
use Rattle.std.specs.Fmt.{decimal}
use Rattle.osn_days.specs.declared.weekday.Weekday.{Weekday}
use Rattle.osn_days.specs.Month.{month_name}
use Rattle.osn_days.specs.Weekday.{weekday_name}
use Rattle.osn_written.specs.declared.any_date.Extent.{Extent}
use Rattle.osn_written.specs.declared.any_date.Extent.TheVariants as extent
use Rattle.osn_written.specs.declared.any_date.Reckoning.{Reckoning}
use Rattle.osn_written.specs.declared.any_date.Reckoning.TheVariants as calendar
use Rattle.osn_written.specs.declared.any_date.PartialDate.{PartialDate}
use Rattle.osn_written.specs.declared.any_date.PartialDate.TheVariants as date
use Rattle.osn_written.specs.declared.any_date.AnyDate.{AnyDate}
use Rattle.osn_written.specs.declared.any_date.Year.{Year}
use Rattle.osn_written.specs.AnyDate.{in_year}
use Rattle.osn_written.specs.Feast.{feast_name}
use Rattle.osn_written.specs.Portion.{portion_words}
use Rattle.osn_written.specs.WrittenDate.{month_day_words}
use Rattle.osn_territory.specs.Dual.{year_text}

-- ---- a day, a month, a year

-- the zeros that bring a year to four digits, since a shorter number is read as no year, or as one
-- that may lack a digit
abbrev pub zeros_before : ℕ → List ℕ
zeros_before year =
    if nat_lt year 10 then codes "000"
    else (if nat_lt year 100 then codes "00"
    else (if nat_lt year 1000 then codes "0"
    else []))

-- the later year of a double one, or the only one
abbrev pub last_year : Year → ℕ
last_year y = if y.is_double then y.first + 1 else y.first

-- a year: 1731, 0045, and if it is double 1731/2, 1699/700, 0009/10
unfoldable pub words_of_year : Year → List ℕ
words_of_year y = zeros_before y.first ++ year_text (pos y.first) (pos (last_year y))

-- a month: February 1731/2
abbrev pub words_of_month : ℕ → Year → List ℕ
words_of_month month year = month_name month ++ (codes " " ++ words_of_year year)

-- 11 February 1731/2, February 1731/2, 1731/2
unfoldable pub words_of_date : PartialDate → List ℕ
words_of_date (date.Day year month day) = decimal day ++ (codes " " ++ words_of_month month year)
words_of_date (date.Month year month) = words_of_month month year
words_of_date (date.Year year) = words_of_year year

-- ---- from when to when

-- 1640, 1640 to 1645, 3 May to 10 May 1640, before 1640, not after 1640, after 1640, not before 1640,
-- the first third of 1640, Easter 1640
unfoldable pub words_of_extent : Extent → List ℕ
words_of_extent (extent.On d) = words_of_date d
words_of_extent (extent.FromTo a b) = words_of_date a ++ (codes " to " ++ words_of_date b)
words_of_extent (extent.DaysOfYear a b year) =
    month_day_words a ++ (codes " to " ++ words_of_date (in_year b year))
words_of_extent (extent.Before d) = codes "before " ++ words_of_date d
words_of_extent (extent.NotAfter d) = codes "not after " ++ words_of_date d
words_of_extent (extent.After d) = codes "after " ++ words_of_date d
words_of_extent (extent.NotBefore d) = codes "not before " ++ words_of_date d
words_of_extent (extent.Part portion d) = portion_words portion ++ (codes " " ++ words_of_date d)
words_of_extent (extent.Feast feast year) = feast_name feast ++ (codes " " ++ words_of_year year)

-- ---- what is said beside it

-- a word if something is said, and nothing otherwise
abbrev pub optional_word : Bool → List ℕ → List ℕ
optional_word applies word = if applies then word else []

-- the weekday before a date
unfoldable pub weekday_before : Option Weekday → List ℕ
weekday_before None = []
weekday_before (Some w) = weekday_name w ++ codes " "

-- the calendar after a date
abbrev pub calendar_after : Option Reckoning → List ℕ
calendar_after None = []
calendar_after (Some calendar.OldStyle) = codes " O.S."
calendar_after (Some calendar.NewStyle) = codes " N.S."

-- a date with all that is said of it: [about Friday 11 February 1731/2 O.S.?]
unfoldable pub words_of : AnyDate → List ℕ
words_of w =
    optional_word w.is_supplied (codes "[")
    ++ (optional_word w.is_approximate (codes "about ")
    ++ (weekday_before w.weekday
    ++ (words_of_extent w.extent
    ++ (calendar_after w.reckoning
    ++ (optional_word w.is_uncertain (codes "?") ++ optional_word w.is_supplied (codes "]"))))))
