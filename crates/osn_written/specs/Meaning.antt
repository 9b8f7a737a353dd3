-- Which days a written date means in a territory. This project's profile.
use Rattle.std.specs.Prelude.{ℕ, Bool, true, not, ◌&&◌, ◌+◌, if◌then◌else◌, pos}
use Rattle.std.specs.Prelude.{List, [], ◌++◌, map, filter, Option, Some, None}
use Rattle.std.specs.Ordering.{int_eq}
use Rattle.std.specs.Str.{bytes_eq}
use Rattle.osn_days.specs.declared.weekday.Weekday.{Weekday}
use Rattle.osn_days.specs.Line.{weekday}
use Rattle.osn_days.specs.Rules.{Rules}
use Rattle.osn_days.specs.Weekday.{weekday_name, weekday_numbered}
use Rattle.osn_territory.specs.declared.dating.DatedDay.{DatedDay}
use Rattle.osn_territory.specs.declared.label.Label.{Label}
use Rattle.osn_territory.specs.Dating.{dated_on}
use Rattle.osn_territory.specs.Style.{is_before_25_march}
use Rattle.osn_territory.specs.Territory.{TerritoryModel, reading}
use Rattle.osn_written.specs.declared.written_date.WrittenDate.{WrittenDate}

-- the label that a date has by its first year, or its only one
abbrev pub label_of : WrittenDate → Label
label_of w = record { year = pos w.year; month = w.month; day = w.day }

-- the label of the same month and day in the later year
abbrev pub later_label : WrittenDate → Label
later_label w = record { year = pos (w.year + 1); month = w.month; day = w.day }

-- the year counted from 1 January is the later one
abbrev pub is_of_later_year : WrittenDate → DatedDay → Bool
is_of_later_year w day = int_eq day.january_year (pos (w.year + 1))

-- the days of a label whose year, counted from 1 January, is the later one
abbrev pub read_in_later_year : Rules → TerritoryModel → WrittenDate → Label → List ℕ
read_in_later_year p t w label =
    filter (λ d. is_of_later_year w (dated_on p t d)) (reading p t label)

-- the days of a double date that the territory counted double. The year by its style is the first
-- year, and the year counted from 1 January is the later one
abbrev pub counted_double : Rules → TerritoryModel → WrittenDate → List ℕ
counted_double p t w = read_in_later_year p t w (label_of w)

-- the days of a double date before 25 March on which the territory's own year was the later one
-- too, such as in a territory that counted from 1 January. It wrote that year alone then
abbrev pub not_counted_double : Rules → TerritoryModel → WrittenDate → List ℕ
not_counted_double p t w =
    if is_before_25_march w.month w.day then read_in_later_year p t w (later_label w) else []

-- the days that a double date means
abbrev pub double_meant : Rules → TerritoryModel → WrittenDate → List ℕ
double_meant p t w = counted_double p t w ++ not_counted_double p t w

-- the days that a date means in a territory
unfoldable pub days_meant : Rules → TerritoryModel → WrittenDate → List ℕ
days_meant p t w =
    if w.is_double then double_meant p t w else reading p t (label_of w)

-- a double date means the day, and the territory wrote the later year alone
abbrev pub is_not_counted_double : WrittenDate → DatedDay → Bool
is_not_counted_double w day = w.is_double && not (int_eq day.label.year (pos w.year))

-- days as a territory dated them, whatever reckoning they were found by
abbrev pub dated_by : Rules → TerritoryModel → List DatedDay → List DatedDay
dated_by p t days = map (λ day. dated_on p t day.day) days

-- ---- weekdays

-- the day is on the weekday, if one is given
abbrev pub is_on : Option Weekday → ℕ → Bool
is_on None d = true
is_on (Some given) d =
    bytes_eq (weekday_name (weekday_numbered (weekday d))) (weekday_name given)

-- the day is of the weekday that the date names, and of the one that is given beside it
abbrev pub has_weekday : WrittenDate → Option Weekday → DatedDay → Bool
has_weekday w given day = is_on w.weekday day.day && is_on given day.day

-- days, those first that have the weekday
abbrev pub first_by_weekday : WrittenDate → Option Weekday → List DatedDay → List DatedDay
first_by_weekday w given days =
    filter (has_weekday w given) days ++ filter (λ day. not (has_weekday w given day)) days

-- the days that a date means, as the territory dated them, those first that have the weekday
unfoldable pub meaning : Rules → TerritoryModel → WrittenDate → Option Weekday → List DatedDay
meaning p t w given = first_by_weekday w given (map (dated_on p t) (days_meant p t w))
