-- The days of a date with all that is written of it, in a territory, or why it has none. This
-- project's profile.
use Rattle.std.specs.Prelude.{ℕ, Bool, true, false, not, ◌&&◌, ◌==◌, List, [], ◌∷◌}
use Rattle.std.specs.Prelude.{Option, Some, None}
use Rattle.std.specs.Prelude.{Result, Ok, Err, Vec}
use Rattle.std.specs.Result.{result_map_both}
use Rattle.std.specs.declared.alloc.Global.{Global}
use Rattle.std.specs.Cmp.Lexicographic.{pointwise}
use Rattle.osn_computus.specs.declared.rule.Rule.TheVariants as Easter
use Rattle.osn_days.specs.declared.calendar.Calendar.TheVariants as Calendar
use Rattle.osn_days.specs.Rules.{Rules}
use Rattle.osn_written.specs.declared.any_date.Extent.{Extent}
use Rattle.osn_written.specs.declared.any_date.Extent.TheVariants as extent
use Rattle.osn_written.specs.declared.any_date.Reckoning.{Reckoning}
use Rattle.osn_written.specs.declared.any_date.Reckoning.TheVariants.{OldStyle, NewStyle}
use Rattle.osn_written.specs.declared.any_date.PartialDate.{PartialDate}
use Rattle.osn_written.specs.declared.any_date.PartialDate.TheVariants as date
use Rattle.osn_written.specs.declared.any_date.AnyDate.{AnyDate}
use Rattle.osn_written.specs.declared.any_date.Year.{Year as WrittenYear}
use Rattle.osn_territory.specs.declared.regime.Regime.{Regime}
use Rattle.osn_territory.specs.declared.runs.Run.{Run}
use Rattle.osn_territory.specs.declared.style.Style.TheVariants as Style
use Rattle.osn_territory.specs.JulianCalendar.{in_julian_calendar}
use Rattle.osn_territory.specs.Territory.{TerritoryModel, of_one_regime}
use Rattle.osn_written.specs.declared.absence.Absence.{Absence}
use Rattle.osn_written.specs.declared.finding.NoDay.{NoDay}
use Rattle.osn_written.specs.declared.finding.NoDay.TheVariants.{Absent, LastAbsent, OutOfOrder}
use Rattle.osn_written.specs.declared.finding.NoDay.TheVariants.{OffTheLine, NoFeast}
use Rattle.osn_written.specs.declared.feast.Feast.{Feast}
use Rattle.osn_written.specs.FeastDays.{feast_meant}
use Rattle.osn_written.specs.declared.span.NoSpan.{NoSpan}
use Rattle.osn_written.specs.declared.span.NoSpan.TheVariants as spans
use Rattle.osn_written.specs.declared.written_date.WrittenDate.{WrittenDate}
use Rattle.osn_written.specs.Absence.{absence}
use Rattle.osn_written.specs.AnyDate.{in_year}
use Rattle.osn_written.specs.Runs.{runs_meant}
use Rattle.osn_written.specs.Spans.{span_meant}

-- ---- why there is no day

-- the first day of a date, as it is written
abbrev pub day_in_year : WrittenYear → ℕ → ℕ → WrittenDate
day_in_year year month day = record {
  year = year.first;
  month = month;
  day = day;
  is_double = year.is_double;
  weekday = None;
}

abbrev pub first_day_of : PartialDate → WrittenDate
first_day_of (date.Day year month day) = day_in_year year month day
first_day_of (date.Month year month) = day_in_year year month 1
first_day_of (date.Year year) = day_in_year year 1 1

-- why a date means no day: that of its first day
abbrev pub absence_in : Rules → TerritoryModel → PartialDate → Absence
absence_in p t date = absence p t (first_day_of date)

-- the first date of what is written, and the last one: of a feast, its year
abbrev pub ends_of : Extent → PartialDate × PartialDate
ends_of (extent.FromTo first last) = (first, last)
ends_of (extent.DaysOfYear first last year) = (in_year first year, in_year last year)
ends_of (extent.On date) = (date, date)
ends_of (extent.Before date) = (date, date)
ends_of (extent.NotAfter date) = (date, date)
ends_of (extent.After date) = (date, date)
ends_of (extent.NotBefore date) = (date, date)
ends_of (extent.Part portion date) = (date, date)
ends_of (extent.Feast feast year) = (date.Year year, date.Year year)

-- why what is written is not a span of days
abbrev pub reason_of : Rules → TerritoryModel → Extent → NoSpan → NoDay
reason_of p t e spans.NoDay = Absent (absence_in p t (ends_of e).0)
reason_of p t e spans.NoLastDay = LastAbsent (absence_in p t (ends_of e).1)
reason_of p t e spans.OutOfOrder = OutOfOrder
reason_of p t e spans.OffTheLine = OffTheLine

-- ---- the days

-- one run, or why no day is meant
abbrev pub of_span : Rules → TerritoryModel → Extent → Result Run NoSpan
    → Result (List Run) NoDay
of_span p t e (Ok run) = Ok (run ∷ [])
of_span p t e (Err no_span) = Err (reason_of p t e no_span)

-- runs, or a reason if there are no runs
abbrev pub unless_none : List Run → NoDay → Result (List Run) NoDay
unless_none [] reason = Err reason
unless_none (r ∷ rs) reason = Ok (r ∷ rs)

abbrev pub of_date : Rules → TerritoryModel → PartialDate → Result (List Run) NoDay
of_date p t date = unless_none (runs_meant p t date) (Absent (absence_in p t date))

-- the date, if what is written is one
abbrev pub one_date : Extent → Option PartialDate
one_date (extent.On date) = Some date
one_date e = None

-- the days of a feast in a year, which may have none of them
abbrev pub of_feast : Rules → TerritoryModel → Feast → WrittenYear → Result (List Run) NoDay
of_feast p t feast year = unless_none (feast_meant p t feast year) NoFeast

-- the days of that date, or those of a feast, a range or a bound
abbrev pub extent_meant_by : Rules → TerritoryModel → Extent → Option PartialDate
    → Result (List Run) NoDay
extent_meant_by p t e (Some date) = of_date p t date
extent_meant_by p t (extent.Feast feast year) None = of_feast p t feast year
extent_meant_by p t e None = of_span p t e (span_meant p t e)

-- the days that what is written means, as runs in order, or why it means none
unfoldable pub extent_meant : Rules → TerritoryModel → Extent → Result (List Run) NoDay
extent_meant p t e = extent_meant_by p t e (one_date e)

-- the result of the code, with its runs as a list
abbrev pub list_of : Result (Vec Run Global) NoDay → Result (List Run) NoDay
list_of = result_map_both (λ runs. runs.items) (λ reason. reason)

-- ---- the calendar that a date names

-- by the new style the Gregorian calendar, with the year from 1 January
abbrev pub new_style : Regime
new_style = record { calendar = Calendar.Gregorian; style = Style.January; rule = Easter.Gregorian }

-- the territory as if it had gone by the calendar that a date names. By the old style that is the
-- Julian one, with its own beginnings of the year
abbrev pub by_reckoning : TerritoryModel → Reckoning → TerritoryModel
by_reckoning t OldStyle = in_julian_calendar t
by_reckoning t NewStyle = of_one_regime new_style

-- the territory by whose reckoning a date is read
abbrev pub with_reckoning : TerritoryModel → Option Reckoning → TerritoryModel
with_reckoning t None = t
with_reckoning t (Some reckoning) = by_reckoning t reckoning

-- two runs are the same
abbrev pub is_same_run : Run → Run → Bool
is_same_run a b = (a.first == b.first) && (a.last == b.last)

abbrev pub are_same : Result (List Run) NoDay → Result (List Run) NoDay → Bool
are_same (Ok own) (Ok named) = pointwise is_same_run own named
are_same (Ok own) (Err reason) = false
are_same (Err reason) (Ok named) = false
are_same (Err reason) (Err other) = true

-- the date names a calendar, and means other days by it than by the place's own reckoning
abbrev pub is_by_other : Rules → TerritoryModel → Extent → Option Reckoning → Bool
is_by_other p t e None = false
is_by_other p t e (Some reckoning) =
    not (are_same (extent_meant p t e) (extent_meant p (by_reckoning t reckoning) e))

abbrev pub is_by_other_calendar : Rules → TerritoryModel → AnyDate → Bool
is_by_other_calendar p t w = is_by_other p t w.extent w.reckoning
