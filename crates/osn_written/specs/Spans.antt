-- From which day to which a written date, a range or a bound may be in a territory. This project's
-- profile.
use Rattle.std.specs.Prelude.{ℕ, Bool, true, false, not, ◌&&◌, ◌||◌, ◌==◌, ◌+◌, ◌-◌, nat_le, nat_lt}
use Rattle.std.specs.Prelude.{if◌then◌else◌, List, [], ◌∷◌, Option, Some, None, is_some}
use Rattle.std.specs.Prelude.{Result, Ok, Err}
use Rattle.osn_days.specs.Rules.{Rules}
use Rattle.osn_written.specs.declared.any_date.Extent.{Extent}
use Rattle.osn_written.specs.declared.any_date.Extent.TheVariants as extent
use Rattle.osn_written.specs.declared.any_date.PartialDate.{PartialDate}
use Rattle.osn_written.specs.declared.any_date.Year.{Year}
use Rattle.osn_territory.specs.declared.runs.Run.{Run}
use Rattle.osn_territory.specs.Territory.{TerritoryModel}
use Rattle.osn_written.specs.declared.span.NoSpan.{NoSpan}
use Rattle.osn_written.specs.declared.span.NoSpan.TheVariants.{NoDay, NoLastDay, OutOfOrder}
use Rattle.osn_written.specs.declared.span.NoSpan.TheVariants.{OffTheLine}
use Rattle.osn_written.specs.declared.written_date.MonthDay.{MonthDay}
use Rattle.osn_written.specs.AnyDate.{in_year}
use Rattle.osn_written.specs.FeastDays.{feast_meant}
use Rattle.osn_written.specs.declared.portion.Portion.{Portion}
use Rattle.osn_written.specs.Portion.{part_of_run}
use Rattle.osn_written.specs.Runs.{runs_meant}

-- ---- the first and the last day of runs in order

abbrev pub first_of : List Run → Option ℕ
first_of [] = None
first_of (r ∷ rs) = Some r.first

abbrev pub last_of : List Run → Option ℕ
last_of [] = None
last_of (r ∷ []) = Some r.last
last_of (r ∷ next ∷ rest) = last_of (next ∷ rest)

-- the first and the last day that a date means
abbrev pub first_meant : Rules → TerritoryModel → PartialDate → Option ℕ
first_meant p t date = first_of (runs_meant p t date)

abbrev pub last_meant : Rules → TerritoryModel → PartialDate → Option ℕ
last_meant p t date = last_of (runs_meant p t date)

-- ---- spans

-- from one day to another one, which is not earlier
abbrev pub from_to : Option ℕ → Option ℕ → Result Run NoSpan
from_to None last = Err NoDay
from_to (Some first) None = Err NoLastDay
from_to (Some first) (Some last) =
    if nat_le first last then Ok (record { first = first; last = last }) else Err OutOfOrder

-- ---- days with one year written for both

-- by month and day they are in order, in one month or in two that follow each other. A longer range
-- may be of one year that is counted otherwise: 1 January to 31 December 1675
abbrev pub are_close : MonthDay → MonthDay → Bool
are_close a b = (a.month == b.month && nat_le a.day b.day) || b.month == a.month + 1

-- the last one may be of the next year: they are close, and the year is not double. The year 10000
-- has no next one
abbrev pub may_end_in_next_year : MonthDay → MonthDay → Year → Bool
may_end_in_next_year a b year =
    are_close a b && (not year.is_double && nat_lt year.first 10000)

abbrev pub next_year : Year → Year
next_year year = record year { first = year.first + 1 }

-- the days from one date to another, both in the year that is written
abbrev pub in_one_year : Rules → TerritoryModel → MonthDay → MonthDay → Year → Result Run NoSpan
in_one_year p t a b year =
    from_to (first_meant p t (in_year a year)) (last_meant p t (in_year b year))

-- the last one is of the next year, and the first of its days there is meant
abbrev pub into_next_year : Rules → TerritoryModel → MonthDay → MonthDay → Year → Result Run NoSpan
into_next_year p t a b year =
    from_to (first_meant p t (in_year a year)) (first_meant p t (in_year b (next_year year)))

-- the days over the beginning of a year: those into the next year, if the last one may be of it,
-- and in the year that is written the first day is after the last
abbrev pub over_new_year : Bool → Result Run NoSpan → Result Run NoSpan → Option Run
over_new_year true (Err OutOfOrder) (Ok run) = Some run
over_new_year may_end span next = None

abbrev pub days_over_new_year : Rules → TerritoryModel → MonthDay → MonthDay → Year → Option Run
days_over_new_year p t a b year =
    over_new_year (may_end_in_next_year a b year) (in_one_year p t a b year)
    (into_next_year p t a b year)

-- the days over the new year, or else those of the year that is written
abbrev pub or_in_one_year : Option Run → Result Run NoSpan → Result Run NoSpan
or_in_one_year (Some run) span = Ok run
or_in_one_year None span = span

-- what is written ends in the next year
abbrev pub ends_in_next_year : Rules → TerritoryModel → Extent → Bool
ends_in_next_year p t (extent.DaysOfYear a b year) = is_some (days_over_new_year p t a b year)
ends_in_next_year p t e = false

-- ---- parts and bounds

-- the part of the days of a span
abbrev pub part_of_span : Portion → Result Run NoSpan → Result Run NoSpan
part_of_span portion (Ok run) = Ok (part_of_run portion run)
part_of_span portion (Err none) = Err none

-- from the first day of the line to the day before one, or to that one
abbrev pub before : Option ℕ → Result Run NoSpan
before None = Err NoDay
before (Some d) = if nat_lt 1 d then Ok (record { first = 1; last = d - 1 }) else Err OffTheLine

abbrev pub not_after : Option ℕ → Result Run NoSpan
not_after None = Err NoDay
not_after (Some d) = Ok (record { first = 1; last = d })

-- from the day after one, or from that one, to the last day of the line
abbrev pub after : Rules → Option ℕ → Result Run NoSpan
after p None = Err NoDay
after p (Some d) =
    if nat_lt d p.high then Ok (record { first = d + 1; last = p.high }) else Err OffTheLine

abbrev pub not_before : Rules → Option ℕ → Result Run NoSpan
not_before p None = Err NoDay
not_before p (Some d) = Ok (record { first = d; last = p.high })

-- from the first day that a date or a range may mean to the last one. A range lasts from the first
-- day of its first date to the last day of its last date. With one year written for two days, it
-- may last into the next year. A bound reaches to an end of the line. A part of a date is that of
-- the days from its first to its last one
abbrev pub span_meant : Rules → TerritoryModel → Extent → Result Run NoSpan
span_meant p t (extent.On date) = from_to (first_meant p t date) (last_meant p t date)
span_meant p t (extent.FromTo a b) = from_to (first_meant p t a) (last_meant p t b)
span_meant p t (extent.DaysOfYear a b year) =
    or_in_one_year (days_over_new_year p t a b year) (in_one_year p t a b year)
span_meant p t (extent.Before date) = before (first_meant p t date)
span_meant p t (extent.NotAfter date) = not_after (last_meant p t date)
span_meant p t (extent.After date) = after p (last_meant p t date)
span_meant p t (extent.NotBefore date) = not_before p (first_meant p t date)
span_meant p t (extent.Part portion date) =
    part_of_span portion (from_to (first_meant p t date) (last_meant p t date))
span_meant p t (extent.Feast feast year) =
    from_to (first_of (feast_meant p t feast year)) (last_of (feast_meant p t feast year))
