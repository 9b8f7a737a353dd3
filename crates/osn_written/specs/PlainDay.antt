-- Which of the dates that people write are one day, and of which of them no more is said. This
-- project's profile.
use Rattle.std.specs.Prelude.{Bool, ◌||◌, if◌then◌else◌, Option, is_some, Result, Ok, Err}
use Rattle.std.specs.Result.{result_ok}
use Rattle.osn_days.specs.declared.weekday.Weekday.{Weekday}
use Rattle.osn_written.specs.declared.any_date.AnyDate.{AnyDate}
use Rattle.osn_written.specs.declared.any_date.Extent.{Extent}
use Rattle.osn_written.specs.declared.any_date.Extent.TheVariants.{On}
use Rattle.osn_written.specs.declared.any_date.PartialDate.TheVariants as simple
use Rattle.osn_written.specs.declared.written_date.WrittenDate.{WrittenDate}
use Rattle.osn_written.specs.declared.written_date.DateFault.{DateFault}
use Rattle.osn_written.specs.declared.written_date.DateFault.TheVariants as faults

-- the date of one day, with the weekday that is named beside it, if any
abbrev pub day_in : Extent → Option Weekday → Result WrittenDate DateFault
day_in (On (simple.Day year month day)) weekday = Ok (record {
  year = year.first;
  month = month;
  day = day;
  is_double = year.is_double;
  weekday = weekday;
})
day_in extent weekday = Err faults.NotOneDay

-- the day of a date that is one day
abbrev pub one_day : AnyDate → Option WrittenDate
one_day w = result_ok (day_in w.extent w.weekday)

-- more is said of a date than which it is
abbrev pub has_qualifier : AnyDate → Bool
has_qualifier w =
    is_some w.reckoning || (w.is_approximate || (w.is_uncertain || w.is_supplied))

-- the date of one day, unless more is said of it
abbrev pub if_plain : Bool → Result WrittenDate DateFault → Result WrittenDate DateFault
if_plain qualified (Ok date) = if qualified then Err faults.Qualifier else Ok date
if_plain qualified (Err fault) = Err fault

abbrev pub plain_day : AnyDate → Result WrittenDate DateFault
plain_day w = if_plain (has_qualifier w) (day_in w.extent w.weekday)
