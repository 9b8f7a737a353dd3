-- Which days a date as it is written means or lacks in a territory, and what is remarked of it:
-- this project's profile.
use Rattle.std.specs.Prelude.{ℕ, Bool, false, ◌||◌, if◌then◌else◌, List, [], ◌∷◌}
use Rattle.std.specs.Prelude.{Option, Some, None, is_some, option_map, Result, Ok, Err}
use Rattle.std.specs.List.{list_any}
use Rattle.osn_days.specs.Rules.{Rules}
use Rattle.osn_days.specs.declared.weekday.Weekday.{Weekday}
use Rattle.osn_territory.specs.declared.runs.Run.{Run}
use Rattle.osn_territory.specs.Territory.{TerritoryModel}
use Rattle.osn_written.specs.declared.any_date.AnyDate.{AnyDate}
use Rattle.osn_written.specs.declared.any_date.Extent.{Extent}
use Rattle.osn_written.specs.declared.finding.NoDay.{NoDay}
use Rattle.osn_written.specs.declared.missing_date.MissingDate.{MissingDate}
use Rattle.osn_written.specs.declared.set.AbsentMember.{AbsentMember}
use Rattle.osn_written.specs.declared.written_date.WrittenDate.{WrittenDate}
use Rattle.osn_written.specs.AnyDate.{has_three_digits}
use Rattle.osn_written.specs.DateInWords.{words_of}
use Rattle.osn_written.specs.Double.{is_extent_not_counted_double}
use Rattle.osn_written.specs.Meaning.{meaning, has_weekday}
use Rattle.osn_written.specs.MissingDate.{missing_day}
use Rattle.osn_written.specs.PlainDay.{one_day}
use Rattle.osn_written.specs.Spans.{ends_in_next_year}
use Rattle.osn_register.specs.declared.answer.Reason.{Reason}
use Rattle.osn_register.specs.declared.answer.Reason.TheVariants as reasons
use Rattle.osn_register.specs.declared.remarks.DateRemarks.{DateRemarks}

-- the days that a date means, and why it means none
abbrev pub runs_in : Result (List Run) NoDay → List Run
runs_in (Ok runs) = runs
runs_in (Err none) = []

abbrev pub reason_in : Result (List Run) NoDay → Option Reason
reason_in (Ok runs) = None
reason_in (Err none) = Some (reasons.NoDay none)

-- the date whose day is missing, if that is why
abbrev pub missing_in : Extent → Result (List Run) NoDay → Option MissingDate
missing_in e (Ok runs) = None
missing_in e (Err none) = missing_day e none

-- the days that a set means, why it means none, and the date of it whose day is missing, if that is
-- why
abbrev pub set_runs_in : Result (List Run) AbsentMember → List Run
set_runs_in (Ok runs) = runs
set_runs_in (Err absent) = []

abbrev pub set_reason_in : Result (List Run) AbsentMember → Option Reason
set_reason_in (Ok runs) = None
set_reason_in (Err absent) = Some (reasons.NoDay absent.reason)

abbrev pub missing_in_set : Result (List Run) AbsentMember → Option MissingDate
missing_in_set (Ok runs) = None
missing_in_set (Err absent) = missing_day absent.extent absent.reason

-- one of the days that a date means is of the weekday that it names, and of the one that is given
abbrev pub is_on_weekday : Rules → TerritoryModel → Option Weekday → WrittenDate → Bool
is_on_weekday p t given w = list_any (has_weekday w given) (meaning p t w given)

-- whether one of the days that a date means is of the weekday that is named or given. It is None if
-- no weekday is, or the date is not that of one day
abbrev pub if_weekday : Rules → TerritoryModel → AnyDate → Option Weekday → Option Bool
if_weekday p t w given =
    if is_some w.weekday || is_some given then option_map (is_on_weekday p t given) (one_day w)
    else None

-- what is remarked of a date in a territory, which is read by the reckoning of another one
abbrev pub remarks_of : Rules → TerritoryModel → TerritoryModel → AnyDate → DateRemarks
remarks_of p t by w = record {
  read_as = words_of w ∷ [];
  reckoning = w.reckoning;
  weekday = w.weekday;
  has_year_of_three_digits = has_three_digits w.extent;
  is_not_counted_double = is_extent_not_counted_double p t by w.extent;
  ends_in_next_year = ends_in_next_year p by w.extent;
}

-- what is remarked of the dates of a set: how each was read
abbrev pub remarks_if_read_as : List (List ℕ) → DateRemarks
remarks_if_read_as words = record {
  read_as = words;
  reckoning = None;
  weekday = None;
  has_year_of_three_digits = false;
  is_not_counted_double = false;
  ends_in_next_year = false;
}
