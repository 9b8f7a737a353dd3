-- What the register answers to a query: this project's profile.
use Rattle.std.specs.Prelude.{ℕ, Bool, true, false, ◌&&◌, if◌then◌else◌, nat_le, ℤ}
use Rattle.std.specs.Prelude.{nat_lt, ◌-◌}
use Rattle.std.specs.Prelude.{unsigned_abs, List, [], ◌∷◌, map, find, Option, Some, None, is_some}
use Rattle.std.specs.Prelude.{option_and_then}
use Rattle.std.specs.List.{flat_map}
use Rattle.osn_days.specs.Rules.{Rules}
use Rattle.osn_days.specs.declared.calendar.Calendar.{Calendar}
use Rattle.osn_days.specs.declared.calendar.Calendar.TheVariants as calendar
use Rattle.osn_days.specs.declared.date.Date.{Date}
use Rattle.osn_days.specs.declared.weekday.Weekday.{Weekday}
use Rattle.osn_days.specs.Chain.{date_of, days_with_date}
use Rattle.osn_computus.specs.declared.rule.Rule.TheVariants as rule
use Rattle.osn_computus.specs.declared.letters.Letters.{Letters}
use Rattle.osn_computus.specs.Figures.{golden_number, indiction, julian_epact, gregorian_epact}
use Rattle.osn_computus.specs.Letters.{letters_of}
use Rattle.osn_computus.specs.Easter.{easter_of}
use Rattle.osn_territory.specs.declared.regime.Regime.{Regime}
use Rattle.osn_territory.specs.declared.label.Label.{Label}
use Rattle.osn_territory.specs.Label.{local_label}
use Rattle.osn_territory.specs.Dual.{dual_text}
use Rattle.osn_territory.specs.declared.period.Period.{Period}
use Rattle.osn_territory.specs.declared.runs.Run.{Run}
use Rattle.osn_territory.specs.Territory.{TerritoryModel, regime_at, periods_of, reading, skipped}
use Rattle.osn_territory.specs.Exceptions.{exception_of}
use Rattle.osn_territory.specs.Easters.{easters}
use Rattle.osn_written.specs.declared.any_date.AnyDate.{AnyDate}
use Rattle.osn_written.specs.declared.date_reading.DateReading.{DateReading}
use Rattle.osn_written.specs.declared.date_reading.DateReading.TheVariants as readings
use Rattle.osn_written.specs.declared.kind.Kind.TheVariants as kinds
use Rattle.osn_written.specs.declared.missing_date.MissingDate.{MissingDate}
use Rattle.osn_written.specs.declared.written_date.DateFault.{DateFault}
use Rattle.osn_written.specs.declared.year_feasts.FeastDay.{FeastDay}
use Rattle.osn_written.specs.DateInWords.{words_of}
use Rattle.osn_written.specs.Finding.{extent_meant, with_reckoning, is_by_other_calendar}
use Rattle.osn_written.specs.Kind.{kind_of}
use Rattle.osn_written.specs.MissingDate.{days_like, changes_over, year_without}
use Rattle.osn_written.specs.YearFeasts.{feasts_of_year}
use Rattle.osn_written.specs.SetsMeant.{set_meant, is_set_approximate, is_set_uncertain}
use Rattle.osn_register.specs.declared.query.Query.{Query}
use Rattle.osn_register.specs.declared.query.Query.TheVariants as queries
use Rattle.osn_register.specs.declared.answer.Answer.{Answer}
use Rattle.osn_register.specs.declared.answer.Answer.TheVariants.{Reading, OnDay, Easters, Figures}
use Rattle.osn_register.specs.declared.answer.Answer.TheVariants.{Lands, Periods, Exceptions}
use Rattle.osn_register.specs.declared.answer.Answer.TheVariants.{Changes, Feasts, Converted}
use Rattle.osn_register.specs.declared.answer.Answer.TheVariants.{Written, Refused}
use Rattle.osn_register.specs.declared.answer.Exception.{Exception}
use Rattle.osn_register.specs.declared.answer.Found.{Found}
use Rattle.osn_register.specs.declared.answer.FoundChange.{FoundChange}
use Rattle.osn_register.specs.declared.answer.FoundFeast.{FoundFeast}
use Rattle.osn_register.specs.declared.answer.FoundRun.{FoundRun}
use Rattle.osn_register.specs.declared.answer.Land.{Land}
use Rattle.osn_register.specs.declared.answer.PeriodAndSource.{PeriodAndSource}
use Rattle.osn_register.specs.declared.answer.Reason.TheVariants as reasons
use Rattle.osn_register.specs.declared.answer.WrittenAnswer.{WrittenAnswer}
use Rattle.osn_register.specs.declared.remarks.NearDays.{NearDays}
use Rattle.osn_register.specs.declared.refusal.Refusal.{Refusal}
use Rattle.osn_register.specs.declared.refusal.Refusal.TheVariants.{UnknownLand, DayOffLine}
use Rattle.osn_register.specs.declared.refusal.Refusal.TheVariants.{YearOffRange}
use Rattle.osn_register.specs.QueryRefusal.{read_refusal, day_refusal, year_refusal, easter_refusal}
use Rattle.osn_register.specs.Remarks.{runs_in, reason_in, set_runs_in, set_reason_in, if_weekday}
use Rattle.osn_register.specs.Remarks.{remarks_of, remarks_if_read_as, missing_in, missing_in_set}
use Rattle.osn_register.specs.Plain.{EntryModel, territory_of, sources_of, code_refusal}
use Rattle.osn_register.specs.Sources.{SourcesModel, source_of}

-- a day as a regime names it
abbrev pub found_under : Rules → Regime → ℕ → Found
found_under p r d = record { day = d; label = local_label p r d; dual = dual_text p r d }

-- a day as the territory names it, by the regime in force on it
abbrev pub found_on : Rules → TerritoryModel → ℕ → Found
found_on p t d = found_under p (regime_at t d) d

abbrev pub label_from : ℤ → ℤ → ℤ → Label
label_from year month day =
    record { year = year; month = unsigned_abs month; day = unsigned_abs day }

abbrev pub reading_answer : Rules → Option TerritoryModel → Label → Answer
reading_answer p None label = Refused UnknownLand
reading_answer p (Some t) label = Reading (map (found_on p t) (reading p t label))
    (skipped p t label)

abbrev pub holds : ℕ → Period → Bool
holds d period = nat_le period.first d && nat_le d period.last

-- the period that holds a day
abbrev pub period_on : List Period → ℕ → Option Period
period_on periods d = find (holds d) periods

-- the source of the period that starts on a day
abbrev pub period_source : Option SourcesModel → ℕ → Option (List ℕ)
period_source sources d = option_and_then (λ s. source_of d s.periods) sources

-- the source of the listed Easter of a year
abbrev pub easter_source : Option SourcesModel → ℕ → Option (List ℕ)
easter_source sources y = option_and_then (λ s. source_of y s.easters) sources

abbrev pub and_source : Option SourcesModel → Period → PeriodAndSource
and_source sources period =
    record { period = period; source = period_source sources period.first }

abbrev pub on_day : Option SourcesModel → Option Period → Found → Answer
on_day sources None found = Refused DayOffLine
on_day sources (Some period) found = OnDay found (and_source sources period)

abbrev pub day_answer : Rules → Option TerritoryModel → Option SourcesModel → ℕ → Answer
day_answer p None sources d = Refused UnknownLand
day_answer p (Some t) sources d =
    on_day sources (period_on (periods_of p t) d) (found_on p t d)

-- the Easters of a year, whether they are listed, and the source of that
abbrev pub easters_answer : Rules → Option TerritoryModel → Option SourcesModel → ℕ → Answer
easters_answer p None sources y = Refused UnknownLand
easters_answer p (Some t) sources y =
    Easters (map (found_on p t) (easters p t y)) (is_some (exception_of t y))
    (easter_source sources y)

-- the figures of a year with its letters and its Easters. Each year that has figures has both
abbrev pub figures_with : ℕ → Option Letters → Option Letters → Option ℕ → Option ℕ → Answer
figures_with y None gregorian julian_easter gregorian_easter = Refused YearOffRange
figures_with y (Some julian) None julian_easter gregorian_easter = Refused YearOffRange
figures_with y (Some julian) (Some gregorian) None gregorian_easter = Refused YearOffRange
figures_with y (Some julian) (Some gregorian) (Some julian_easter) None = Refused YearOffRange
figures_with y (Some julian) (Some gregorian) (Some julian_easter) (Some gregorian_easter) =
    Figures y (golden_number y) (indiction y) (julian_epact y) (gregorian_epact y)
    julian gregorian julian_easter gregorian_easter

-- the figures of a year
abbrev pub figures_of : Rules → ℕ → Answer
figures_of p y = figures_with y
    (letters_of p calendar.Julian y) (letters_of p calendar.Gregorian y)
    (easter_of p rule.Julian y) (easter_of p rule.Gregorian y)

abbrev pub periods_answer : Rules → Option TerritoryModel → Option SourcesModel → Answer
periods_answer p None sources = Refused UnknownLand
periods_answer p (Some t) sources = Periods (map (and_source sources) (periods_of p t))

-- a year with a listed Easter: the day as the territory names it, and the source
abbrev pub exception_on : Rules → TerritoryModel → Option SourcesModel → ℕ × ℕ → Exception
exception_on p t sources listed = record {
  year = listed.0;
  found = found_on p t listed.1;
  source = easter_source sources listed.0;
}

abbrev pub exceptions_answer : Rules → Option TerritoryModel → Option SourcesModel → Answer
exceptions_answer p None sources = Refused UnknownLand
exceptions_answer p (Some t) sources = Exceptions (map (exception_on p t sources) t.exceptions)

-- How many dates a change leaves out. By the calendar before, the date of its first day is that of
-- a later day: the dates of the days up to that one are left out. It is None if no day has the
-- date.
abbrev pub left_out : List ℕ → ℕ → Option ℕ
left_out [] first = None
left_out (same ∷ others) first = Some (same - first)

-- how many dates come twice: those of an earlier day with the same date, and of the days after it
abbrev pub twice : List ℕ → ℕ → Option ℕ
twice [] first = None
twice (same ∷ others) first = Some (first - same)

-- the days that have, by the calendar before a change, the date of its first day
abbrev pub same_date : Rules → Regime → Regime → ℕ → List ℕ
same_date p before after first =
    days_with_date p before.calendar (date_of after.calendar first)

-- the change on a day
abbrev pub change_on : Rules → TerritoryModel → Option SourcesModel → ℕ → FoundChange
change_on p t sources first = record {
  before = found_on p t (first - 1);
  found = found_on p t first;
  left_out = left_out (same_date p (regime_at t (first - 1)) (regime_at t first) first) first;
  twice = twice (same_date p (regime_at t (first - 1)) (regime_at t first) first) first;
  regime_before = regime_at t (first - 1);
  regime = regime_at t first;
  source = period_source sources first;
}

-- the change with which a period begins, or none for the opening period, which begins on day 1
abbrev pub change_if : Rules → TerritoryModel → Option SourcesModel → Period → List FoundChange
change_if p t sources period =
    if nat_lt 1 period.first then change_on p t sources period.first ∷ [] else []

abbrev pub changes_answer : Rules → Option TerritoryModel → Option SourcesModel → Answer
changes_answer p None sources = Refused UnknownLand
changes_answer p (Some t) sources = Changes (flat_map (change_if p t sources) (periods_of p t))

-- a feast with its day as the territory names it
abbrev pub found_feast : Rules → TerritoryModel → FeastDay → FoundFeast
found_feast p t f =
    record { feast = f.feast; year = f.january_year; found = found_on p t f.day }

-- the principal feasts that the territory dated in a year
abbrev pub feasts_answer : Rules → Option TerritoryModel → ℕ → Answer
feasts_answer p None y = Refused UnknownLand
feasts_answer p (Some t) y = Feasts (map (found_feast p t) (feasts_of_year p t y))

-- the date of a label whose year is counted from 1 January
abbrev pub date_of_label : Label → Date
date_of_label label = record { year = label.year; month = label.month; day = label.day }

-- the day that has a date by a calendar, as the territory names it, if the line has one
abbrev pub converted_answer : Rules → Option TerritoryModel → Calendar → Label → Answer
converted_answer p None calendar label = Refused UnknownLand
converted_answer p (Some t) calendar label =
    Converted (map (found_on p t) (days_with_date p calendar (date_of_label label)))

-- ---- a date as it is written

-- days that follow one another, by the first and the last of them
abbrev pub found_run : Rules → TerritoryModel → Run → FoundRun
found_run p t run = record { first = found_on p t run.first; last = found_on p t run.last }

-- what is near a date that no day has, each day as the territory names it
abbrev pub near_missing : Rules → TerritoryModel → TerritoryModel → MissingDate → NearDays
near_missing p t by missing = record {
  days = map (found_on p t) (days_like p by missing);
  changes = changes_over p by missing;
  year = map (found_run p t) (year_without p by missing);
}

abbrev pub near : Rules → TerritoryModel → TerritoryModel → Option MissingDate → NearDays
near p t by None = record { days = []; changes = []; year = [] }
near p t by (Some missing) = near_missing p t by missing

-- what a date means in a territory: the days by the calendar that it names, each as the territory
-- names it
abbrev pub date_answer : Rules → TerritoryModel → AnyDate → Option Weekday → WrittenAnswer
date_answer p t w given = record {
  kind = Some (kind_of w.extent);
  is_approximate = w.is_approximate;
  is_uncertain = w.is_uncertain;
  is_supplied = w.is_supplied;
  is_by_other_calendar = is_by_other_calendar p t w;
  reason = reason_in (extent_meant p (with_reckoning t w.reckoning) w.extent);
  runs = map (found_run p t) (runs_in (extent_meant p (with_reckoning t w.reckoning) w.extent));
  is_on_weekday = if_weekday p (with_reckoning t w.reckoning) w given;
  remarks = remarks_of p t (with_reckoning t w.reckoning) w;
  near = near p t (with_reckoning t w.reckoning)
      (missing_in w.extent (extent_meant p (with_reckoning t w.reckoning) w.extent));
}

-- the answer if no date is read, with the reason
abbrev pub no_date : DateFault → WrittenAnswer
no_date fault = record {
  kind = None;
  is_approximate = false;
  is_uncertain = false;
  is_supplied = false;
  is_by_other_calendar = false;
  reason = Some (reasons.NotRead fault);
  runs = [];
  is_on_weekday = None;
  remarks = remarks_if_read_as [];
  near = record { days = []; changes = []; year = [] };
}

-- what a set of dates means in a territory. It is not one day, so no weekday is compared
abbrev pub set_answer : Rules → TerritoryModel → List AnyDate → WrittenAnswer
set_answer p t ws = record {
  kind = Some kinds.Set;
  is_approximate = is_set_approximate ws;
  is_uncertain = is_set_uncertain ws;
  is_supplied = false;
  is_by_other_calendar = false;
  reason = set_reason_in (set_meant p t ws);
  runs = map (found_run p t) (set_runs_in (set_meant p t ws));
  is_on_weekday = None;
  remarks = remarks_if_read_as (map words_of ws);
  near = near p t t (missing_in_set (set_meant p t ws));
}

-- the answer about a date that was read
abbrev pub date_reading_answer : Rules → TerritoryModel → DateReading → Option Weekday
    → WrittenAnswer
date_reading_answer p t (readings.Date w) given = date_answer p t w given
date_reading_answer p t (readings.Set ws) given = set_answer p t ws
date_reading_answer p t (readings.Fault fault) given = no_date fault

abbrev pub written_answer : Rules → Option TerritoryModel → DateReading → Option Weekday → Answer
written_answer p None date given = Refused UnknownLand
written_answer p (Some t) date given = Written (date_reading_answer p t date given)

-- ---- each query

abbrev pub unless : Option Refusal → Answer → Answer
unless None answer = answer
unless (Some f) answer = Refused f

abbrev pub land_of : EntryModel → Land
land_of l = record { code = l.code; name = l.name }

abbrev pub read_answer : Rules → List EntryModel → List ℕ → ℤ → ℤ → ℤ → Answer
read_answer p territories code year month day =
    unless (read_refusal p territories code year month day)
    (reading_answer p (territory_of code territories) (label_from year month day))

abbrev pub day_in_answer : Rules → List EntryModel → List ℕ → ℤ → Answer
day_in_answer p territories code day =
    unless (day_refusal p territories code day)
    (day_answer p (territory_of code territories) (sources_of code territories) (unsigned_abs day))

abbrev pub easter_answer : Rules → List EntryModel → List ℕ → ℤ → Answer
easter_answer p territories code year =
    unless (easter_refusal p territories code year)
    (easters_answer p (territory_of code territories) (sources_of code territories)
    (unsigned_abs year))

abbrev pub figures_answer : Rules → ℤ → Answer
figures_answer p year = unless (year_refusal p year) (figures_of p (unsigned_abs year))

abbrev pub periods_in_answer : Rules → List EntryModel → List ℕ → Answer
periods_in_answer p territories code =
    unless (code_refusal territories code)
    (periods_answer p (territory_of code territories) (sources_of code territories))

abbrev pub exceptions_in_answer : Rules → List EntryModel → List ℕ → Answer
exceptions_in_answer p territories code =
    unless (code_refusal territories code)
    (exceptions_answer p (territory_of code territories) (sources_of code territories))

abbrev pub changes_in_answer : Rules → List EntryModel → List ℕ → Answer
changes_in_answer p territories code =
    unless (code_refusal territories code)
    (changes_answer p (territory_of code territories) (sources_of code territories))

abbrev pub feasts_in_answer : Rules → List EntryModel → List ℕ → ℤ → Answer
feasts_in_answer p territories code year =
    unless (easter_refusal p territories code year)
    (feasts_answer p (territory_of code territories) (unsigned_abs year))

abbrev pub convert_in_answer : Rules → List EntryModel → List ℕ → Calendar → ℤ → ℤ → ℤ → Answer
convert_in_answer p territories code calendar year month day =
    unless (read_refusal p territories code year month day)
    (converted_answer p (territory_of code territories) calendar (label_from year month day))

abbrev pub written_in_answer : Rules → List EntryModel → List ℕ → DateReading → Option Weekday
    → Answer
written_in_answer p territories code date given =
    unless (code_refusal territories code)
    (written_answer p (territory_of code territories) date given)

-- the answer to a query
abbrev pub answer : Rules → List EntryModel → Query → Answer
answer p territories (queries.Read code year month day) =
    read_answer p territories code year month day
answer p territories (queries.DayIn code day) = day_in_answer p territories code day
answer p territories (queries.Easter code year) = easter_answer p territories code year
answer p territories (queries.YearFigures year) = figures_answer p year
answer p territories queries.Lands = Lands (map land_of territories)
answer p territories (queries.Periods code) = periods_in_answer p territories code
answer p territories (queries.Exceptions code) = exceptions_in_answer p territories code
answer p territories (queries.Changes code) = changes_in_answer p territories code
answer p territories (queries.Feasts code year) = feasts_in_answer p territories code year
answer p territories (queries.Convert code calendar year month day) =
    convert_in_answer p territories code calendar year month day
answer p territories (queries.Written code text date weekday) =
    written_in_answer p territories code date weekday

-- the refusal that an answer is, if it is one
abbrev pub refusal_in : Answer → Option Refusal
refusal_in (Refused f) = Some f
refusal_in answer = None

-- whether an answer takes memory: a refusal, the figures of a year and an empty list of territories
-- take none
abbrev pub takes_memory : Answer → Bool
takes_memory (Refused f) = false
takes_memory (Figures y golden cycle julian gregorian letters others easter other) = false
takes_memory (Lands []) = false
takes_memory answer = true
