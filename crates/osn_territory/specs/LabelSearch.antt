-- How the days of a label are found period by period, and how many dates are tested for it.
use Rattle.std.specs.Prelude.{ℕ, ◌+◌, ◌-◌, ◌≤◌, ◌&&◌, ◌||◌, nat_le, nat_lt, ℤ, Bool, true}
use Rattle.std.specs.Prelude.{false, not, Option, Some, None, List, [], ◌∷◌, ◌++◌}
use Rattle.std.specs.Prelude.{filter, ◌≡◌, ◌⊎◌, ◌*◌, ◌+ℤ◌, ◌-ℤ◌, pos, length}
use Rattle.std.specs.Prelude.{IsSome, IsSomeAnd, IfSome}
use Rattle.std.specs.List.{range_with_len, list_any}
use Rattle.std.specs.Option.{option_to_list}
use Rattle.std.specs.Ordering.{int_eq}
use Rattle.osn_days.specs.Rules.{Rules, newest_rules}
use Rattle.osn_days.specs.declared.calendar.Calendar.{Calendar}
use Rattle.osn_days.specs.declared.date.Date.{Date}
use Rattle.osn_days.specs.Line.{line, IsDay}
use Rattle.osn_days.specs.Chain.{date_of, days_with_date}
use Rattle.osn_territory.specs.declared.regime.Regime.{Regime}
use Rattle.osn_territory.specs.declared.label.Label.{Label}
use Rattle.osn_territory.specs.declared.candidates.Candidates.{Candidates}
use Rattle.osn_territory.specs.declared.candidate_table.CandidateTable.{CandidateTable}
use Rattle.osn_territory.specs.declared.label_search.LabelSearch.{LabelSearch}
use Rattle.osn_territory.specs.declared.period.Period.{Period}
use Rattle.osn_territory.specs.Style.{year_by, is_from_easter}
use Rattle.osn_territory.specs.Label.{local_label, same_label, days_with_label}
use Rattle.osn_territory.specs.LabelOrder.{is_dated_before_easter}
use Rattle.osn_territory.specs.Territory.{TerritoryModel, is_empty, periods_of}
use Rattle.osn_days.specs.declared.calendar.Calendar.TheVariants as calendars
use Rattle.osn_territory.specs.PeriodList.{is_held}

-- the style's year of a date under a regime, whether a day has the date or not
abbrev pub year_in : Rules → Regime → Date → ℤ
year_in p r date = year_by r.style date (is_dated_before_easter p r.calendar date)

-- the day has the label under the regime
abbrev pub has_label : Rules → Label → Regime → ℕ → Bool
has_label p label r d = same_label (local_label p r d) label

-- the days of a period that have the label under its regime
abbrev pub days_read : Rules → Label → Period → List ℕ
days_read p label q =
    filter (has_label p label q.regime) (range_with_len q.first (q.last + 1 - q.first))

-- the days that have the label, of those whose date is in the year counted from 1 January
unfoldable pub days_in_year : Rules → Regime → Label → ℤ → List ℕ
days_in_year p r label y =
    filter (λ d. int_eq (date_of r.calendar d).year y && has_label p label r d) (line p)

-- the date of the label's month and day in a year counted from 1 January
abbrev pub date_in : ℤ → Label → Date
date_in y l = record { year = y; month = l.month; day = l.day }

-- these are the days of a calendar with the label's month and day, in the year before the label's,
-- in that year and in the one after
abbrev pub AreInYears : Rules → Calendar → Label → Candidates → Type 0
AreInYears p c l f =
    (option_to_list f.before ≡ days_with_date p c (date_in (l.year -ℤ pos 1) l))
    × (option_to_list f.same ≡ days_with_date p c (date_in l.year l))
    × (option_to_list f.after ≡ days_with_date p c (date_in (l.year +ℤ pos 1) l))

-- the days that were found for a label, in order
abbrev pub days_found : Candidates → List ℕ
days_found f = option_to_list f.before ++ (option_to_list f.same ++ option_to_list f.after)

-- no day was found, or no search was made
abbrev pub are_none_in : Option Candidates → Bool
are_none_in None = true
are_none_in (Some f) = is_empty (days_found f)

-- there are three, from the first day to the last
abbrev pub AreAllWithin : ℕ → ℕ → Candidates → Type 0
AreAllWithin first last f =
    IsSomeAnd f.before (λ d. first ≤ d) × IsSome f.same × IsSomeAnd f.after (λ d. d ≤ last)

-- the days of one calendar, if the table has it
abbrev pub years_of : CandidateTable → Calendar → Option Candidates
years_of t calendars.Julian = t.julian
years_of t calendars.Gregorian = t.gregorian
years_of t calendars.Swedish = t.swedish

-- the table has those days of each calendar that it has
abbrev pub IsTable : Rules → Label → CandidateTable → Type 0
IsTable p l t = (c : Calendar) → IfSome (years_of t c) (AreInYears p c l)

-- the days of the regime can be found: there is no table, or one that has the regime's calendar
abbrev pub IsKnown : Option CandidateTable → Regime → Type 0
IsKnown None r = Unit {0}
IsKnown (Some t) r = IsSome (years_of t r.calendar)

-- the days of the regimes of all periods can be found
abbrev pub AreKnown : Option CandidateTable → List Period → Type 0
AreKnown table [] = Unit {0}
AreKnown table (q ∷ qs) = IsKnown table q.regime × AreKnown table qs

-- every day that some known regime dates with the label is from the first to the last
abbrev pub AreBetween : Rules → Label → Option CandidateTable → ℕ → ℕ → Type 0
AreBetween p l table first last =
    (r : Regime) (d : ℕ) → IsKnown table r → IsDay p d → has_label p l r d ≡ true →
    (first ≤ d) × (d ≤ last)

-- every known regime whose year begins on a fixed date has the label on a day, or no known regime
-- has, or the first and the last are the line's
abbrev pub AllOrNone : Rules → Label → Option CandidateTable → ℕ → ℕ → Type 0
AllOrNone p l table first last =
    ((r : Regime) → IsKnown table r → is_from_easter r.style ≡ false →
    is_empty (days_with_label p r l) ≡ false)
    ⊎ (((r : Regime) → IsKnown table r → is_empty (days_with_label p r l) ≡ true)
    ⊎ ((first ≡ 1) × (last ≡ p.high)))

-- if there is a table, it is that of the label
abbrev pub IsTableIn : Rules → Label → Option CandidateTable → Type 0
IsTableIn p l None = Unit {0}
IsTableIn p l (Some t) = IsTable p l t

-- what a search knows of its label
abbrev pub IsSearch : Rules → LabelSearch → Type 0
IsSearch p s =
    IsTableIn p s.label s.table × AreBetween p s.label s.table s.first s.last
    × AllOrNone p s.label s.table s.first s.last

-- without a table there is one period at most
abbrev pub IsForFew : Option CandidateTable → ℕ → Type 0
IsForFew None periods = periods ≤ 1
IsForFew (Some t) periods = Unit {0}

-- what a search in a territory knows: all of its regimes, by a table unless there is one period
abbrev pub IsSearchIn : TerritoryModel → LabelSearch → Type 0
IsSearchIn t s =
    IsSearch newest_rules s × AreKnown s.table (periods_of newest_rules t)
    × IsForFew s.table (length (periods_of newest_rules t))

-- how many dates are tested at most for one regime, and for the first of all periods: those of a
-- table were tested to begin with
abbrev pub most_for_one : Option CandidateTable → ℕ
most_for_one None = 3
most_for_one (Some t) = 0

abbrev pub most_tested : Option CandidateTable → ℕ → ℕ → ℕ
most_tested None periods first = 3 * first
most_tested (Some t) periods first = 3 * periods

abbrev pub is_calendar : Calendar → Calendar → Bool
is_calendar calendars.Julian calendars.Julian = true
is_calendar calendars.Julian calendars.Gregorian = false
is_calendar calendars.Julian calendars.Swedish = false
is_calendar calendars.Gregorian calendars.Julian = false
is_calendar calendars.Gregorian calendars.Gregorian = true
is_calendar calendars.Gregorian calendars.Swedish = false
is_calendar calendars.Swedish calendars.Julian = false
is_calendar calendars.Swedish calendars.Gregorian = false
is_calendar calendars.Swedish calendars.Swedish = true

-- the period uses the calendar, and some period does
abbrev pub goes_by : Calendar → Period → Bool
goes_by c q = is_calendar q.regime.calendar c

abbrev pub is_used : Calendar → List Period → Bool
is_used c qs = list_any (goes_by c) qs

-- three dates, if they are tested
abbrev pub three_if : Bool → ℕ
three_if true = 3
three_if false = 0

-- the label is skipped at the change, if the two regimes have it on these days. The fourth
-- condition tests only the days of each regime in its own period
abbrev pub is_skipped_by_days : Period → Period → List ℕ → List ℕ → Bool
is_skipped_by_days old new old_days new_days =
    (list_any (λ d. nat_le new.first d) old_days || is_empty old_days)
    && ((list_any (λ d. nat_lt d new.first) new_days || is_empty new_days)
    && (not (is_empty old_days && is_empty new_days)
    && not (list_any (is_held old) old_days || list_any (is_held new) new_days)))
