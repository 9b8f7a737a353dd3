-- The lines that say why a written date means no day. This project's profile.
use Rattle.std.specs.Prelude.{ℕ, Bool, ◌-◌, ◌==◌, if◌then◌else◌, List, [], ◌∷◌, ◌++◌, map, pos}
use Rattle.std.specs.Prelude.{Option, codes}
use Rattle.std.specs.List.{flat_map, list_any}
use Rattle.std.specs.Str.{bytes_eq}
use Rattle.osn_days.specs.Month.{month_name}
use Rattle.osn_days.specs.Rules.{Rules}
use Rattle.osn_territory.specs.declared.dating.DatedDay.{DatedDay}
use Rattle.osn_territory.specs.declared.style.Style.{Style}
use Rattle.osn_territory.specs.Dating.{dated_on}
use Rattle.osn_territory.specs.LabelOrder.{gaps}
use Rattle.osn_territory.specs.MonthDay.{has_month_day}
use Rattle.osn_territory.specs.Runs.{days_of_year}
use Rattle.osn_territory.specs.StyleWords.{style_word, beginning_of_year}
use Rattle.osn_territory.specs.Territory.{TerritoryModel, regime_at, reading}
use Rattle.osn_register.specs.Answer.{period_source}
use Rattle.osn_register.specs.Sources.{SourcesModel}
use Rattle.osn_written.specs.declared.absence.Absence.{Absence}
use Rattle.osn_written.specs.declared.absence.Absence.TheVariants as why
use Rattle.osn_written.specs.declared.written_date.WrittenDate.{WrittenDate}
use Rattle.osn_written.specs.Absence.{absence}
use Rattle.osn_written.specs.Meaning.{label_of}
use Rattle.osn_written.specs.Nearest.{nearest}
use Rattle.osn_pages.specs.SourceLine.{source_text}
use Rattle.osn_pages.specs.Turn.{turned_line}
use Rattle.osn_pages.specs.Words.{numbered_day, year_ends, empty_year_line, days_at_change}

-- ---- a line about a day

-- the day that the date means with its first year alone
unfoldable pub with_one_year_line : DatedDay → List ℕ
with_one_year_line x = codes "not with both years: " ++ (numbered_day x ++ codes "\n")

-- a day of the date's month and day in a nearest year
unfoldable pub nearest_line : DatedDay → List ℕ
nearest_line x = codes "nearest: " ++ (numbered_day x ++ codes "\n")

-- the lines of the nearest days
abbrev pub nearest_lines : Rules → TerritoryModel → WrittenDate → List ℕ
nearest_lines p t w = flat_map nearest_line (nearest p t w)

-- ---- off the line

-- the ends of the line, as the territory dated them
unfoldable pub line_ends : DatedDay → DatedDay → List ℕ
line_ends first last =
    codes "off the line of days: there it runs from "
    ++ (numbered_day first ++ (codes " to " ++ (numbered_day last ++ codes "\n")))

-- ---- a date of no calendar

-- the words on the greatest number of days of a month by the calendars of the territory, for a
-- month of fewer than 31 days
abbrev pub month_length : Rules → TerritoryModel → ℕ → List ℕ
month_length p t month =
    if month == 2 then
    (if list_any (λ s. has_month_day p s.1.calendar 2 30) t.starts then codes "has at most 30 days"
    else codes "has at most 29 days")
    else codes "has 30 days"

unfoldable pub not_of_calendar_line : Rules → TerritoryModel → ℕ → List ℕ
not_of_calendar_line p t month =
    codes "no date of its calendar: "
    ++ (month_name month ++ (codes " " ++ (month_length p t month ++ codes "\n")))

-- ---- a gap

-- the day before a change and the day of the change
unfoldable pub skip_line : DatedDay → DatedDay → List ℕ
skip_line before change = codes "skipped: " ++ (days_at_change before change ++ codes "\n")

-- the line that the year began on another date from the change on
abbrev pub beginning_line : Style → Style → List ℕ
beginning_line old new =
    turned_line (codes "the year's beginning") (beginning_of_year old) (beginning_of_year new)

-- the two styles are one
abbrev pub is_style : Style → Style → Bool
is_style a b = bytes_eq (style_word a) (style_word b)

-- the line that a change is one of the year's beginning, if it is, and the nearest days
unfoldable pub beginning_lines : Rules → TerritoryModel → WrittenDate → Style → Style → List ℕ
beginning_lines p t w old new =
    if is_style old new then [] else beginning_line old new ++ nearest_lines p t w

-- the lines of a change in whose gap the date lies
unfoldable pub skip_lines : Rules → TerritoryModel → Option SourcesModel → WrittenDate → ℕ
    → List ℕ
skip_lines p t sources w change =
    skip_line (dated_on p t (change - 1)) (dated_on p t change)
    ++ (source_text (period_source sources change)
    ++ beginning_lines p t w (regime_at t (change - 1)).style (regime_at t change).style)

-- ---- a year that lacks the date

-- the last of a day and those after it
abbrev pub last_day : ℕ → List ℕ → ℕ
last_day d [] = d
last_day d (next ∷ ds) = last_day next ds

-- from which day to which the year ran
unfoldable pub year_ends_line : ℕ → DatedDay → DatedDay → List ℕ
year_ends_line year first last =
    codes "no such date in that year: " ++ (year_ends year first last ++ codes "\n")

-- the line that the year had no day there
abbrev pub no_year_line : ℕ → List ℕ
no_year_line year = codes "no such date in that year: " ++ empty_year_line year

-- the line on these days of a year in the territory: from which to which it ran, or that it had no
-- day
abbrev pub year_line : Rules → TerritoryModel → ℕ → List ℕ → List ℕ
year_line p t year [] = no_year_line year
year_line p t year (d ∷ ds) = year_ends_line year (dated_on p t d) (dated_on p t (last_day d ds))

-- ---- the whole

-- the lines of a reason, in a territory whose changes have these sources
abbrev pub why_text : Rules → TerritoryModel → Option SourcesModel → WrittenDate → Absence
    → List ℕ
why_text p t sources w why.NotWithBothYears =
    flat_map with_one_year_line (map (dated_on p t) (reading p t (label_of w)))
why_text p t sources w why.NotOfItsCalendar = not_of_calendar_line p t w.month
why_text p t sources w why.OffTheLine = line_ends (dated_on p t 1) (dated_on p t p.high)
why_text p t sources w why.Skipped = flat_map (skip_lines p t sources w) (gaps p t (label_of w))
why_text p t sources w why.NotInThatYear =
    year_line p t w.year (days_of_year p t (pos w.year)) ++ nearest_lines p t w

-- why the date means no day
abbrev pub why_lines : Rules → TerritoryModel → Option SourcesModel → WrittenDate → List ℕ
why_lines p t sources w = why_text p t sources w (absence p t w)
