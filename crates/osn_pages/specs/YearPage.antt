-- The page of a year as a territory counted it: its days and months in the order in which they were
-- lived, the changes that it has or that shorten it, the feasts that fell in it, and the figures of
-- the year from 1 January. This project's profile.
use Rattle.std.specs.Prelude.{ℕ, Bool, true, false, ◌&&◌, ◌||◌, ◌==◌, nat_lt, if◌then◌else◌, ◌-◌}
use Rattle.std.specs.Prelude.{ℤ, pos, int_le, List, [], ◌∷◌, ◌++◌, map, length}
use Rattle.std.specs.Prelude.{Option, Some, None, codes}
use Rattle.std.specs.Fmt.{decimal}
use Rattle.std.specs.List.{flat_map, list_any}
use Rattle.std.specs.Str.{bytes_eq}
use Rattle.osn_computus.specs.RuleWords.{rule_word}
use Rattle.osn_days.specs.declared.calendar.Calendar.TheVariants.{Gregorian}
use Rattle.osn_days.specs.CalendarWords.{calendar_word}
use Rattle.osn_days.specs.Chain.{date_of, days_with_date}
use Rattle.osn_days.specs.Rules.{Rules}
use Rattle.osn_territory.specs.declared.dating.DatedDay.{DatedDay}
use Rattle.osn_territory.specs.declared.period.Period.{Period}
use Rattle.osn_territory.specs.declared.regime.Regime.{Regime}
use Rattle.osn_territory.specs.Dating.{dated_on}
use Rattle.osn_territory.specs.Runs.{days_of_year}
use Rattle.osn_territory.specs.StyleWords.{beginning_of_year}
use Rattle.osn_territory.specs.Territory.{TerritoryModel, periods_of, regime_at}
use Rattle.osn_register.specs.Answer.{period_source, easter_source}
use Rattle.osn_register.specs.NamedTerritories.{named_of}
use Rattle.osn_register.specs.Plain.{EntryModel, sources_of}
use Rattle.osn_register.specs.Sources.{SourcesModel}
use Rattle.osn_pages.specs.declared.page.Publication.{Publication}
use Rattle.osn_pages.specs.Grid.{pieces_of, is_next}
use Rattle.osn_pages.specs.Heading.{heading, pending_line}
use Rattle.osn_pages.specs.Reading.{plain_day_line}
use Rattle.osn_pages.specs.Runs.{count_line}
use Rattle.osn_pages.specs.SourceLine.{source_text}
use Rattle.osn_pages.specs.Turn.{gap_words, turned_line}
use Rattle.osn_pages.specs.Words.{named_day, calendar_words, year_ends, empty_year_line}
use Rattle.osn_pages.specs.Words.{days_at_change}
use Rattle.osn_written.specs.declared.feast.Feast.{Feast}
use Rattle.osn_written.specs.declared.feast.Feast.TheVariants as feast
use Rattle.osn_pages.specs.declared.year_days.Part.{Part}
use Rattle.osn_pages.specs.declared.year_days.Part.TheVariants.{Run, Month}
use Rattle.osn_pages.specs.Almanac.{figures_lines}
use Rattle.osn_written.specs.declared.year_feasts.FeastDay.{FeastDay}
use Rattle.osn_written.specs.Feast.{feast_name}
use Rattle.osn_written.specs.YearFeasts.{feasts_of_year}

-- ---- days and months

-- the day is of the same run as the day before it, or of the same month
abbrev pub goes_on : Part → DatedDay → DatedDay → Bool
goes_on Run before after = is_next before after
goes_on Month before after =
    is_next before after && (before.label.month == after.label.month)

-- the last of a day and those after it
abbrev pub last_of : DatedDay → List DatedDay → DatedDay
last_of x [] = x
last_of x (next ∷ days) = last_of next days

-- the words that days begin or end with the line of days, so that the year may have had more
abbrev pub line_ends : Rules → ℕ → ℕ → List ℕ
line_ends p first last =
    (if first == 1 then codes "its first day is the first of the line of days\n" else [])
    ++ (if last == p.high then codes "its last day is the last of the line of days\n" else [])

-- the year 1731 ran there from .. to ..: 366 days
unfoldable pub run_line : Rules → ℕ → DatedDay → DatedDay → ℕ → List ℕ
run_line p year first last count =
    year_ends year first last
    ++ (codes ": " ++ (count_line count ++ line_ends p first.day last.day))

-- the days of a month as the territory named them, or the one day of it
abbrev pub named_days : DatedDay → DatedDay → List ℕ
named_days first last =
    if first.day == last.day then named_day first
    else named_day first ++ (codes " to " ++ named_day last)

-- the days of a month by the Gregorian calendar, or the one day of it
abbrev pub gregorian_days : ℕ → ℕ → List ℕ
gregorian_days first last =
    if first == last then calendar_words Gregorian first
    else calendar_words Gregorian first ++ (codes " to " ++ calendar_words Gregorian last)

-- Thursday 25 March 1731 to Wednesday 31 March 1731    5 April 1731 to 11 April 1731 Gregorian
-- 7 days
unfoldable pub month_line : DatedDay → DatedDay → ℕ → List ℕ
month_line first last count =
    named_days first last
    ++ (codes "    "
    ++ (gregorian_days first.day last.day ++ (codes " Gregorian    " ++ count_line count)))

-- the line of days that follow one another, by the first and the last of them
abbrev pub part_line : Rules → Part → ℕ → DatedDay → DatedDay → ℕ → List ℕ
part_line p Run year first last count = run_line p year first last count
part_line p Month year first last count = month_line first last count

abbrev pub piece_line : Rules → Part → ℕ → List DatedDay → List ℕ
piece_line p part year [] = []
piece_line p part year (first ∷ days) =
    part_line p part year first (last_of first days) (length (first ∷ days))

-- days cut into runs or months
unfoldable pub parts_of : Part → List DatedDay → List (List DatedDay)
parts_of part = pieces_of (goes_on part)

-- a line each
abbrev pub pieces_text : Rules → Part → ℕ → List DatedDay → List ℕ
pieces_text p part year days = flat_map (piece_line p part year) (parts_of part days)

-- the runs of the year's days and then its months, or that no day had the year
abbrev pub days_lines : Rules → ℕ → List DatedDay → List ℕ
days_lines p year [] = empty_year_line year
days_lines p year (day ∷ days) =
    pieces_text p Run year (day ∷ days) ++ pieces_text p Month year (day ∷ days)

-- ---- changes

-- the year is that of the day before or of the day of a change, or lies between them
abbrev pub is_between : ℤ → ℤ → ℤ → Bool
is_between before year after =
    (int_le before year && int_le year after) || (int_le after year && int_le year before)

abbrev pub year_on : Rules → TerritoryModel → ℕ → ℤ
year_on p t d = (dated_on p t d).label.year

-- the change is in the year, ends it or skips it
abbrev pub is_change_of : Rules → TerritoryModel → ℕ → ℕ → Bool
is_change_of p t year change =
    is_between (year_on p t (change - 1)) (pos year) (year_on p t change)

-- a part of the reckoning with its words before and from a change on, if it changed
abbrev pub turned_if_other : List ℕ → List ℕ → List ℕ → List ℕ
turned_if_other part old new = if bytes_eq old new then [] else turned_line part old new

-- which parts of the reckoning changed
unfoldable pub turned_lines : Regime → Regime → List ℕ
turned_lines old new =
    turned_if_other (codes "the calendar") (calendar_word old.calendar) (calendar_word new.calendar)
    ++ (turned_if_other (codes "the year's beginning") (beginning_of_year old.style)
    (beginning_of_year new.style)
    ++ turned_if_other (codes "the rule of Easter") (rule_word old.rule) (rule_word new.rule))

-- the day before a change and the day of the change, and how many dates were left out or came twice
unfoldable pub followed_line : Rules → TerritoryModel → ℕ → List ℕ
followed_line p t change =
    days_at_change (dated_on p t (change - 1)) (dated_on p t change)
    ++ (gap_words (days_with_date p (regime_at t (change - 1)).calendar
    (date_of (regime_at t change).calendar change)) change
    ++ codes "\n")

-- the lines of a change: its days, its source, and what changed
unfoldable pub change_lines : Rules → TerritoryModel → Option SourcesModel → ℕ → List ℕ
change_lines p t sources change =
    followed_line p t change
    ++ (source_text (period_source sources change)
    ++ turned_lines (regime_at t (change - 1)) (regime_at t change))

-- the lines of the change with which a period begins, if it is one of the year
abbrev pub change_lines_if : Rules → TerritoryModel → Option SourcesModel → ℕ → Period → List ℕ
change_lines_if p t sources year period =
    if nat_lt 1 period.first && is_change_of p t year period.first then
    change_lines p t sources period.first
    else []

abbrev pub changes_text : Rules → TerritoryModel → Option SourcesModel → ℕ → List ℕ
changes_text p t sources year =
    flat_map (change_lines_if p t sources year) (periods_of p t)

-- ---- feasts

-- the source of a listed Easter, after the line of Easter
abbrev pub feast_source : Option SourcesModel → ℕ → Feast → List ℕ
feast_source sources january_year feast.Easter = source_text (easter_source sources january_year)
feast_source sources january_year other = []

-- a feast on a day, and its source: Easter: Sunday 18 April 1731 ..
unfoldable pub feast_lines : Option SourcesModel → FeastDay → DatedDay → List ℕ
feast_lines sources f x =
    feast_name f.feast
    ++ (codes ": " ++ (plain_day_line x ++ feast_source sources f.january_year f.feast))

-- with the day as the territory dates it
abbrev pub feast_text : Rules → TerritoryModel → Option SourcesModel → FeastDay → List ℕ
feast_text p t sources f = feast_lines sources f (dated_on p t f.day)

abbrev pub is_easter : Feast → Bool
is_easter feast.Easter = true
is_easter other = false

-- one of these feasts is Easter
abbrev pub has_easter : List FeastDay → Bool
has_easter fs = list_any (λ f. is_easter f.feast) fs

abbrev pub no_easter_line : List FeastDay → List ℕ
no_easter_line fs = if has_easter fs then [] else codes "no Easter fell in that year\n"

abbrev pub feast_lines_of : Rules → TerritoryModel → Option SourcesModel → List FeastDay → List ℕ
feast_lines_of p t sources fs = flat_map (feast_text p t sources) fs ++ no_easter_line fs

-- the feasts that the territory dated in the year, and that no Easter was among them
abbrev pub feasts_text : Rules → TerritoryModel → Option SourcesModel → ℕ → List ℕ
feasts_text p t sources year = feast_lines_of p t sources (feasts_of_year p t year)

-- ---- figures

-- the heading of the figures: of the year 1731 counted from 1 January:
unfoldable pub figures_heading : ℕ → List ℕ
figures_heading year =
    codes "of the year " ++ (decimal year ++ codes " counted from 1 January:\n")

-- ---- the whole

-- the year 1731 in Great Britain (GB), edition 5
unfoldable pub year_heading : ℕ → List ℕ → List ℕ → ℕ → List ℕ
year_heading year name code edition =
    heading (codes "the year " ++ decimal year) name code edition

-- the lines of a territory's year, its days first, its figures as in the almanac
abbrev pub year_lines : Rules → TerritoryModel → Option SourcesModel → ℕ → List ℕ
year_lines p t sources year =
    days_lines p year (map (dated_on p t) (days_of_year p t (pos year)))
    ++ (changes_text p t sources year
    ++ (feasts_text p t sources year ++ (figures_heading year ++ figures_lines p year)))

abbrev pub year_page_of : Rules → Option (List ℕ × TerritoryModel) → Option SourcesModel
    → List ℕ → Publication → ℕ → List ℕ
year_page_of p None sources code published year = []
year_page_of p (Some named) sources code published year =
    year_heading year named.0 code published.edition
    ++ (year_lines p named.1 sources year ++ pending_line published.pending)

-- the text of the page. A code that no territory has is refused
abbrev pub year_page : Rules → List EntryModel → List ℕ → Publication → ℕ → List ℕ
year_page p territories code published year =
    year_page_of p (named_of code territories) (sources_of code territories) code published year
