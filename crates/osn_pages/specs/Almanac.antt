-- The almanac of a territory and year, line by line, each with its line feed: this project's
-- profile. No line ends with a space.
use Rattle.std.specs.Prelude.{ℕ, Bool, ◌&&◌, nat_lt, if◌then◌else◌, ℤ, pos, unsigned_abs, List, []}
use Rattle.std.specs.Prelude.{◌∷◌, ◌++◌, Option, Some, None, is_some, codes}
use Rattle.std.specs.Fmt.{decimal}
use Rattle.std.specs.List.{flat_map}
use Rattle.std.specs.Ordering.{int_eq}
use Rattle.osn_computus.specs.declared.letters.Letters.{Letters}
use Rattle.osn_computus.specs.Figures.{golden_number, indiction, julian_epact, gregorian_epact}
use Rattle.osn_computus.specs.FigureTexts.{epact_text, letters_text}
use Rattle.osn_computus.specs.Letters.{letters_of}
use Rattle.osn_computus.specs.RuleWords.{rule_word}
use Rattle.osn_days.specs.declared.calendar.Calendar.{Calendar}
use Rattle.osn_days.specs.declared.calendar.Calendar.TheVariants.{Gregorian, Julian}
use Rattle.osn_days.specs.CalendarWords.{calendar_word}
use Rattle.osn_days.specs.Chain.{date_of}
use Rattle.osn_days.specs.DateText.{text_of_date}
use Rattle.osn_days.specs.Month.{month_name}
use Rattle.osn_days.specs.Rules.{Rules}
use Rattle.osn_territory.specs.declared.period.Period.{Period}
use Rattle.osn_territory.specs.Dating.{dated_day, dated_on, dated_text}
use Rattle.osn_territory.specs.Easters.{easters}
use Rattle.osn_territory.specs.Exceptions.{exception_of}
use Rattle.osn_territory.specs.StyleWords.{style_word}
use Rattle.osn_territory.specs.Territory.{TerritoryModel, periods_of, reading}
use Rattle.osn_register.specs.declared.refusal.Refusal.{Refusal}
use Rattle.osn_register.specs.Answer.{period_source, easter_source}
use Rattle.osn_register.specs.QueryRefusal.{easter_refusal}
use Rattle.osn_register.specs.NamedTerritories.{named_of}
use Rattle.osn_register.specs.Plain.{EntryModel, sources_of}
use Rattle.osn_register.specs.Sources.{SourcesModel}
use Rattle.osn_pages.specs.SourceLine.{source_text}
use Rattle.osn_written.specs.declared.feast.Feast.{Feast}
use Rattle.osn_pages.specs.Columns.{day_columns, absent_line}
use Rattle.osn_written.specs.Feast.{feast_name, feast_day}
use Rattle.osn_written.specs.YearFeasts.{principal_feasts}

-- ---- the heading

unfoldable pub heading : List ℕ → List ℕ → ℕ → List ℕ
heading name code year =
    codes "Almanac of "
    ++ (name ++ (codes " (" ++ (code ++ (codes ") for " ++ (decimal year ++ codes "\n")))))

-- ---- the figures

abbrev pub letters_if : Option Letters → List ℕ
letters_if None = []
letters_if (Some letters) = letters_text letters

-- the Sunday letters of a year in a calendar, if it has any
abbrev pub letters_in : Rules → Calendar → ℕ → List ℕ
letters_in p calendar year = letters_if (letters_of p calendar year)

unfoldable pub cycles_line : ℕ → List ℕ
cycles_line year =
    codes "Golden number "
    ++ (decimal (golden_number year)
    ++ (codes ", indiction " ++ (decimal (indiction year) ++ codes "\n")))

unfoldable pub julian_line : Rules → ℕ → List ℕ
julian_line p year =
    codes "Julian epact "
    ++ (decimal (julian_epact year)
    ++ (codes ", Sunday letter " ++ (letters_in p Julian year ++ codes "\n")))

unfoldable pub gregorian_line : Rules → ℕ → List ℕ
gregorian_line p year =
    codes "Gregorian epact "
    ++ (epact_text (gregorian_epact year)
    ++ (codes ", Sunday letter " ++ (letters_in p Gregorian year ++ codes "\n")))

abbrev pub figures_lines : Rules → ℕ → List ℕ
figures_lines p year = cycles_line year ++ (julian_line p year ++ gregorian_line p year)

-- ---- the changes

-- the period begins with a change, on a day that has a Gregorian date in the year
abbrev pub is_change_in : ℕ → Period → Bool
is_change_in year period =
    nat_lt 1 period.first && int_eq (date_of Gregorian period.first).year (pos year)

-- the day as the new regime dates it, and how that regime reckons
unfoldable pub change_line : Rules → Period → List ℕ
change_line p period =
    codes "From "
    ++ (dated_text (dated_day p period.regime period.first)
    ++ (codes ", day "
    ++ (decimal period.first
    ++ (codes ": "
    ++ (calendar_word period.regime.calendar
    ++ (codes " calendar, "
    ++ (style_word period.regime.style
    ++ (codes " style, " ++ (rule_word period.regime.rule ++ codes " rule\n")))))))))

-- the line of a change and that of its source, if the change is one of the year
abbrev pub change_lines : Rules → Option SourcesModel → ℕ → Period → List ℕ
change_lines p sources year period =
    if is_change_in year period then
    change_line p period ++ source_text (period_source sources period.first)
    else []

abbrev pub changes_text : Rules → TerritoryModel → Option SourcesModel → ℕ → List ℕ
changes_text p t sources year = flat_map (change_lines p sources year) (periods_of p t)

-- ---- Easter and the feasts counted from it

-- whether there was an Easter and by what
abbrev pub easter_heading : TerritoryModel → ℕ → List ℕ → List ℕ
easter_heading t year [] =
    if is_some (exception_of t year) then codes "Easter listed\n" else codes "Easter never\n"
easter_heading t year (easter ∷ more) =
    if is_some (exception_of t year) then codes "Easter listed\n" else codes "Easter by rule\n"

-- a day that has a name, with its date in the territory
unfoldable pub dated_line : Rules → TerritoryModel → List ℕ → ℕ → List ℕ
dated_line p t name d = day_columns name d ++ (dated_text (dated_on p t d) ++ codes "\n")

abbrev pub feast_line_on : Rules → TerritoryModel → List ℕ → Option ℕ → List ℕ
feast_line_on p t name None = absent_line name (codes "off the line")
feast_line_on p t name (Some d) = dated_line p t name d

-- a feast of a year with that Easter, if its day is on the line
abbrev pub feast_line : Rules → TerritoryModel → ℕ → Feast → List ℕ
feast_line p t easter feast = feast_line_on p t (feast_name feast) (feast_day p easter feast)

abbrev pub feast_lines : Rules → TerritoryModel → ℕ → List ℕ
feast_lines p t easter = flat_map (feast_line p t easter) principal_feasts

abbrev pub easters_text : Rules → TerritoryModel → Option SourcesModel → ℕ → List ℕ
easters_text p t sources year =
    easter_heading t year (easters p t year)
    ++ (source_text (easter_source sources year)
    ++ flat_map (feast_lines p t) (easters p t year))

-- ---- the months

-- a day that is the first of a month, with its Gregorian date
unfoldable pub month_day_line : ℕ → ℕ → List ℕ
month_day_line month d =
    day_columns (month_name month) d ++ (text_of_date (date_of Gregorian d) ++ codes "\n")

-- a line for each of the days, if there are any
abbrev pub lines_of_month : ℕ → List ℕ → List ℕ
lines_of_month month [] = absent_line (month_name month) (codes "none")
lines_of_month month (d ∷ days) = flat_map (month_day_line month) (d ∷ days)

-- the month of the year as the territory counts it
abbrev pub month_lines : Rules → TerritoryModel → ℕ → ℕ → List ℕ
month_lines p t year month =
    lines_of_month month (reading p t (record { year = pos year; month = month; day = 1 }))

abbrev pub months : List ℕ
months = 1 ∷ 2 ∷ 3 ∷ 4 ∷ 5 ∷ 6 ∷ 7 ∷ 8 ∷ 9 ∷ 10 ∷ 11 ∷ 12 ∷ []

abbrev pub months_text : Rules → TerritoryModel → ℕ → List ℕ
months_text p t year = flat_map (month_lines p t year) months

-- ---- the whole

abbrev pub year_lines : Rules → TerritoryModel → Option SourcesModel → ℕ → List ℕ
year_lines p t sources year =
    figures_lines p year
    ++ (changes_text p t sources year ++ (easters_text p t sources year ++ months_text p t year))

abbrev pub almanac_of : Rules → Option (List ℕ × TerritoryModel) → Option SourcesModel → List ℕ
    → ℕ → List ℕ
almanac_of p None sources code year = []
almanac_of p (Some named) sources code year =
    heading named.0 code year ++ year_lines p named.1 sources year

-- the almanac of a year that is not refused
unfoldable pub almanac : Rules → List EntryModel → List ℕ → ℤ → List ℕ
almanac p territories code year =
    almanac_of p (named_of code territories) (sources_of code territories) code (unsigned_abs year)

-- why there is no almanac: what refuses a query of the territory's Easters
abbrev pub almanac_refusal : Rules → List EntryModel → List ℕ → ℤ → Option Refusal
almanac_refusal = easter_refusal
