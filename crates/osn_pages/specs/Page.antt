-- The pages: which there are, the text of each, and why a page is refused.
use Rattle.std.specs.Prelude.{ℕ, ⊤, pos, List, [], ◌++◌, map, Option, Some, None, codes}
use Rattle.std.specs.Fmt.{decimal}
use Rattle.std.specs.List.{flat_map}
use Rattle.std.specs.Option.{option_to_list}
use Rattle.osn_days.specs.declared.weekday.Weekday.{Weekday}
use Rattle.osn_days.specs.Rules.{Rules}
use Rattle.osn_territory.specs.Dating.{dated_on}
use Rattle.osn_territory.specs.Runs.{days_of_month}
use Rattle.osn_territory.specs.Territory.{TerritoryModel, periods_of}
use Rattle.osn_register.specs.Answer.{period_on}
use Rattle.osn_register.specs.NamedTerritories.{named_of}
use Rattle.osn_register.specs.Plain.{EntryModel, sources_of}
use Rattle.osn_register.specs.Sources.{SourcesModel}
use Rattle.osn_pages.specs.declared.page.Page.{Page}
use Rattle.osn_pages.specs.declared.page.Page.TheVariants as pages
use Rattle.osn_pages.specs.declared.page.Publication.{Publication}
use Rattle.osn_pages.specs.DateLines.{date_lines}
use Rattle.osn_pages.specs.Grid.{grids}
use Rattle.osn_pages.specs.Heading.{territory_heading, heading, pending_line}
use Rattle.osn_pages.specs.Law.{ArePeriodsAnswered}
use Rattle.osn_pages.specs.Periods.{period_lines}
use Rattle.osn_pages.specs.Reading.{day_line, verdict}
use Rattle.osn_pages.specs.Remarks.{remark_lines, subject}
use Rattle.osn_pages.specs.Territory.{territory_lines}

-- ---- what a page says of a territory

-- a day as the territory dated it, with the remark on the weekday that its date names, if any; and
-- the period that holds it
abbrev pub day_lines : Rules → TerritoryModel → Option SourcesModel → ℕ → Option Weekday → List ℕ
day_lines p t sources d weekday =
    day_line (verdict weekday None d) (dated_on p t d)
    ++ flat_map (period_lines p sources) (option_to_list (period_on (periods_of p t) d))

-- a month as the territory dated it
abbrev pub month_lines : Rules → TerritoryModel → ℕ → ℕ → List ℕ
month_lines p t year month = grids (map (dated_on p t) (days_of_month p t (pos year) month))

-- the lines of a page, its heading first
unfoldable pub page_lines : Rules → List ℕ → TerritoryModel → Option SourcesModel → List ℕ → ℕ
    → Page → List ℕ
page_lines p name t sources code edition (pages.Reading date given) =
    heading (subject date) name code edition
    ++ (date_lines p t sources date given ++ remark_lines p name t date given)
page_lines p name t sources code edition (pages.OfDay day weekday) =
    heading (codes "day " ++ decimal day) name code edition ++ day_lines p t sources day weekday
page_lines p name t sources code edition (pages.Month year month) =
    territory_heading name code edition ++ month_lines p t year month
page_lines p name t sources code edition pages.Periods =
    territory_heading name code edition ++ territory_lines p t sources

-- ---- the whole

-- the lines, of the name, the territory and the sources of the code, and how many edits wait
abbrev pub page_of_territory : Rules → Option (List ℕ × TerritoryModel) → Option SourcesModel
    → List ℕ → Publication → Page → List ℕ
page_of_territory p None sources code published page = []
page_of_territory p (Some named) sources code published page =
    page_lines p named.0 named.1 sources code published.edition page
    ++ pending_line published.pending

-- the text of a page. A code that no territory has is refused
abbrev pub page_text : Rules → List EntryModel → List ℕ → Publication → Page → List ℕ
page_text p territories code published page =
    page_of_territory p (named_of code territories) (sources_of code territories) code published
    page

-- as a law: the periods that the page of a territory lists are those that hold its days
abbrev pub AnswersPeriods : Rules → List EntryModel → List ℕ → Page → Type 0
AnswersPeriods p territories code (pages.Reading date given) = ⊤
AnswersPeriods p territories code (pages.OfDay day weekday) = ⊤
AnswersPeriods p territories code (pages.Month year month) = ⊤
AnswersPeriods p territories code pages.Periods = ArePeriodsAnswered p territories code
