-- The lines of a territory's periods and listed Easters, with their sources, and the page of all
-- territories. This project's profile.
use Rattle.std.specs.Prelude.{ℕ, List, ◌++◌, map, Option, codes}
use Rattle.std.specs.Fmt.{decimal}
use Rattle.std.specs.List.{flat_map}
use Rattle.osn_days.specs.Rules.{Rules}
use Rattle.osn_territory.specs.Dating.{dated_on}
use Rattle.osn_territory.specs.Territory.{TerritoryModel, periods_of}
use Rattle.osn_register.specs.declared.answer.Land.{Land}
use Rattle.osn_register.specs.Answer.{land_of, easter_source}
use Rattle.osn_register.specs.Plain.{EntryModel}
use Rattle.osn_register.specs.Sources.{SourcesModel}
use Rattle.osn_pages.specs.Heading.{pending_line}
use Rattle.osn_pages.specs.Periods.{period_lines}
use Rattle.osn_pages.specs.SourceLine.{source_text}
use Rattle.osn_pages.specs.Words.{numbered_day}

-- a year with a listed Easter: listed Easter of 1753: Sunday 22 April 1753 (day 640017)
unfoldable pub easter_line : Rules → TerritoryModel → ℕ × ℕ → List ℕ
easter_line p t listed =
    codes "listed Easter of "
    ++ (decimal listed.0 ++ (codes ": " ++ (numbered_day (dated_on p t listed.1) ++ codes "\n")))

-- the line of a listed Easter and that of its source
unfoldable pub easter_lines : Rules → TerritoryModel → Option SourcesModel → ℕ × ℕ → List ℕ
easter_lines p t sources listed =
    easter_line p t listed ++ source_text (easter_source sources listed.0)

-- the periods in order, and the listed Easters in the order of their years
unfoldable pub territory_lines : Rules → TerritoryModel → Option SourcesModel → List ℕ
territory_lines p t sources =
    flat_map (period_lines p sources) (periods_of p t)
    ++ flat_map (easter_lines p t sources) t.exceptions

-- the edition of the list
unfoldable pub list_heading : ℕ → List ℕ
list_heading edition = codes "Territories, edition " ++ (decimal edition ++ codes "\n")

-- a territory by its name and code
unfoldable pub list_line : Land → List ℕ
list_line territory = territory.name ++ (codes " (" ++ (territory.code ++ codes ")\n"))

-- the page of all territories, in the order of addition
unfoldable pub territories_page : List EntryModel → ℕ → ℕ → List ℕ
territories_page territories edition pending =
    list_heading edition ++ (flat_map list_line (map land_of territories) ++ pending_line pending)
