-- The page of a set of dates, of which one is meant. This project's profile.
use Rattle.std.specs.Prelude.{ℕ, Bool, false, List, [], ◌++◌, Option, Some, None, Result, Ok, Err}
use Rattle.osn_days.specs.declared.weekday.Weekday.{Weekday}
use Rattle.osn_days.specs.Rules.{Rules}
use Rattle.osn_written.specs.declared.any_date.AnyDate.{AnyDate}
use Rattle.osn_grammar.specs.Reading.{members}
use Rattle.osn_territory.specs.declared.runs.Run.{Run}
use Rattle.osn_territory.specs.Territory.{TerritoryModel}
use Rattle.osn_register.specs.NamedTerritories.{named_of}
use Rattle.osn_register.specs.Plain.{EntryModel, sources_of}
use Rattle.osn_register.specs.Sources.{SourcesModel}
use Rattle.osn_written.specs.declared.kind.Kind.TheVariants as kinds
use Rattle.osn_written.specs.declared.set.AbsentMember.{AbsentMember}
use Rattle.osn_written.specs.SetsMeant.{set_meant, is_set_approximate, is_set_uncertain}
use Rattle.osn_pages.specs.declared.page.Publication.{Publication}
use Rattle.osn_pages.specs.DateLines.{no_day_lines}
use Rattle.osn_pages.specs.Heading.{heading, pending_line}
use Rattle.osn_pages.specs.Remarks.{not_sought_line, sureness}
use Rattle.osn_pages.specs.Runs.{runs_text}

-- the days, or why the first date without a day means none
abbrev pub found_set_lines : Rules → TerritoryModel → Option SourcesModel
    → Result (List Run) AbsentMember → List ℕ
found_set_lines p t sources (Ok runs) = runs_text p t kinds.Set runs
found_set_lines p t sources (Err absent) = no_day_lines p t sources absent.extent absent.reason

-- how sure it is
abbrev pub set_sureness : Bool → Bool → List ℕ
set_sureness approximate uncertain = sureness approximate uncertain false

-- both, and that a weekday is not compared
unfoldable pub set_lines : Rules → TerritoryModel → Option SourcesModel → List AnyDate
    → Option Weekday → List ℕ
set_lines p t sources ws given =
    found_set_lines p t sources (set_meant p t ws)
    ++ (set_sureness (is_set_approximate ws) (is_set_uncertain ws) ++ not_sought_line given)

-- the page of a text, of the name, the territory and the sources of the code, and how many edits
-- wait. The text itself is the heading
abbrev pub set_page_of : Rules → Option (List ℕ × TerritoryModel) → Option SourcesModel → List ℕ
    → Publication → List ℕ → Option Weekday → List ℕ
set_page_of p None sources code published text given = []
set_page_of p (Some named) sources code published text given =
    (heading text named.0 code published.edition
    ++ set_lines p named.1 sources (members text) given)
    ++ pending_line published.pending

-- the text of the page. A code that no territory has is refused
abbrev pub set_page_text : Rules → List EntryModel → List ℕ → Publication → List ℕ
    → Option Weekday → List ℕ
set_page_text p territories code published text given =
    set_page_of p (named_of code territories) (sources_of code territories) code published text
    given
