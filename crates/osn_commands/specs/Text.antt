-- The text that the command `text` prints of what a journal published, or why it prints none.
use Rattle.std.specs.Prelude.{◌≡◌, ◌⊎◌, ℕ, List, Option, Some, None}
use Rattle.std.specs.Option.{MatchOption}
use Rattle.osn_days.specs.Rules.{newest_rules}
use Rattle.osn_core.specs.Sequential.{ObjectState, territories_of}
use Rattle.osn_core.specs.Edition.{EditionModel}
use Rattle.osn_page_commands.specs.Editions.{OnEdition}
use Rattle.osn_files.specs.declared.fault.FileFault.{FileFault}
use Rattle.osn_lines.specs.Streams.{Input, Output}
use Rattle.osn_page_commands.specs.Page.{territory_refusal_line}
use Rattle.osn_register.specs.Plain.{EntryModel, code_refusal}
use Rattle.osn_register.specs.declared.limits.Limits.{Limits}
use Rattle.osn_report.specs.Journal.{MakesObject, MakesNoObject}
use Rattle.osn_report.specs.Printing.{PrintsIfMade, PrintsNoneAt}
use Rattle.osn_report.specs.Messages.{ReportsIfMade}
use Rattle.osn_report.specs.declared.fault.CommandFault.TheVariants.{File}
use Rattle.osn_report.specs.declared.status.Status.{Status}
use Rattle.osn_report.specs.declared.status.Status.TheVariants as statuses
use Rattle.osn_register_text.specs.WrittenText.{register_text, text_of_code}

-- the territories that an object has published
abbrev pub published : ObjectState → List EntryModel
published s = territories_of newest_rules s.limits s.batches

-- the text of the territory of a code, made of an edition, was printed; or none of these has the
-- code, which was reported with the path of the journal
abbrev pub PrintsTerritory : ℕ → List EntryModel → List ℕ → List ℕ → Output → Output → Status →
    Type 0
PrintsTerritory edition territories path code o e status =
    MatchOption (code_refusal territories code)
    (PrintsIfMade (text_of_code newest_rules edition code territories) o e status)
    (λ refusal. (o.new ≡ o.old)
    × ReportsIfMade e statuses.Refused (territory_refusal_line path code refusal) status)

-- the text of all territories of an edition was printed, or what one of a code asks for
abbrev pub PrintsTerritories : EditionModel → List ℕ → Option (List ℕ) → Output → Output → Status →
    Type 0
PrintsTerritories edition path None o e status =
    PrintsIfMade (register_text newest_rules edition.number edition.territories) o e status
PrintsTerritories edition path (Some code) o e status =
    PrintsTerritory edition.number edition.territories path code o e status

-- how `text` ends over a journal of this path. The journal is refused; or it makes an object, and
-- the territories of its edition of a number, or of the newest one, were printed
abbrev pub PrintsText : Limits → List ℕ → Input → Option ℕ → Option (List ℕ) → Output → Output
    → Status → Type 0
PrintsText limits path journal number code o e status =
    ((fault : FileFault) × MakesNoObject limits journal fault
    × PrintsNoneAt path (File fault) o e status)
    ⊎ ((s : ObjectState) × MakesObject limits journal.bytes s
    × OnEdition number s (λ edition. PrintsTerritories edition path code o e status) o e status)
