-- The text of a territory was printed, or reported, as its contract says.
use Rattle.std.proofs.Common.{◌≡◌, ℕ, List, Some, None}
use Rattle.osn_days.specs.Rules.{newest_rules}
use Rattle.osn_lines.specs.Streams.{Output}
use Rattle.osn_page_commands.specs.Page.{territory_refusal_line}
use Rattle.osn_register.specs.Plain.{EntryModel, code_refusal}
use Rattle.osn_register.specs.declared.refusal.Refusal.{Refusal}
use Rattle.osn_report.specs.Messages.{ReportsIfMade}
use Rattle.osn_report.specs.Printing.{PrintsIfMade}
use Rattle.osn_report.specs.declared.status.Status.{Status}
use Rattle.osn_report.specs.declared.status.Status.TheVariants as statuses
use Rattle.osn_commands.specs.Text.{PrintsTerritory}
use Rattle.osn_register_text.specs.WrittenText.{text_of_code}

module _ (edition : ℕ) (territories : List EntryModel) (path code : List ℕ) (o e : Output)
    (status : Status) where
  -- a territory has the code
  pub territory_printed : code_refusal territories code ≡ None
      → PrintsIfMade (text_of_code newest_rules edition code territories) o e status
      → PrintsTerritory edition territories path code o e status
  territory_printed none h = rw none h

  -- no territory has the code
  pub territory_refused : (refusal : Refusal) → code_refusal territories code ≡ Some refusal → o.new
      ≡ o.old → ReportsIfMade e statuses.Refused (territory_refusal_line path code refusal) status
      → PrintsTerritory edition territories path code o e status
  territory_refused refusal some same h = rw some (same, h)
