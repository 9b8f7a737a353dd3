-- A table of letters that ended early ended as the command's contract says.
use Rattle.std.proofs.Common.{◌≡◌, ℕ, Bool, true, false, List, IfSome, subst}
use Rattle.osn_days.specs.Rules.{newest_rules}
use Rattle.osn_register.specs.Plain.{EntryModel}
use Rattle.osn_core.specs.Edition.{EditionModel}
use Rattle.osn_letters.specs.Table.{TableBasis, Written, letters_written, EndsEarly, IsWhole}
use Rattle.osn_letters.specs.declared.fault.LettersFault.{LettersFault}
use Rattle.osn_letters.specs.RowRemarks.{IsTallyOf}
use Rattle.osn_letters.specs.Tally.{TallyModel}
use Rattle.osn_lines.specs.Streams.{Input, Output}
use Rattle.osn_page_commands.specs.Letters.{EndsTable, EndsWhole, IsReason, SettingsModel}
use Rattle.osn_page_commands.specs.Letters.{ReportsEnd, ReportsIfSummary, table_of}
use Rattle.osn_page_commands.specs.declared.letters.TableRules.{TableRules}
use Rattle.osn_report.specs.Messages.{ReportsIfMade, ReportsNothing}
use Rattle.osn_report.specs.declared.status.Status.{Status}

-- by what a table is made, of these territories and this edition
abbrev basis_by : List EntryModel → ℕ → SettingsModel → TableBasis
basis_by territories edition settings = record {
  rules = newest_rules;
  territories = territories;
  edition = edition;
  names = settings.names;
  separator = settings.separator;
  order = settings.order;
  places = settings.places;
  keeps_going = settings.keeps_going;
}

abbrev table_by : List EntryModel → ℕ → SettingsModel → List ℕ → Written
table_by territories edition settings = letters_written (basis_by territories edition settings)

-- all was written
pub whole_table : (s : EditionModel) (settings : SettingsModel) (rules : TableRules)
    (tally : TallyModel)
    (territories : List EntryModel) (edition : ℕ) (i : Input) (o e : Output) (status : Status)
    → s.territories ≡ territories → s.number ≡ edition → ReportsEnd rules tally e status
    → IfSome i.bytes (λ text. IsWhole o.old o.new (table_by territories edition settings text))
    → IfSome i.bytes (λ text. IsTallyOf (basis_by territories edition settings) text tally)
    → EndsWhole s settings rules i o e status
whole_table s settings rules tally territories edition i o e status is counted message whole
    counts = rw (is, counted) (tally, message, whole, counts)

-- what was written by that end, and why
pub ended_table : (s : EditionModel) (settings : SettingsModel) (territories : List EntryModel)
    (edition : ℕ)
    (i : Input) (o : Output) (ended : LettersFault)
    → s.territories ≡ territories → s.number ≡ edition
    → IfSome i.bytes (λ text. EndsEarly o.old o.new (table_by territories edition settings text)
    ended) → IsReason (table_by territories edition settings) i o ended
    → EndsTable (table_of s settings) i o ended × IsReason (table_of s settings) i o ended
ended_table s settings territories edition i o ended is counted early reason =
    rw (is, counted) (early, reason)

module _ (is_asked : Bool) (text : List ℕ) (e : Output) (given : Status) where
  -- a text was written that was asked for
  pub reports_tally : (made status : Status) → is_asked ≡ true → made ≡ given
      → ReportsIfMade e made text status → ReportsIfSummary is_asked text e given status
  reports_tally made status is same message =
      rw is (subst (λ s. ReportsIfMade e s text status) same message)

  -- nothing was written, and nothing was asked for
  pub reports_no_tally : (status : Status) → is_asked ≡ false → status ≡ given → ReportsNothing e
      → ReportsIfSummary is_asked text e given status
  reports_no_tally status is same quiet = rw is (same, quiet)
