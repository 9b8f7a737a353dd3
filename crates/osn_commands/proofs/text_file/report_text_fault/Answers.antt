use Rattle.std.proofs.Common.{◌≡◌, ◌⊎◌, ℕ, List, inl, inr}
use Rattle.osn_lines.specs.Streams.{Output, output_of}
use Rattle.osn_report.specs.Messages.{ReportsIfMade}
use Rattle.osn_report.specs.declared.status.Status.{Status}
use Rattle.osn_report.specs.declared.status.Status.TheVariants.{Refused}
use Rattle.osn_commands.specs.TextFile.{ReportsText, fault_lines}
use Rattle.osn_register_text.specs.declared.fault.KeyFault.{KeyFault}
use Rattle.osn_register_text.specs.declared.fault.TextFault.{TextFault}
use Rattle.osn_register_text.specs.declared.fault.TextFault.TheVariants.{Toml, Key, NoMemory}
use Rattle.osn_register_text.specs.declared.fault.TomlFault.{TomlFault}
use Rattle.osn_commands.proofs.text_file.report_text_fault.Goals as goal

-- a fault that is not NoMemory was reported by its line
reports_fault : (path : List ℕ) (e : Output) (fault : TextFault) (status : Status)
    → ((why : TomlFault) × (fault ≡ Toml why)) ⊎ ((why : KeyFault) × (fault ≡ Key why))
    → ReportsIfMade e Refused (fault_lines path fault) status
    → ReportsText path e fault status
reports_fault path e (Toml why) status is h = h
reports_fault path e (Key why) status is h = h
reports_fault path e NoMemory status (inl (why, is)) h = absurd (cc)
reports_fault path e NoMemory status (inr (why, is)) h = absurd (cc)

pub returns-in-Toml : goal.returns-in-Toml
returns-in-Toml g c =
    let path = c.args.path.now in
    let fault = c.args.fault.now in
    reports_fault path
    (output_of g.E.Sink.contents g.E.Sink.has_failed g.E.Sink.holds_back c.args.errors.now
    c.report_line.new.errors)
    fault c.report_line.result c.in-Toml.is
    (c.report_line.ensures (fault_lines path fault) c.fault_lines.ensures)
