use Rattle.std.proofs.Common.{◌≡◌, ℕ, List, subst, sym}
use Rattle.osn_lines.specs.Streams.{Output, output_of}
use Rattle.osn_register.specs.declared.limits.Limits.{Limits}
use Rattle.osn_register_text.specs.declared.fault.TextFault.{TextFault}
use Rattle.osn_register_text.specs.declared.fault.TextFault.TheVariants.{Toml}
use Rattle.osn_register_text.specs.declared.fault.TomlFault.{TomlFault}
use Rattle.osn_report.specs.declared.status.Status.{Status}
use Rattle.osn_commands.specs.Check.{ReportsCheck}
use Rattle.osn_commands.specs.TextFile.{ReportsText}
use Rattle.osn_commands.proofs.check.report_check.Goals as goal

-- a text that is not TOML was reported by that alone
reports_toml : (limits : Limits) (path text : List ℕ) (e : Output) (fault : TextFault)
    (why : TomlFault) (status : Status) → fault ≡ Toml why → ReportsText path e fault status
    → ReportsCheck limits path text e fault status
reports_toml limits path text e fault why status is h =
    subst (λ f. ReportsCheck limits path text e f status) (sym is)
    (subst (λ f. ReportsText path e f status) is h)

pub returns-in-Toml : goal.returns-in-Toml
returns-in-Toml g c =
    reports_toml c.args.limits c.args.path.now c.args.text.now
    (output_of g.E.Sink.contents g.E.Sink.has_failed g.E.Sink.holds_back c.args.errors.now
    c.report_text_fault.new.errors)
    c.args.fault.now _ c.report_text_fault.result c.in-Toml.is c.report_text_fault.ensures
