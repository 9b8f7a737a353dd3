use Rattle.std.proofs.Common.{◌&&◌, refl}
use Rattle.osn_commands.proofs.PlanLemmas.{reports_hindrance, reports_no_hindrance}
use Rattle.osn_commands.proofs.in_folder.report_end.Goals as goal

pub returns-in-Done : goal.returns-in-Done
returns-in-Done g c =
    reports_hindrance c.args.end.status c.report_hindrance-status.result c.strict_status.result
    (c.args.strict && c.args.end.has_edits) c.args.journal.now c.args.is_there _ _ _ c.in-Done.is
    c.report_hindrance-status.ensures c.strict_status.ensures

pub returns-in_default : goal.returns-in_default
returns-in_default g c =
    reports_no_hindrance c.args.end.status _ _ _ _ _ c.in_default.not-Done (refl, refl)
