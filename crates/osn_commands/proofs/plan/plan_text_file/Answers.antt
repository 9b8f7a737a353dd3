use Rattle.std.proofs.Common.{inl, refl}
use Rattle.osn_commands.proofs.plan.plan_text_file.Goals as goal

pub returns-in-Err : goal.returns-in-Err
returns-in-Err g c = inl (c.in-Err.fault, c.in-Err.ensures.err, refl, c.report_text_file.ensures)
