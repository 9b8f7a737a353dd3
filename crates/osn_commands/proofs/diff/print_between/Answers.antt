use Rattle.std.proofs.Common.{inr}
use Rattle.osn_commands.proofs.diff.print_between.Goals as goal

pub returns-in-Ok : goal.returns-in-Ok
returns-in-Ok g c =
    let ok = c.in-Ok.ensures in
    inr (rw (← ok.earlier, ← ok.later, ← ok.limits) c.print_edits.ensures)
