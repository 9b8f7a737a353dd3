use Rattle.std.proofs.Common.{inl, inr, length, refl}
use Rattle.osn_commands.specs.Check.{checked_line}
use Rattle.osn_commands.proofs.check.check_text.Goals as goal

pub returns-in-Ok : goal.returns-in-Ok
returns-in-Ok g c =
    inr (
      c.in-Ok.said.edition,
      c.in-Ok.said.register.territories,
      c.in-Ok.ensures.ok,
      c.print.ensures (checked_line (length c.in-Ok.said.register.territories))
          c.register_line.ensures,
    )

pub returns-in-Err : goal.returns-in-Err
returns-in-Err g c = inl (c.in-Err.fault, c.in-Err.ensures.err, refl, c.report_check.ensures)
