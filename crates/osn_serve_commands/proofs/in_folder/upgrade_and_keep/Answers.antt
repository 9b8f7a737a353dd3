use Rattle.std.proofs.Common.{inl, inr, refl}
use Rattle.osn_serve_commands.proofs.in_folder.upgrade_and_keep.Goals as goal

pub returns-in-Ok : goal.returns-in-Ok
returns-in-Ok g c =
    let errors = c.upgrade_file.new.errors in
    inr (record {
      upgraded = g.D.Folder.known c.upgrade_file.new.folder;
      between = g.E.Sink.contents errors;
      failed = g.E.Sink.has_failed errors;
      held_back = g.E.Sink.holds_back errors;
      upgrades = c.in-Ok.ensures.ok;
      keeps = c.keep.ensures;
    })

pub returns-in-Err : goal.returns-in-Err
returns-in-Err g c = inl (refl, c.in-Err.ensures.err)
