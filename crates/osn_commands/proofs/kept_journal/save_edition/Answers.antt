use Rattle.std.proofs.Common.{inl, inr, option_map, refl, string_bytes, subst}
use Rattle.osn_lines.specs.Streams.{output_of}
use Rattle.osn_serve_commands.specs.Keep.{ReportsText}
use Rattle.osn_serve_commands.specs.Upgrade.{CannotSaveAnew, SavesAnew}
use Rattle.osn_commands.proofs.kept_journal.save_edition.Goals as goal

pub returns-in-Ok : goal.returns-in-Ok
returns-in-Ok g c =
    let folder = g.D.Folder.known in
    let errors = c.report_cut.new.errors in
    inr (
      subst (λ t. SavesAnew c.args.path.now c.args.content.now t
          (folder c.args.folder.now) (folder c.save_anew.new.folder))
          c.as_str-journal.ensures.value c.in-Ok.ensures.ok,
      record {
        between = g.E.Sink.contents errors;
        failed = g.E.Sink.has_failed errors;
        held_back = g.E.Sink.holds_back errors;
        reports =
            subst (λ old. ReportsText
            (output_of g.E.Sink.contents g.E.Sink.has_failed g.E.Sink.holds_back old errors)
            (option_map string_bytes c.args.cut.now)) c.in-Ok.ensures.quiet c.report_cut.ensures;
        prints = rw (← c.as_str.ensures.value) c.print_report.ensures;
      },
    )

pub returns-in-Err : goal.returns-in-Err
returns-in-Err g c =
    let folder = g.D.Folder.known in
    inl (
      refl,
      subst (λ t. CannotSaveAnew c.args.path.now c.args.content.now t
          (folder c.args.folder.now) (folder c.save_anew.new.folder)
          (output_of g.E.Sink.contents g.E.Sink.has_failed g.E.Sink.holds_back c.args.errors.now
          c.save_anew.new.errors) c.in-Err.status) c.as_str-journal.ensures.value
          c.in-Err.ensures.err,
    )
