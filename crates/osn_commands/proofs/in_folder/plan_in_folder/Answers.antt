use Rattle.std.proofs.Common.{◌&&◌, subst, sym, ◌∙◌}
use Rattle.osn_lines.specs.Streams.{output_of}
use Rattle.osn_serve_commands.specs.Serve.{input_if}
use Rattle.osn_serve_commands.proofs.SaveLemmas.{may_fail_if}
use Rattle.osn_commands.proofs.PlanLemmas.{is_there, opened_if}
use Rattle.osn_commands.specs.InFolder.{ReportsHindranceAfter}
use Rattle.osn_commands.proofs.in_folder.plan_in_folder.Goals as goal

pub returns-clause-ok : goal.returns-clause-ok
returns-clause-ok g c =
    let found = c.in_ok-file in
    let file = g.D.File.Source in
    let left = c.plan_by-end.new.journal in
    let end = c.plan_by-end.result in
    let errors = c.plan_by-end.new.errors in
    record {
      journal = input_if file.remaining file.has_failed found.file left;
      opened = g.D.Folder.known c.open_if_there.new.folder;
      opens =
          opened_if file.remaining file.has_failed found.file left c.args.journal.now _ _
          found.ensures.ok;
      fails = may_fail_if file.remaining file.has_failed found.file left;
      planned = g.D.Folder.known c.plan_by-end.new.folder;
      between = g.E.Sink.contents errors;
      failed = g.E.Sink.has_failed errors;
      held_back = g.E.Sink.holds_back errors;
      printed = end;
      prints = c.plan_by-end.ensures;
      reports =
          subst (λ there. ReportsHindranceAfter end.status (c.args.strict && end.has_edits)
          c.args.journal.now there (g.D.Folder.known c.plan_by-end.new.folder)
          (g.D.Folder.known c.report_end.new.folder)
          (output_of g.E.Sink.contents g.E.Sink.has_failed g.E.Sink.holds_back errors
          c.report_end.new.errors) c.report_end.result)
          (c.is_some-is_there.ensures
          ∙ sym (is_there file.remaining file.has_failed found.file left)) c.report_end.ensures;
    }
