use Rattle.std.proofs.Common.{option_map, refl, string_bytes}
use Rattle.std.proofs.lemmas.Result.{IfErr-weaker}
use Rattle.osn_folder.specs.Folder.{MayFail}
use Rattle.osn_lines.specs.Streams.{input_of, output_of}
use Rattle.osn_report.specs.Folders.{folders_of}
use Rattle.osn_serve_commands.specs.UpgradeInside.{IsNewest, IsOlder}
use Rattle.osn_serve_commands.proofs.UpgradeLemmas.{both_ok, looked_at, none_found, some_found}
use Rattle.osn_serve_commands.proofs.UpgradeLemmas.{upgrade_left, upgrade_saved, upgrade_unread}
use Rattle.osn_serve_commands.proofs.UpgradeLemmas.{upgrade_unsaved}
use Rattle.osn_serve_commands.proofs.upgrade.upgrade_file.Goals as goal

pub returns-in-Ok-None-clause-ok : goal.returns-in-Ok-None-clause-ok
returns-in-Ok-None-clause-ok g c =
    let file = g.D.File.Source in
    let found = c.in-Ok.file in
    let left = c.older_journal-outcome.new.journal in
    let input = input_of file.remaining file.has_failed found.1 left in
    let folder = g.D.Folder.known in
    upgrade_left c.args.limits c.args.path.now (MayFail file.has_failed)
    (folders_of folder c.args.folder.now c.release.new.self)
    (output_of g.E.Sink.contents g.E.Sink.has_failed g.E.Sink.holds_back c.args.errors.now
    c.args.errors.now) (folder c.release.new.self) input
    (looked_at c.args.path.now (MayFail file.has_failed) _ (folder c.keep.new.self) _ _ input
    c.in-Ok.ensures.ok c.in-Ok.ensures.contents c.in-Ok.ensures.source (λ yes. (left, yes))
    c.release.ensures)
    (none_found c.in-Ok-None.field-0 (IsNewest c.args.limits input.bytes)
    (λ older. IsOlder c.args.limits input.bytes older.bytes.items (string_bytes older.text)
    (option_map string_bytes older.cut)) c.in-Ok-None.field-0-is c.in-Ok-None.ensures.ok) refl
    refl

pub returns-in-Ok-Some-clause-ok : goal.returns-in-Ok-Some-clause-ok
returns-in-Ok-Some-clause-ok g c =
    let file = g.D.File.Source in
    let found = c.in-Ok.file in
    let left = c.older_journal-outcome.new.journal in
    let input = input_of file.remaining file.has_failed found.1 left in
    let folder = g.D.Folder.known in
    let older = c.in-Ok-Some.older in
    let is =
    some_found c.in-Ok-Some.field-0 older (IsNewest c.args.limits input.bytes)
    (λ older. IsOlder c.args.limits input.bytes older.bytes.items (string_bytes older.text)
    (option_map string_bytes older.cut)) c.in-Ok-Some.field-0-is c.in-Ok-Some.ensures.ok in
    both_ok c.save_older.result _ _ _ c.save_older.ensures.ok c.save_older.ensures.reports
    (upgrade_saved c.args.limits c.args.path.now (MayFail file.has_failed)
    (folders_of folder c.args.folder.now c.save_older.new.folder)
    (output_of g.E.Sink.contents g.E.Sink.has_failed g.E.Sink.holds_back c.args.errors.now
    c.save_older.new.errors) (folder c.release.new.self) input
    (looked_at c.args.path.now (MayFail file.has_failed) _ (folder c.keep.new.self) _ _ input
    c.in-Ok.ensures.ok c.in-Ok.ensures.contents c.in-Ok.ensures.source (λ yes. (left, yes))
    c.release.ensures) older.bytes.items (string_bytes older.text)
    (option_map string_bytes older.cut) is)

pub returns-in-Ok-Some-clause-err : goal.returns-in-Ok-Some-clause-err
returns-in-Ok-Some-clause-err g c =
    let file = g.D.File.Source in
    let found = c.in-Ok.file in
    let left = c.older_journal-outcome.new.journal in
    let input = input_of file.remaining file.has_failed found.1 left in
    let folder = g.D.Folder.known in
    let older = c.in-Ok-Some.older in
    let is =
    some_found c.in-Ok-Some.field-0 older (IsNewest c.args.limits input.bytes)
    (λ older. IsOlder c.args.limits input.bytes older.bytes.items (string_bytes older.text)
    (option_map string_bytes older.cut)) c.in-Ok-Some.field-0-is c.in-Ok-Some.ensures.ok in
    IfErr-weaker c.save_older.result _ _
    (upgrade_unsaved c.args.limits c.args.path.now (MayFail file.has_failed)
    (folders_of folder c.args.folder.now c.save_older.new.folder)
    (output_of g.E.Sink.contents g.E.Sink.has_failed g.E.Sink.holds_back c.args.errors.now
    c.save_older.new.errors) (folder c.release.new.self) input
    (looked_at c.args.path.now (MayFail file.has_failed) _ (folder c.keep.new.self) _ _ input
    c.in-Ok.ensures.ok c.in-Ok.ensures.contents c.in-Ok.ensures.source (λ yes. (left, yes))
    c.release.ensures) older.bytes.items (string_bytes older.text)
    (option_map string_bytes older.cut) is) c.save_older.ensures.err

pub returns-in-Err-outcome-clause-err : goal.returns-in-Err-outcome-clause-err
returns-in-Err-outcome-clause-err g c =
    let file = g.D.File.Source in
    let found = c.in-Ok.file in
    let left = c.older_journal-outcome.new.journal in
    let input = input_of file.remaining file.has_failed found.1 left in
    let folder = g.D.Folder.known in
    upgrade_unread c.args.limits c.args.path.now (MayFail file.has_failed)
    (folders_of folder c.args.folder.now c.release.new.self)
    (output_of g.E.Sink.contents g.E.Sink.has_failed g.E.Sink.holds_back c.args.errors.now
    c.report_at-in-Err-outcome.new.errors) (folder c.release.new.self) input
    (looked_at c.args.path.now (MayFail file.has_failed) _ (folder c.keep.new.self) _ _ input
    c.in-Ok.ensures.ok c.in-Ok.ensures.contents c.in-Ok.ensures.source (λ yes. (left, yes))
    c.release.ensures) c.in-Err-outcome.fault c.report_at-in-Err-outcome.result
    c.in-Err-outcome.ensures.err refl c.report_at-in-Err-outcome.ensures
