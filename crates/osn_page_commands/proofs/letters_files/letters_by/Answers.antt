use Rattle.osn_folder.specs.Folder.{MayFail}
use Rattle.osn_invocation.specs.Invocation.{letters_model}
use Rattle.osn_lines.specs.Streams.{input_of, output_of}
use Rattle.osn_page_commands.specs.Letters.{settings_model}
use Rattle.osn_page_commands.specs.LettersFiles.{rules_of}
use Rattle.osn_page_commands.proofs.FilesLemmas.{table_alone, table_placed}
use Rattle.osn_report.specs.Folders.{folders_of}
use Rattle.osn_page_commands.proofs.letters_files.letters_by.Goals as goal

pub returns-in-None-clause-ok : goal.returns-in-None-clause-ok
returns-in-None-clause-ok g c =
    let found = c.in_ok-file in
    let new = c.letters_command.new in
    table_alone c.args.limits c.args.journal.now c.args.options.places
    (settings_model c.args.settings)
    c.rules_of-rules.result (rules_of (letters_model c.args.options) c.args.number)
    (MayFail g.D.File.Source.has_failed)
    (folders_of g.D.Folder.known c.args.folder.now c.open_file.new.folder)
    (input_of g.R.Source.remaining g.R.Source.has_failed c.args.input.now new.input)
    (output_of g.W.Sink.contents g.W.Sink.has_failed g.W.Sink.holds_back c.args.output.now
    new.output)
    (output_of g.E.Sink.contents g.E.Sink.has_failed g.E.Sink.holds_back c.args.errors.now
    new.errors)
    c.letters_command.result c.in-None.is c.rules_of-rules.ensures (
      found.ensures.ok,
      input_of g.D.File.Source.remaining g.D.File.Source.has_failed found.file new.journal,
      (found.ensures.file, (λ e. (new.journal, e))),
      c.letters_command.ensures,
    )

pub returns-clause-ok : goal.returns-clause-ok
returns-clause-ok g c =
    let found = c.in_ok-file in
    let new = c.letters_by_places.new in
    table_placed c.args.limits c.args.journal.now c.args.options.places
    (settings_model c.args.settings)
    c.rules_of-rules.result (rules_of (letters_model c.args.options) c.args.number)
    (MayFail g.D.File.Source.has_failed)
    (folders_of g.D.Folder.known c.args.folder.now new.folder)
    (input_of g.R.Source.remaining g.R.Source.has_failed c.args.input.now new.input)
    (output_of g.W.Sink.contents g.W.Sink.has_failed g.W.Sink.holds_back c.args.output.now
    new.output)
    (output_of g.E.Sink.contents g.E.Sink.has_failed g.E.Sink.holds_back c.args.errors.now
    new.errors)
    c.letters_by_places.result c.in-Some.path c.in-Some.is c.rules_of-rules.ensures (
      g.D.Folder.known c.open_file.new.folder,
      found.ensures.ok,
      input_of g.D.File.Source.remaining g.D.File.Source.has_failed found.file new.journal,
      (found.ensures.file, (λ e. (new.journal, e))),
      c.letters_by_places.ensures,
    )
