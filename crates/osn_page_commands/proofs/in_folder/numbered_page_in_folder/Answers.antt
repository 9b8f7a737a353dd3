use Rattle.std.proofs.Common.{inl, inr, refl, sym, ◌∙◌}
use Rattle.osn_folder.specs.Folder.{MayFail}
use Rattle.osn_invocation.specs.Invocation.{page_request}
use Rattle.osn_lines.specs.Streams.{input_of, output_of}
use Rattle.osn_page_commands.proofs.PageLemmas.{page_printed}
use Rattle.osn_page_commands.proofs.in_folder.numbered_page_in_folder.Goals as goal
use Rattle.osn_report.proofs.FileLemmas.{file_fault}
use Rattle.osn_report.specs.Folders.{folders_of}

pub returns-in-Err-open_named-clause-err : goal.returns-in-Err-open_named-clause-err
returns-in-Err-open_named-clause-err g c =
    let found = c.in-Err-open_named in
    (inl (found.why.cause, c.open_failure.ensures, found.ensures.err), refl, refl)

pub returns-in-Ok-load_journal-clause-ok : goal.returns-in-Ok-load_journal-clause-ok
returns-in-Ok-load_journal-clause-ok g c =
    let new = c.print_numbered.new in
    let file = g.D.File.Source in
    let left = c.load_journal.new.source in
    page_printed c.args.limits c.args.journal.now c.args.number (page_request c.args.words)
    (MayFail file.has_failed)
    (folders_of g.D.Folder.known c.args.folder.now c.open_named.new.folder)
    c.in-Ok-Ok.topic c.territory_word-word.result.now c.date_text_of-date.result.now
    (input_of g.R.Source.remaining g.R.Source.has_failed c.args.input.now new.input)
    (output_of g.W.Sink.contents g.W.Sink.has_failed g.W.Sink.holds_back c.args.output.now
    new.output)
    (output_of g.E.Sink.contents g.E.Sink.has_failed g.E.Sink.holds_back c.args.errors.now
    new.errors)
    c.print_numbered.result (sym c.in-Ok-Ok.ensures.value ∙ c.in-Ok-Ok.field-0-is)
    c.territory_word-word.ensures c.date_text_of-date.ensures (
      c.in-Ok.ensures.ok,
      input_of file.remaining file.has_failed c.in-Ok.file left,
      (c.in-Ok.ensures.file, (λ e. (left, e))),
      (
        c.in-Ok-load_journal.object,
        c.in-Ok-load_journal.ensures.file.made,
        c.print_numbered.ensures,
      ),
    )

pub returns-clause-err : goal.returns-clause-err
returns-clause-err g c =
    let file = g.D.File.Source in
    let left = c.load_journal.new.source in
    let fault = c.in-Err-load_journal.fault in (
      inr (
        refl,
        (
          c.in-Ok.ensures.ok,
          input_of file.remaining file.has_failed c.in-Ok.file left,
          (c.in-Ok.ensures.file, (λ e. (left, e))),
          (fault, refl, file_fault fault c.in-Err-load_journal.ensures.file),
        ),
      ),
      refl,
      refl,
    )
