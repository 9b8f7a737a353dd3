use Rattle.std.proofs.Common.{inl, inr, refl, subst, ◌∙◌}
use Rattle.std.proofs.lemmas.Option.{IfSome_then}
use Rattle.osn_core.specs.Edition.{edition_model}
use Rattle.osn_lines.specs.Streams.{output_of}
use Rattle.osn_page_commands.specs.Page.{PrintsBytes}
use Rattle.osn_report.specs.Messages.{Reports}
use Rattle.osn_page_commands.proofs.in_folder.print_dates.Goals as goal

pub returns-in-Ok : goal.returns-in-Ok
returns-in-Ok g c =
    let s = edition_model c.args.edition.now in
    let wrote = output_of g.W.Sink.contents g.W.Sink.has_failed g.W.Sink.holds_back
    c.args.output.now c.print_bytes.new.output in
    let errors = output_of g.E.Sink.contents g.E.Sink.has_failed g.E.Sink.holds_back
    c.args.errors.now c.print_bytes.new.errors in
    inr (IfSome_then (g.R.Source.remaining c.args.input.now) c.in-Ok.ensures.bytes
    (λ bytes is. subst (λ read. PrintsBytes s c.args.path.now c.args.word.now c.args.topic.now read
    wrote errors c.print_bytes.result) (c.deref.ensures.value ∙ is) c.print_bytes.ensures))

pub returns-in-Err : goal.returns-in-Err
returns-in-Err g c =
    let errors = output_of g.E.Sink.contents g.E.Sink.has_failed g.E.Sink.holds_back
    c.args.errors.now c.report.new.errors in
    inl (
      c.in-Err.why,
      c.in-Err.ensures.reason,
      (refl, subst (λ fault. Reports errors fault c.report.result) c.from.ensures c.report.ensures),
    )
