use Rattle.std.proofs.Common.{inl, inr, refl, subst}
use Rattle.osn_core.specs.Edition.{edition_model}
use Rattle.osn_lines.specs.Streams.{output_of}
use Rattle.osn_page_commands.specs.Page.{PrintsPageOn, place_of}
use Rattle.osn_page_commands.proofs.in_folder.print_bytes.Goals as goal

pub returns-in-Ok : goal.returns-in-Ok
returns-in-Ok g c =
    let s = edition_model c.args.edition.now in
    let wrote = output_of g.W.Sink.contents g.W.Sink.has_failed g.W.Sink.holds_back
    c.args.output.now c.print_page.new.output in
    let errors = output_of g.E.Sink.contents g.E.Sink.has_failed g.E.Sink.holds_back
    c.args.errors.now c.print_page.new.errors in
    inl (
      c.in-Ok.ensures.cases.1,
      subst (λ text. PrintsPageOn s c.args.path.now c.args.word.now text c.args.topic.now
          (place_of c.args.topic.now c.args.word.now s.territories) wrote errors c.print_page.result)
          c.in-Ok.ensures.cases.0 c.print_page.ensures,
    )

pub returns-in-Err : goal.returns-in-Err
returns-in-Err g c = inr (c.in-Err.ensures.cases.0, refl, (refl, c.write_line.ensures))
