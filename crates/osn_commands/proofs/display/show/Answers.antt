use Rattle.std.proofs.Common.{string_bytes, refl}
use Rattle.osn_lines.specs.Streams.{output_of}
use Rattle.osn_commands.proofs.RunLemmas.{shows_help}
use Rattle.osn_commands.proofs.display.show.Goals as goal

pub returns-in-DisplayHelp : goal.returns-in-DisplayHelp
returns-in-DisplayHelp g c =
    let wrote = output_of g.W.Sink.contents g.W.Sink.has_failed g.W.Sink.holds_back
    c.args.output.now c.print.new.output in
    let errors = output_of g.E.Sink.contents g.E.Sink.has_failed g.E.Sink.holds_back
    c.args.errors.now c.print.new.errors in
    shows_help _ c.kind-kind.result c.args.help.now wrote errors _ (string_bytes c.in-Ok.text)
    c.kind-kind.ensures c.in-DisplayHelp.is (c.print.ensures (string_bytes c.in-Ok.text) refl)
