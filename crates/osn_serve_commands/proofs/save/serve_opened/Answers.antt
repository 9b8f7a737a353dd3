use Rattle.std.proofs.Common.{option_map, string_bytes}
use Rattle.osn_serve_commands.proofs.SaveLemmas.{served_and_saved}
use Rattle.osn_serve_commands.proofs.save.serve_opened.Goals as goal

pub returns : goal.returns
returns g c =
    served_and_saved g.E.Sink.contents g.E.Sink.has_failed g.E.Sink.holds_back g.D.Folder.known
    string_bytes (λ file. file.path.now) (option_map (λ bytes. bytes.now) c.args.loaded_bytes)
    c.args.beside _ _ _ _ _
    _ _ c.args.limits c.args.path.now c.args.rules _ _ _ _ c.args.locked_file
    c.serve_command-serve_result.result.journal
    c.serve_command-serve_result.result.editions c.is_some-saves.ensures
    c.serve_command-serve_result.ensures c.finish.ensures.none c.finish.ensures.saved
