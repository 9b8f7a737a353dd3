use Rattle.std.proofs.Common.{ℕ, List, Bor, map, refl}
use Rattle.osn_folder.specs.Folder.{MayFail}
use Rattle.osn_lines.specs.Streams.{input_of}
use Rattle.osn_commands.specs.PublishInside.{CanStay}
use Rattle.osn_commands.proofs.RunLemmas.{show_typed}
use Rattle.osn_commands.proofs.program.run_words.Goals as goal

pub returns-in-Err : goal.returns-in-Err
returns-in-Err g c =
    show_typed (map g.S.AsStr.text c.args.arguments.now)
    (map (λ (word : Bor (List ℕ)). word.now) c.args.words.now) c.in-Err.error
    c.help_on-help.result.now
    (MayFail g.D.File.Source.has_failed) (CanStay g.D.Keeper.KeptFile.cut_back_may_fail) _
    (input_of g.R.Source.remaining g.R.Source.has_failed c.args.input.now c.args.input.now)
    _ _ _ c.in-Err.ensures.kinds refl c.help_on-help.ensures c.show.ensures
