use Rattle.std.proofs.Common.{◌≡◌, ◌∙◌, ℕ, List, Bor, ap, map, refl, subst, inl, inr, rules}
use Rattle.osn_folder.specs.Folder.{MayFail}
use Rattle.osn_lines.specs.Streams.{input_of, output_of}
use Rattle.osn_report.specs.Folders.{folders_of}
use Rattle.osn_commands.specs.PublishInside.{CanStay}
use Rattle.osn_commands.specs.Run.{RunsWords}
use Rattle.osn_commands.proofs.program.run.Goals as goal

pub returns-in-Ok : goal.returns-in-Ok
returns-in-Ok g c =
    let lent : c.deref.result.now ≡ c.in-Ok.words.items = search rules in
    subst (λ args. RunsWords (map g.S.AsStr.text c.args.args.now) args
    (MayFail g.D.File.Source.has_failed)
    (CanStay g.D.Keeper.KeptFile.cut_back_may_fail)
    (folders_of g.D.Folder.known c.args.folder.now c.run_words.new.folder)
    (input_of g.R.Source.remaining g.R.Source.has_failed c.args.input.now c.run_words.new.input)
    (output_of g.W.Sink.contents g.W.Sink.has_failed g.W.Sink.holds_back
    c.args.output.now c.run_words.new.output)
    (output_of g.E.Sink.contents g.E.Sink.has_failed g.E.Sink.holds_back
    c.args.errors.now c.run_words.new.errors)
    c.run_words.result)
    (ap (map (λ (word : Bor (List ℕ)). word.now)) lent ∙ c.in-Ok.ensures) c.run_words.ensures

pub returns-in-Err : goal.returns-in-Err
returns-in-Err g c = inr (refl, inl (refl, c.report_no_memory.ensures))
