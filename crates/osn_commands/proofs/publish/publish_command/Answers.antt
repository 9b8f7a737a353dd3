use Rattle.std.proofs.Common.{inl, inr, refl}
use Rattle.std.proofs.lemmas.Result.{IfErr-weaker, IfOk-weaker}
use Rattle.osn_serve_commands.proofs.KeepLemmas.{held_as_read}
use Rattle.osn_serve_commands.proofs.ResultLemmas.{known_bytes}
use Rattle.osn_serve_commands.specs.Keep.{HoldsNoObject}
use Rattle.osn_commands.proofs.FolderLemmas.{edition_of_older, part_read}
use Rattle.osn_commands.specs.Since.{request_of}
use Rattle.osn_commands.proofs.publish.publish_command.Goals as goal

pub returns-in-Ok-clause-ended : goal.returns-in-Ok-clause-ended
returns-in-Ok-clause-ended g c =
    let journal = c.in-Ok.loaded_journal in
    let input = g.J.Source.remaining c.args.journal.now in
    IfOk-weaker c.publish_held.result _ _
    (λ status h. inr (
      journal.version,
      journal.object,
      (λ bytes known got.
          (held_as_read c.args.limits input bytes journal.bytes.items journal.part journal.version
          journal.object got c.in-Ok.ensures.bytes c.in-Ok.ensures.ok).1),
      h input (part_read input journal.bytes.items journal.part c.in-Ok.ensures.bytes
          c.in-Ok.ensures.ok.0),
    )) c.publish_held.ensures.ok

pub returns-in-Ok-clause-older : goal.returns-in-Ok-clause-older
returns-in-Ok-clause-older g c =
    let journal = c.in-Ok.loaded_journal in
    IfErr-weaker c.publish_held.result _ _
    (λ older h. edition_of_older c.args.limits (request_of c.args.request) c.args.target.now
    (g.J.Source.remaining c.args.journal.now) journal.bytes.items _ _ _ _ journal.part
    journal.version
    journal.object c.in-Ok.ensures.bytes c.in-Ok.ensures.ok h) c.publish_held.ensures.older

pub returns-in-Err-clause-ended : goal.returns-in-Err-clause-ended
returns-in-Err-clause-ended g c =
    let input = g.J.Source.remaining c.args.journal.now in
    let failed = g.J.Source.has_failed c.read_journal_to_keep.new.journal in
    inl (
      c.in-Err.fault,
      refl,
      (refl, c.report_at.ensures),
      (λ content known got.
          known_bytes input content
          (λ content. HoldsNoObject c.args.limits content failed c.in-Err.fault) got
          c.in-Err.ensures.err),
    )
