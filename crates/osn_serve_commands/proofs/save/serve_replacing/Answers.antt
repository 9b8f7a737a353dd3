use Rattle.std.proofs.Common.{inl, inr, refl, ap, Some, sym, ◌∙◌}
use Rattle.std.proofs.lemmas.Option.{IfSome_then}
use Rattle.osn_lines.specs.Streams.{input_of}
use Rattle.osn_serve_commands.proofs.SaveLemmas.{never_failed, not_read_whole}
use Rattle.osn_serve_commands.proofs.save.serve_replacing.Goals as goal

pub returns-in-Err : goal.returns-in-Err
returns-in-Err g c =
    inl (
      c.from.result,
      not_read_whole c.in-Err.fault c.from.result
          (input_of g.J.Source.remaining g.J.Source.has_failed c.args.journal.now
          c.read_all.new.source)
          c.from.ensures c.in-Err.ensures.reason,
      refl,
      (refl, c.report_at.ensures),
    )

pub returns : goal.returns
returns g c =
    inr (
      c.deref-2.result.now,
      _,
      record {
        read =
            IfSome_then (g.J.Source.remaining c.args.journal.now) c.in-Ok.ensures.bytes
            (λ bytes is. c.deref-2.ensures.value ∙ is);
        bytes = ap Some (c.new.ensures ∙ (c.deref.ensures.value ∙ sym c.deref-2.ensures.value));
        sound = never_failed c.serve_opened.new.journal;
      },
      c.serve_opened.ensures,
    )
