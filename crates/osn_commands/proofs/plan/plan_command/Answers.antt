use Rattle.std.proofs.Common.{inr, subst, sym, ◌∙◌}
use Rattle.osn_lines.specs.Streams.{input_of, output_of}
use Rattle.osn_commands.proofs.PlanLemmas.{is_there}
use Rattle.osn_commands.specs.Plan.{PrintsPlanOf, edits_line}
use Rattle.osn_commands.proofs.plan.plan_command.Goals as goal

pub returns-in-Ok : goal.returns-in-Ok
returns-in-Ok g c =
    let s = c.in-Ok.object in
    let version = c.in-Ok.version in
    let source = g.J.Source in
    let same =
    is_there source.remaining source.has_failed c.args.journal.now
    c.planned_journal.new.journal in
    inr (
      s,
      c.in-Ok.ensures.object,
      version,
      c.in-Ok.ensures.version,
      subst (λ there. PrintsPlanOf c.args.limits s c.args.path.now c.args.text_path.now
          (input_of g.T.Source.remaining g.T.Source.has_failed c.args.text.now
          c.plan_text_file.new.text)
          (edits_line c.args.path.now c.args.text_path.now there version s)
          (output_of g.W.Sink.contents g.W.Sink.has_failed g.W.Sink.holds_back c.args.output.now
          c.plan_text_file.new.output)
          (output_of g.E.Sink.contents g.E.Sink.has_failed g.E.Sink.holds_back c.args.errors.now
          c.plan_text_file.new.errors) c.plan_text_file.result)
          (c.is_some-is_there.ensures ∙ sym same) c.plan_text_file.ensures,
    )
