use Rattle.std.proofs.Common.{◌≡◌, false, true, refl, subst, sym, ◌∙◌}
use Rattle.osn_commands.proofs.PublishLemmas.{anew_refused, none_needed}
use Rattle.osn_commands.specs.Edition.{needs_sources}
use Rattle.osn_commands.specs.PlanWords.{not_kept_line}
use Rattle.osn_commands.specs.PublishInside.{CanStay}
use Rattle.osn_commands.proofs.publish_edits.publish_edits.Goals as goal

pub returns-in-Ok-clause-older : goal.returns-in-Ok-clause-older
returns-in-Ok-clause-older g c = record {
  same = c.in-Ok.ensures.bytes;
  needs =
      subst (λ l. needs_sources c.args.journal.version l ≡ true) c.deref.ensures.value
      (sym c.needs_sources.ensures ∙ c.if-needs_sources.true);
  lawful = c.in-Ok.ensures.lawful;
  sources = c.in-Ok.ensures.sources;
  anew = c.in-Ok.ensures.journal;
  printed = c.in-Ok.ensures.text;
  message = c.in-Ok.ensures.cut;
}

pub returns-in-Err-clause-ok : goal.returns-in-Err-clause-ok
returns-in-Err-clause-ok g c = λ input part_of.
    anew_refused (CanStay g.K.KeptFile.cut_back_may_fail) c.args.path.now c.args.journal.object
    c.args.target.now _ _ input _ _ c.report.result c.args.journal.version _
    (subst (λ l. needs_sources c.args.journal.version l ≡ true) c.deref.ensures.value
    (sym c.needs_sources.ensures ∙ c.if-needs_sources.true)) c.args.edits.items
    c.in-Err.refusal c.in-Err.ensures.refused (refl, (refl, c.report.ensures))

pub returns-in-Ok-check_version_to_keep-clause-ok :
    goal.returns-in-Ok-check_version_to_keep-clause-ok
returns-in-Ok-check_version_to_keep-clause-ok g c = λ input part_of.
    none_needed (CanStay g.K.KeptFile.cut_back_may_fail) c.args.path.now c.args.journal.object
    c.args.target.now _ _ input _ _ c.append_edits.result c.args.journal.version _
    (subst (λ l. needs_sources c.args.journal.version l ≡ false) c.deref.ensures.value
    (sym c.needs_sources.ensures ∙ c.if-needs_sources.false)) c.args.edits.items
    (rw c.in-Ok-check_version_to_keep.ensures.ok (c.append_edits.ensures input part_of))

pub returns-clause-ok : goal.returns-clause-ok
returns-clause-ok g c = λ input part_of.
    none_needed (CanStay g.K.KeptFile.cut_back_may_fail) c.args.path.now c.args.journal.object
    c.args.target.now _ _ input _ _ c.report_line.result c.args.journal.version _
    (subst (λ l. needs_sources c.args.journal.version l ≡ false) c.deref.ensures.value
    (sym c.needs_sources.ensures ∙ c.if-needs_sources.false)) c.args.edits.items
    (rw c.in-Err-check_version_to_keep.ensures.err.1 (
      refl,
      refl,
      c.report_line.ensures (not_kept_line c.args.path.now c.args.journal.version)
          c.not_kept_line-lines.ensures,
    ))
