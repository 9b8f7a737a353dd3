use Rattle.std.proofs.Common.{◌≡◌, false, true, inl, refl, subst, sym, ◌∙◌}
use Rattle.osn_commands.specs.Edition.{needs_sources}
use Rattle.osn_commands.proofs.NoteLemmas.{version_kept, version_needs, version_older}
use Rattle.osn_commands.proofs.note.version_note.Goals as goal

pub returns-then-needs_sources : goal.returns-then-needs_sources
returns-then-needs_sources c =
    version_needs c.args.object.now _ c.args.version c.args.edits.items
    (subst (λ l. needs_sources c.args.version l ≡ true) c.deref.ensures.value
    (sym c.needs_sources.ensures ∙ c.if-needs_sources.true)) c.refusal_or.ensures

pub returns-in-Ok : goal.returns-in-Ok
returns-in-Ok c =
    version_kept c.args.object.now _ c.args.version c.args.edits.items
    (subst (λ l. needs_sources c.args.version l ≡ false) c.deref.ensures.value
    (sym c.needs_sources.ensures ∙ c.if-needs_sources.false)) c.in-Ok.ensures.ok
    c.edits_or.ensures

pub returns-in-Err : goal.returns-in-Err
returns-in-Err c =
    version_older c.args.object.now _ c.args.version c.args.edits.items
    (subst (λ l. needs_sources c.args.version l ≡ false) c.deref.ensures.value
    (sym c.needs_sources.ensures ∙ c.if-needs_sources.false)) c.in-Err.ensures.err.1 (inl refl)
