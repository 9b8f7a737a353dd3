use Rattle.std.proofs.Common.{◌≡◌, ◌==◌, ◌∙◌, ℕ, length, vec_len, ap, arith, refl, sym}
use Rattle.osn_commands.proofs.PublishLemmas.{edition_refused, edition_written}
use Rattle.osn_commands.proofs.PublishLemmas.{nothing_published}
use Rattle.osn_commands.specs.Publish.{no_change_text}
use Rattle.osn_commands.specs.PublishInside.{CanStay}
use Rattle.osn_commands.proofs.publish_edits.append_edits.Goals as goal

pub returns-then-is_empty : goal.returns-then-is_empty
returns-then-is_empty g c = λ input part_of.
    let size : length c.args.edits.items ≡ vec_len c.args.edits =
    omega (arith, c.args.edits.ok.0) in
    nothing_published (CanStay g.K.KeptFile.cut_back_may_fail) c.args.path.now c.args.object.now
    c.args.target.now
    _ _ input _ _ c.print.result c.args.edits.items
    (ap (λ (n : ℕ). n == 0) size
    ∙ (sym c.is_empty.ensures ∙ c.if-is_empty.true))
    refl
    (c.print.ensures (no_change_text c.args.object.now c.args.target.now)
    c.no_change_text.ensures)

pub returns-in-Ok : goal.returns-in-Ok
returns-in-Ok g c = λ input part_of.
    let size : length c.args.edits.items ≡ vec_len c.args.edits =
    omega (arith, c.args.edits.ok.0) in
    edition_written (CanStay g.K.KeptFile.cut_back_may_fail) c.args.path.now c.args.object.now
    c.args.target.now
    _ _ input _ _ c.publish_edition.result c.args.edits.items
    (ap (λ (n : ℕ). n == 0) size
    ∙ (sym c.is_empty.ensures ∙ c.if-is_empty.false)) c.in-Ok.ensures.lawful
    c.in-Ok.ensures.sources
    (rw (← c.in-Ok.ensures.text)
    (c.publish_edition.ensures input part_of c.args.edits.items c.in-Ok.ensures.lines))

pub returns-in-Err : goal.returns-in-Err
returns-in-Err g c = λ input part_of.
    let size : length c.args.edits.items ≡ vec_len c.args.edits =
    omega (arith, c.args.edits.ok.0) in
    edition_refused (CanStay g.K.KeptFile.cut_back_may_fail) c.args.path.now c.args.object.now
    c.args.target.now
    _ _ input _ _ c.report.result c.args.edits.items c.in-Err.refusal
    (ap (λ (n : ℕ). n == 0) size
    ∙ (sym c.is_empty.ensures ∙ c.if-is_empty.false)) c.in-Err.ensures.refused
    (refl, (refl, c.report.ensures))
