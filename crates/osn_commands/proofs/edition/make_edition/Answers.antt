use Rattle.osn_commands.proofs.EditionLemmas.{staged_more}
use Rattle.osn_commands.proofs.edition.make_edition.Goals as goal

pub loop-edit-preserved : goal.loop-edit-preserved
loop-edit-preserved c =
    let l = c.loop-edit in
    let before = l.invariant in
    let more = staged_more c.args.object.now l.object c.admit.new.self c.args.edits.items _ _
    c.in-Some.edit c.in-Some.ensures.steps.0 c.in_ok-admit.ensures.ok c.in_ok-check.ensures.test
    c.in_ok-admit.ensures.source before.2 before.3 before.4 before.5 before.6 in
    (tt, tt, more.0, more.1, more.2, more.3, more.4)
