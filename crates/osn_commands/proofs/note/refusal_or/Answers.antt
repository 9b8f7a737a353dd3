use Rattle.osn_commands.specs.Edition.{edition_refusal}
use Rattle.osn_commands.proofs.NoteLemmas.{none_refused, some_refused}
use Rattle.osn_commands.proofs.note.refusal_or.Goals as goal

pub returns-in-Ok : goal.returns-in-Ok
returns-in-Ok c =
    none_refused (edition_refusal c.args.object.now c.args.edits.items) c.args.other
    c.in-Ok.ensures.lawful

pub returns-in-Err : goal.returns-in-Err
returns-in-Err c =
    some_refused (edition_refusal c.args.object.now c.args.edits.items) c.args.other
    c.in-Err.refusal c.in-Err.ensures.refused
