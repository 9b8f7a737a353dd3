use Rattle.std.proofs.Common.{◌∙◌, ap}
use Rattle.osn_file_commands.proofs.FollowLemmas.{batches_lawful}
use Rattle.osn_file_commands.proofs.audit_follower.RegisterCursor.ask.Goals as goal

pub at-requires-clause-lawful : goal.at-requires-clause-lawful
at-requires-clause-lawful c =
    batches_lawful c.args.object.now c.replace-before.result.register.limits c.batches.result.now
    c.batches.ensures.sound
    (ap (λ f. f.register.limits) c.replace-before.ensures.value ∙ c.requires.at.same)
    c.batches.ensures.value
