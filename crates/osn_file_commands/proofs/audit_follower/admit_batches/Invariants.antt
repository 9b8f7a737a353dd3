use Rattle.std.proofs.Common.{◌≡◌, drop}
use Rattle.osn_days.specs.Rules.{newest_rules}
use Rattle.osn_register.specs.Plain.{after_edits}
use Rattle.osn_register.specs.Lawful.{AreLawful}
use Rattle.osn_core.specs.Sequential.{joined}
use Rattle.osn_file_commands.proofs.audit_follower.admit_batches.Given as goal

-- the batches that are left are lawful, and lead to the same territories
abbrev pub invariant-loop-batch : goal.invariant-loop-batch
invariant-loop-batch l = record {
  limits : l.register.limits ≡ l.initial.register.limits;
  lawful :
      AreLawful newest_rules l.initial.register.limits l.register.territories
      (joined (drop l.batch-index l.batches));
  territories :
      after_edits newest_rules l.initial.register.limits l.register.territories
      (joined (drop l.batch-index l.batches))
      ≡ after_edits newest_rules l.initial.register.limits l.initial.register.territories
      (joined l.batches);
}
