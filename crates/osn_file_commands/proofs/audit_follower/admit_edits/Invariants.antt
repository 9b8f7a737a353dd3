use Rattle.std.proofs.Common.{◌≡◌, drop}
use Rattle.osn_days.specs.Rules.{newest_rules}
use Rattle.osn_register.specs.Plain.{after_edits}
use Rattle.osn_register.specs.Lawful.{AreLawful}
use Rattle.osn_file_commands.proofs.audit_follower.admit_edits.Given as goal

-- the edits that are left are lawful, and lead to the same territories
abbrev pub invariant-loop-edit : goal.invariant-loop-edit
invariant-loop-edit l = record {
  limits : l.register.limits ≡ l.initial.register.limits;
  lawful :
      AreLawful newest_rules l.initial.register.limits l.register.territories
      (drop l.edit-index l.edits);
  territories :
      after_edits newest_rules l.initial.register.limits l.register.territories
      (drop l.edit-index l.edits)
      ≡ after_edits newest_rules l.initial.register.limits l.initial.register.territories l.edits;
}
