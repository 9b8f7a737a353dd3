use Rattle.std.proofs.Common.{◌≡◌, true, drop}
use Rattle.osn_days.specs.Rules.{newest_rules}
use Rattle.osn_register.specs.Plain.{after_edits, fold_takes_memory}
use Rattle.osn_register.proofs.register.Register.apply_all.Given as goal

-- the edits that are left lead to the same territories, and take memory only if all do
abbrev pub invariant-loop-edit : goal.invariant-loop-edit
invariant-loop-edit l =
    record {
      limits : l.self.limits ≡ l.fn.self.limits;
      territories : after_edits newest_rules l.fn.self.limits l.self.territories
          (drop l.edit-index l.edits)
          ≡ after_edits newest_rules l.fn.self.limits l.fn.self.territories l.edits;
      memory : fold_takes_memory newest_rules l.fn.self.limits l.self.territories
          (drop l.edit-index l.edits) ≡
          true
          → fold_takes_memory newest_rules l.fn.self.limits l.fn.self.territories l.edits ≡ true;
    }
