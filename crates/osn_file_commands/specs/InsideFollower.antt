-- A register that advances from edition to edition.
use Rattle.std.specs.Prelude.{◌≡◌, ◌≤◌, List, length, take}
use Rattle.osn_days.specs.Rules.{newest_rules}
use Rattle.osn_register.specs.declared.edit.Edit.{Edit}
use Rattle.osn_register.specs.declared.limits.Limits.{Limits}
use Rattle.osn_core.specs.Sequential.{territories_of}
use Rattle.osn_file_commands.specs.declared.audit_follower.RegisterCursor.{RegisterCursor}

-- the register is that of the first batches, as many as the edition says
pub record IsAt (limits : Limits) (batches : List (List Edit)) (f : RegisterCursor) : Type 0 where
  pub there : f.edition ≤ length batches
  pub same : f.register.limits ≡ limits
  pub territories : f.register.territories
      ≡ territories_of newest_rules limits (take f.edition batches)
