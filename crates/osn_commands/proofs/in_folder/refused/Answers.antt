use Rattle.std.proofs.Common.{◌≡◌, refl, true}
use Rattle.osn_report.specs.declared.status.Status.{Status}
use Rattle.osn_report.specs.declared.status.Status.TheVariants as statuses
use Rattle.osn_commands.specs.InFolder.{refused_if}
use Rattle.osn_commands.proofs.in_folder.refused.Goals as goal

-- a status that is not that all was printed stays
stays : (status : Status) → (status ≡ statuses.Done → ⊥) → status ≡ refused_if true status
stays statuses.Done other = absurd (other refl)
stays statuses.Refused other = refl
stays statuses.Misused other = refl
stays statuses.ReadFault other = refl
stays statuses.WriteFault other = refl
stays statuses.Unwritten other = refl
stays statuses.NoMemory other = refl

pub returns-in_default : goal.returns-in_default
returns-in_default c = stays c.args.status c.in_default.not-Done
