-- What was found at the path of a save is what its contract says.
use Rattle.std.proofs.Common.{◌≡◌, ℕ, Bool, List, [], Option, Some, None}
use Rattle.std.proofs.Common.{Err, refl, subst, unwrap_or, inr}
use Rattle.osn_days.specs.Rules.{newest_rules}
use Rattle.osn_files.specs.Faults.{MatchFileFault}
use Rattle.osn_files.specs.Journal.{load}
use Rattle.osn_files.specs.declared.fault.FileFault.{FileFault}
use Rattle.osn_files.specs.declared.fault.FileFault.TheVariants as file_faults
use Rattle.osn_files.specs.declared.fault.Role.TheVariants as roles
use Rattle.osn_folder.specs.Crash.{LeavesAllSafe}
use Rattle.osn_folder.specs.Folder.{FolderModel, Changes}
use Rattle.osn_lines.specs.Lines.{lines}
use Rattle.osn_lines.specs.Streams.{Input, Output}
use Rattle.osn_register.specs.declared.limits.Limits.{Limits}
use Rattle.osn_service.specs.declared.rules.ServeRules.{ServeRules}
use Rattle.osn_report.specs.declared.status.Status.{Status}
use Rattle.osn_serve_commands.specs.InFolder.{EndsServing, FindsNoTarget, FindsTarget}
use Rattle.osn_serve_commands.specs.InFolder.{RefusesTarget, SavesOverFound, bytes_of}
use Rattle.osn_serve_commands.specs.InFolder.{is_left_beside}
use Rattle.osn_serve_commands.specs.SaveTarget.{HoldsNoTarget, ReportsTarget, by_load}
use Rattle.osn_serve_commands.specs.declared.target.SaveTarget.{SaveTarget}
use Rattle.osn_serve_commands.specs.declared.target.TargetFault.{TargetFault}
use Rattle.osn_serve_commands.specs.declared.target.TargetFault.TheVariants.{NoJournal, NotOpened}
use Rattle.osn_serve_commands.specs.declared.target.TargetFault.TheVariants.{NotRead, NoMemory}

-- if nothing was done, a crash leaves what it left
pub same_safe : (known : Option FolderModel) → Changes LeavesAllSafe known known
same_safe None = tt
same_safe (Some k) = (refl, refl, refl)

-- what a file contains makes no object
pub not_loaded : (limits : Limits) (content input : List ℕ) (Spared Failed : Type 0)
    (fault : FileFault) (why : TargetFault) → why ≡ by_load fault → input ≡ content
    → MatchFileFault fault Spared Failed (λ named line why. (named ≡ roles.Journal)
    × (load newest_rules limits (lines input) ≡ Err (line, why)))
    → HoldsNoTarget limits content why
not_loaded limits content input Spared Failed (file_faults.BadLine role line cause) (NotOpened why)
    is
    same h = absurd (cc)
not_loaded limits content input Spared Failed file_faults.ReadFault (NotOpened why) is same h =
    absurd (cc)
not_loaded limits content input Spared Failed file_faults.NoMemory (NotOpened why) is same h =
    absurd (cc)
not_loaded limits content input Spared Failed fault NotRead is same h = tt
not_loaded limits content input Spared Failed fault NoMemory is same h = tt
not_loaded limits content input Spared Failed (file_faults.BadLine role line cause) NoJournal is
    same
    h = (
      (line, cause),
      subst (λ (b : List ℕ). load newest_rules limits (lines b)
          ≡ Err (line, cause)) same h.1,
    )
not_loaded limits content input Spared Failed file_faults.ReadFault NoJournal is same h =
    absurd (cc)
not_loaded limits content input Spared Failed file_faults.NoMemory NoJournal is same h = absurd (cc)

-- a journal is not saved over what was found
pub target_refused : (limits : Limits) (save : Option (List ℕ)) (opened after : Option FolderModel)
    (o e : Output) (status : Status) (path : List ℕ) (fault : TargetFault)
    → path ≡ unwrap_or save [] → FindsNoTarget limits save opened after fault → o.new ≡ o.old
    → ReportsTarget path e fault status → RefusesTarget limits save opened after o e status
target_refused limits save opened after o e status path fault at found same message =
    (fault, found, same, subst (λ p. ReportsTarget p e fault status) at message)

-- the service was run, and its journal saved over what was found
pub saved_over : (limits : Limits) (named input : List ℕ) (save locked : Option (List ℕ))
    (rules : ServeRules) (initial : Option Input) (opened looked after : Option FolderModel)
    (i : Input)
    (o e : Output) (status : Status) (found : SaveTarget) (bytes : Option (List ℕ)) (beside : Bool)
    → input ≡ named → locked ≡ save → FindsTarget limits save opened looked found
    → Changes LeavesAllSafe opened looked
    → bytes ≡ bytes_of found → beside ≡ is_left_beside found
    → EndsServing limits input locked rules initial bytes beside looked after i o e status
    → SavesOverFound limits named save rules initial opened after i o e status
saved_over limits named input save locked rules initial opened looked after i o e status found bytes
    beside at by target safe is so h =
    inr (
      found,
      looked,
      target,
      safe,
      subst (λ p. EndsServing limits p save rules initial (bytes_of found) (is_left_beside found)
          looked after i o e status) at
          (subst (λ s. EndsServing limits input s rules initial (bytes_of found)
          (is_left_beside found) looked after i o e status) by
          (subst (λ (b : Option (List ℕ)). EndsServing limits input locked rules initial b
          (is_left_beside found) looked after i o e status) is
          (subst (λ (b : Bool). EndsServing limits input locked rules initial bytes b looked after i
          o e status) so h))),
    )
