-- The service that was run is the one that the options ask for.
use Rattle.std.proofs.Common.{◌≡◌, ◌∙◌, ℕ, Bool, List, Result, Ok, Err, IfErr, ap, sym, subst}
use Rattle.osn_register.specs.declared.limits.Limits.{Limits}
use Rattle.osn_invocation.specs.Invocation.{ServiceModel}
use Rattle.osn_lines.specs.Streams.{Input, Output}
use Rattle.osn_report.specs.Failure.{IsNotRead}
use Rattle.osn_report.specs.Folders.{Folders}
use Rattle.osn_report.specs.declared.fault.CommandFault.{CommandFault}
use Rattle.osn_report.specs.declared.status.Status.{Status}
use Rattle.osn_serve_commands.specs.InFolder.{RunsMode, opened_by}
use Rattle.osn_serve_commands.specs.Mode.{ModeModel, mode_model}
use Rattle.osn_serve_commands.specs.declared.mode.Mode.{Mode}

-- the service was run in the mode that was found
module _ (limits : Limits) (asked : Result ModeModel CommandFault) (service : ServiceModel)
    (CanFail : Bool → Type 0) (d : Folders) (i : Input) (o e : Output) (status : Status) where
  pub run_as : (mode found : Mode) → asked ≡ Ok (mode_model mode) → mode ≡ found
      → RunsMode limits (Ok (mode_model found)) service CanFail d i o e status
      → RunsMode limits asked service CanFail d i o e status
  run_as mode found by is h =
      subst (λ m. RunsMode limits m service CanFail d i o e status)
      (sym (by ∙ ap (λ m. Ok (mode_model m)) is)) h

  -- the options can't be used together
  pub misused : (fault : CommandFault) → asked ≡ Err fault
      → RunsMode limits (Err fault) service CanFail d i o e status
      → RunsMode limits asked service CanFail d i o e status
  misused fault by h =
      subst (λ m. RunsMode limits m service CanFail d i o e status) (sym by) h

-- a file that could not be opened is one of those that the mode opens
pub open_failed_as : {T F : Type 0} (result : Result T F) (path : F → List ℕ)
    (fault : F → CommandFault) (asked : Result ModeModel CommandFault) (mode found : Mode)
    (d : Folders) (P Q : Type 0) → asked ≡ Ok (mode_model mode) → mode ≡ found
    → IfErr result (λ failure. IsNotRead (opened_by (Ok (mode_model found))) d (path failure)
    (fault failure) × P × Q)
    → IfErr result (λ failure. IsNotRead (opened_by asked) d (path failure) (fault failure) × P × Q)
open_failed_as result path fault asked mode found d P Q by is h =
    subst (λ m. IfErr result (λ failure. IsNotRead (opened_by m) d (path failure) (fault failure)
    × P × Q)) (sym (by ∙ ap (λ m. Ok (mode_model m)) is)) h
