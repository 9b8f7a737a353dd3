-- What a service that replaces the journal which it begins with has done.
use Rattle.std.specs.Prelude.{◌≡◌, ◌⊎◌, false, List, ℕ, Option, Some, IfSome}
use Rattle.osn_folder.specs.Folder.{FolderModel}
use Rattle.osn_lines.specs.Streams.{Input, Output}
use Rattle.osn_register.specs.declared.limits.Limits.{Limits}
use Rattle.osn_service.specs.declared.rules.ServeRules.{ServeRules}
use Rattle.osn_report.specs.Printing.{PrintsNoneAt}
use Rattle.osn_report.specs.declared.fault.CommandFault.{CommandFault}
use Rattle.osn_report.specs.declared.status.Status.{Status}
use Rattle.osn_serve_commands.specs.InFolder.{EndsServing, IsNotReadWhole}

-- The journal was read whole, and the service begins with a source of the same bytes.
pub record IsReadWhole (journal initial : Input) (content : List ℕ) : Type 0 where
  pub read : IfSome journal.bytes (λ bytes. content ≡ bytes)
  pub bytes : initial.bytes ≡ Some content
  pub sound : initial.unread ≡ false

-- the journal could not be read whole, and nothing was done. Or it was, and the service was run,
-- and the file that it replaces must still contain it
abbrev pub ReplacesRead : Limits → List ℕ → Option (List ℕ) → ServeRules → Input
    → Option FolderModel
    → Option FolderModel → Input → Output → Output → Status → Type 0
ReplacesRead limits path save rules journal opened after i o e status =
    ((fault : CommandFault) × IsNotReadWhole journal fault × (after ≡ opened)
    × PrintsNoneAt path fault o e status)
    ⊎ ((content : List ℕ) × (initial : Input) × IsReadWhole journal initial content
    × EndsServing limits path save rules (Some initial) (Some content) false opened after i o e
    status)
