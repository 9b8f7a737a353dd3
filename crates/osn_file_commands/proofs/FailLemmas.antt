-- Why a command of two files ended early is what its contract says.
use Rattle.std.proofs.Common.{◌≡◌, ℕ, Bool, List, [], ◌∷◌, inr, ap, subst, sym, ◌∙◌}
use Rattle.osn_folder.specs.Folder.{Changes, Opens}
use Rattle.osn_lines.specs.Streams.{Input}
use Rattle.osn_report.specs.Failure.{FailsOnTwo, path_of_two}
use Rattle.osn_report.specs.Folders.{Folders, IsReadOf}
use Rattle.osn_report.specs.declared.fault.CommandFault.{CommandFault}

-- both files were opened, and the command ended by this fault
pub failed_on_two : (first second path : List ℕ) (CanFail : Bool → Type 0) (d : Folders)
    (Why : Input → Input → CommandFault → Type 0) (fault given : CommandFault) (failed : Bool)
    (file other : Input) → Changes (Opens (first ∷ second ∷ [])) d.before d.after
    → IsReadOf d first CanFail file → IsReadOf d second CanFail other
    → failed ≡ other.unread → Why file other given
    → path ≡ path_of_two given first second failed → fault ≡ given
    → FailsOnTwo first second CanFail d Why path fault
failed_on_two first second path CanFail d Why fault given failed file other opens one two end why at
    is =
    inr (
      opens,
      file,
      one,
      other,
      two,
      (
        at ∙ ap (path_of_two given first second) end
            ∙ ap (λ f. path_of_two f first second other.unread) (sym is),
        subst (Why file other) (sym is) why,
      ),
    )
