-- The message about a fault is what its contract says.
use Rattle.std.proofs.Common.{◌≡◌, ℕ, List, ◌++◌, codes, refl, sym, subst}
use Rattle.std.proofs.Common.{◌∙◌, inl, inr}
use Rattle.osn_folder.specs.declared.fault.OpenFailed.{OpenFailed}
use Rattle.osn_lines.specs.Streams.{Output}
use Rattle.osn_live.specs.Faults.{desk_fault_number, desk_fault_name}
use Rattle.osn_live.specs.declared.faults.DeskFault.{DeskFault}
use Rattle.osn_live.specs.declared.faults.DeskFault.TheVariants as desk_faults
use Rattle.osn_register.specs.declared.refusal.Refusal.{Refusal}
use Rattle.osn_register.specs.declared.refusal.Refusal.TheVariants as refusals
use Rattle.osn_report.specs.Fault.{fault_status, fault_line, hinted_line, refusal_end}
use Rattle.osn_report.specs.Messages.{EndsBy, Reports, ReportsAt, ReportsExplanation, ReportsIfMade}
use Rattle.osn_report.specs.Messages.{WritesLine}
use Rattle.osn_report.specs.declared.fault.CommandFault.{CommandFault}
use Rattle.osn_report.specs.declared.fault.CommandFault.TheVariants.{NoMemory, Refused}
use Rattle.osn_report.specs.declared.fault.CommandFault.TheVariants.{Desk, NotOpened}
use Rattle.osn_report.specs.declared.status.Status.{Status}
use Rattle.osn_report.specs.declared.status.Status.TheVariants as statuses

-- a refusal was reported by its line, or as NoMemory if there was no memory for the line
pub reports_refusal : (e : Output) (fault : CommandFault) (line : List ℕ) (status : Status)
    → fault_status fault ≡ statuses.Refused → line ≡ fault_line fault
    → ReportsIfMade e statuses.Refused line status → Reports e fault status
reports_refusal e fault line status is same (inl h) =
    inl (h.0 ∙ sym is, subst (WritesLine e) same h.1)
reports_refusal e fault line status is same (inr k) = inr (is, k)

-- the message about one fault is that about the same one
pub reports_same : (e : Output) (fault other : CommandFault) (status : Status)
    → fault ≡ other → Reports e other status → Reports e fault status
reports_same e fault other status is h = subst (λ f. Reports e f status) (sym is) h

pub reports_by : (e : Output) (fault other : CommandFault) (status : Status)
    → fault ≡ other → EndsBy e other status → Reports e fault status
reports_by e fault other status is h = inl (subst (λ f. EndsBy e f status) (sym is) h)

-- a refusal other than NoMemory is reported by its number and name, and by how more is allowed
pub other_status : (refusal : Refusal) → (refusal ≡ refusals.NoMemory → ⊥)
    → fault_status (Refused refusal) ≡ statuses.Refused
other_status refusals.NoMemory other = absurd (other refl)
other_status refusal other = refl

pub other_line : (refusal : Refusal) → (refusal ≡ refusals.NoMemory → ⊥)
    → hinted_line refusal ≡ fault_line (Refused refusal)
other_line refusals.NoMemory other = absurd (other refl)
other_line refusal other = refl

-- a fault of a desk other than NoMemory is reported by its number and name
pub other_desk : (fault : DeskFault) → (fault ≡ desk_faults.NoMemory → ⊥)
    → fault_status (Desk fault) ≡ statuses.Refused
other_desk desk_faults.NoMemory other = absurd (other refl)
other_desk fault other = refl

pub reports_desk : (fault : DeskFault) (n : ℕ) (s : List ℕ) → (fault ≡ desk_faults.NoMemory → ⊥)
    → n ≡ desk_fault_number fault → s ≡ desk_fault_name fault
    → codes "oldstyle: " ++ refusal_end n s ≡ fault_line (Desk fault)
reports_desk desk_faults.NoMemory n s other e k = absurd (other refl)
reports_desk fault n s other e k = rw (e, k) refl

-- any fault except that of a file that could not be opened was reported so
pub reports_explanation : (path : List ℕ) (e : Output) (fault : CommandFault) (status : Status)
    → ((cause : OpenFailed) → fault ≡ NotOpened cause → ⊥) → ReportsExplanation path e fault status
    → ReportsAt path e fault status
reports_explanation path e (NotOpened cause) status other h = absurd (other cause refl)
reports_explanation path e fault status other h = h
