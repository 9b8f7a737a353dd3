-- Why there is no plan.
use Rattle.std.specs.Prelude.{ℕ, ◌+◌, ◌<◌, ◌≡◌, Bool, false, not, List, [], ◌∷◌, ◌++◌, find}
use Rattle.std.specs.Prelude.{Option, Some, None, option_map, length}
use Rattle.std.specs.Str.{bytes_eq}
use Rattle.osn_days.specs.Rules.{newest_rules}
use Rattle.osn_register.specs.declared.limits.Limits.{Limits}
use Rattle.osn_register.specs.declared.edit.Edit.{Edit}
use Rattle.osn_register.specs.declared.refusal.Refusal.{Refusal as Reason}
use Rattle.osn_register.specs.declared.refusal.Refusal.TheVariants.{TooManyLands, TooManyChanges}
use Rattle.osn_register.specs.declared.refusal.Refusal.TheVariants.{TooManyExceptions}
use Rattle.osn_register.specs.Lawful.{AreLawful, code_of}
use Rattle.osn_register.specs.Plain.{EntryModel, entry_of, refusal, after_edits}
use Rattle.osn_register_text.specs.declared.plan_fault.PlanFault.{PlanFault}
use Rattle.osn_register_text.specs.declared.plan_fault.PlanFault.TheVariants.{Renamed, Refused}
use Rattle.osn_register_text.specs.declared.plan_fault.PlanFault.TheVariants.{NoMemory}
use Rattle.osn_register_text.specs.NeededEdits.{name_in, AreNeeded}

abbrev pub has_other_name : List ℕ → Option (List ℕ) → Bool
has_other_name name None = false
has_other_name name (Some current) = not (bytes_eq current name)

-- the first territory of the target whose code has another name in the register
abbrev pub first_renamed : List EntryModel → List EntryModel → Option EntryModel
first_renamed target territories =
    find (λ l. has_other_name l.name (name_in territories l.code)) target

-- why the target can't have a code under this name
abbrev pub IsNameFault : List EntryModel → List ℕ → List ℕ → PlanFault → Type 0
IsNameFault territories code name (Renamed other current new_name) =
    (other ≡ code) × (new_name ≡ name) × (name_in territories code ≡ Some current)
    × (bytes_eq current name ≡ false)
IsNameFault territories code name (Refused other reason) = ⊥
IsNameFault territories code name NoMemory = Unit {0}

-- the first of them has this name in the target, and present under another one
pub record IsRenamed (target territories : List EntryModel) (code current name : List ℕ) : Type 0
  where
    pub has_code : option_map (λ l. l.code) (first_renamed target territories) ≡ Some code
    pub has_name : option_map (λ l. l.name) (first_renamed target territories) ≡ Some name
    pub stands : name_in territories code ≡ Some current

-- a limit allows fewer than the changes or the exceptions of the target territory, or it is that of
-- territories
abbrev pub IsOver : Limits → Option EntryModel → Reason → Type 0
IsOver limits (Some l) TooManyChanges = limits.changes + 1 < length l.territory.starts
IsOver limits (Some l) TooManyExceptions = limits.exceptions < length l.territory.exceptions
IsOver limits o TooManyLands = Unit {0}
IsOver limits o reason = ⊥

-- after edits that are needed and lawful, one more is needed, of the territory that has the code,
-- and the register refuses it, by a limit that is too low for the target
pub record IsRefused (limits : Limits) (target territories : List EntryModel) (code : List ℕ)
    (reason : Reason) : Type 0 where
  pub before : List Edit
  pub edit : Edit
  pub lawful : AreLawful newest_rules limits territories before
  pub needed : AreNeeded target territories (before ++ edit ∷ [])
  pub has_code : code_of edit ≡ code
  pub refused : refusal newest_rules limits (after_edits newest_rules limits territories before)
      edit ≡ Some reason
  pub over : IsOver limits (entry_of code target) reason

-- why an edit is not taken
abbrev pub IsEditFault : Limits → List EntryModel → Edit → PlanFault → Type 0
IsEditFault limits territories edit (Renamed code current name) = ⊥
IsEditFault limits territories edit (Refused code reason) =
    (code_of edit ≡ code) × (refusal newest_rules limits territories edit ≡ Some reason)
IsEditFault limits territories edit NoMemory = Unit {0}

-- of these edits one is refused, after those before it, which are lawful
pub record IsRefusedAmong (limits : Limits) (territories : List EntryModel) (edits : List Edit)
    (code : List ℕ) (reason : Reason) : Type 0 where
  pub before : List Edit
  pub edit : Edit
  pub after : List Edit
  pub among : edits ≡ before ++ edit ∷ after
  pub lawful : AreLawful newest_rules limits territories before
  pub has_code : code_of edit ≡ code
  pub refused : refusal newest_rules limits (after_edits newest_rules limits territories before)
      edit ≡ Some reason

-- why edits are not taken
abbrev pub IsTrialFault : Limits → List EntryModel → List Edit → PlanFault → Type 0
IsTrialFault limits territories edits (Renamed code current name) = ⊥
IsTrialFault limits territories edits (Refused code reason) =
    IsRefusedAmong limits territories edits code reason
IsTrialFault limits territories edits NoMemory = Unit {0}

-- why there is no plan
abbrev pub IsFault : Limits → List EntryModel → List EntryModel → PlanFault → Type 0
IsFault limits target territories (Renamed code current name) =
    IsRenamed target territories code current name
IsFault limits target territories (Refused code reason) =
    (first_renamed target territories ≡ None) × IsRefused limits target territories code reason
IsFault limits target territories NoMemory = Unit {0}
