-- The faults of the territories of a text other than the first one that has a fault, one for each.
use Rattle.std.specs.Prelude.{ℕ, if◌then◌else◌, List, [], ◌∷◌, ◌++◌, Option, Some, None}
use Rattle.std.specs.Prelude.{Result, Ok, Err}
use Rattle.std.specs.Str.{bytes_eq}
use Rattle.toml.specs.Data.{Data, Members, no_members, member}
use Rattle.osn_register.specs.declared.limits.Limits.{Limits}
use Rattle.osn_register.specs.Plain.{EntryModel}
use Rattle.osn_register_text.specs.declared.fault.KeyFault.{KeyFault}
use Rattle.osn_register_text.specs.Field.{◌>>=◌}
use Rattle.osn_register_text.specs.Text.{member_edits, territories_after_all}

-- the register of one territory alone, or what is wrong first in its table, or what the register
-- refuses of it
abbrev pub alone : Limits → List ℕ → Data → Result (List EntryModel) KeyFault
alone limits code d = member_edits code d >>= λ edits. territories_after_all limits [] edits

abbrev pub fault_in : {A : Type 0} → Result A KeyFault → List KeyFault
fault_in (Ok x) = []
fault_in (Err fault) = fault ∷ []

-- the fault of a territory on its own, unless it has this code
abbrev pub fault_of_other : Limits → List ℕ → List ℕ → Data → List KeyFault
fault_of_other limits code other d =
    if bytes_eq other code then [] else fault_in (alone limits other d)

-- the faults of all other territories, in the order of their codes
abbrev pub faults_of_others : Limits → List ℕ → Members → List KeyFault
faults_of_others limits code no_members = []
faults_of_others limits code (member other d ms) =
    fault_of_other limits code other d ++ faults_of_others limits code ms

-- the faults of the other territories of a text, if it is TOML
abbrev pub further_faults : Limits → List ℕ → Option Members → List KeyFault
further_faults limits code None = []
further_faults limits code (Some ms) = faults_of_others limits code ms
