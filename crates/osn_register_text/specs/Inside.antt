-- What the readers inside the crate return: what the definitions say, unless memory runs out.
use Rattle.std.specs.Prelude.{◌≡◌, List, ◌++◌, Result, Ok, Err}
use Rattle.osn_register_text.specs.declared.fault.KeyFault.{KeyFault}
use Rattle.osn_register_text.specs.declared.fault.TextFault.{TextFault}
use Rattle.osn_register_text.specs.declared.fault.TextFault.TheVariants as faults
use Rattle.osn_register_text.specs.declared.place.Place.{Place}
use Rattle.osn_register_text.specs.Field as field
use Rattle.osn_register_text.specs.Field.{◌>>=◌}
use Rattle.osn_register_text.specs.TerritoryText.{Placed}

-- the place that a table has
abbrev pub place_of : Place → field.Place
place_of at = record { code = at.code.now; part = at.part }

-- a fault is the given one, or NoMemory
abbrev pub Means : TextFault → KeyFault → Type 0
Means (faults.Toml fault) said = ⊥
Means (faults.Key fault) said = fault ≡ said
Means faults.NoMemory said = Unit {0}

-- a fault is that of a reading; NoMemory says nothing
abbrev pub Fails : {A : Type 0} → TextFault → Result A KeyFault → Type 0
Fails (faults.Toml fault) said = ⊥
Fails (faults.Key fault) said = said ≡ Err fault
Fails faults.NoMemory said = Unit {0}

-- the result is the given one, unless memory runs out
abbrev pub Gives : {A : Type 0} → Result A TextFault → Result A KeyFault → Type 0
Gives (Ok x) said = said ≡ Ok x
Gives (Err e) said = Fails e said

-- edits after those that were there before
abbrev pub onto : List Placed → Result (List Placed) KeyFault → Result (List Placed) KeyFault
onto before said = said >>= λ more. Ok (before ++ more)
