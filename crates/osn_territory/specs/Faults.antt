-- What a call that may be refused returns, by why it is refused.
use Rattle.std.specs.Prelude.{◌≡◌, ◌⊎◌, Option, Some, None, Result, MatchResult}
use Rattle.osn_territory.specs.declared.fault.LandFault.{LandFault}
use Rattle.osn_territory.specs.declared.fault.LandFault.TheVariants.{NoMemory}

-- Ok if nothing refuses, otherwise the fault
abbrev pub IsCheckOf : {T : Type 0} → Option LandFault → Result T LandFault → Type 0
IsCheckOf refused result = MatchResult result (λ _. refused ≡ None) (λ f. refused ≡ Some f)

-- the fault that refuses, or NoMemory if nothing refuses
abbrev pub IsFaultOrNoMemory : Option LandFault → LandFault → Type 0
IsFaultOrNoMemory refused f = (refused ≡ Some f) ⊎ ((f ≡ NoMemory) × (refused ≡ None))
