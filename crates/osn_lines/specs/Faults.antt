-- What holds if taking lines ended early, by the cause, and why a read or a write fails.
use Rattle.std.specs.Prelude.{◌≡◌, ◌≤◌, ◌⊎◌, ℕ, Bool, true, List, length, Option, IfSome}
use Rattle.osn_lines.specs.declared.fault.TakeFault.{TakeFault}
use Rattle.osn_lines.specs.declared.fault.TakeFault.TheVariants.{NoMemory, ReadFault, Stopped}

-- a fact for each cause, that of a stop being of why the taker stopped
abbrev pub MatchFault : {S : Type 0} → TakeFault S → Type 0 → Type 0 → (S → Type 0) → Type 0
MatchFault NoMemory P Q R = P
MatchFault ReadFault P Q R = Q
MatchFault (Stopped why) P Q R = R why

-- the source failed, or it gives no end in 4,294,967,295 reads
abbrev pub IsReadFault : Bool → Option (List ℕ) → Type 0
IsReadFault failed input = (failed ≡ true) ⊎ IfSome input (λ bytes. 4294967295 ≤ length bytes)

-- the sink failed, or it is as sound as it was and the writes that are made did not suffice
abbrev pub WriteFails : Bool → Bool → List ℕ → Type 0
WriteFails old new text = (new ≡ true) ⊎ ((new ≡ old) × (4294967295 ≤ length text))
