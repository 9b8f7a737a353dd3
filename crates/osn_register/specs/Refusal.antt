-- The refusals by number and name, and how a call returns them: this project's profile.
use Rattle.std.specs.Prelude.{◌≡◌, ℕ, Bool, ◌⊎◌, if◌then◌else◌, List, [], ◌∷◌, codes, Option, Some}
use Rattle.std.specs.Prelude.{None, Result, MatchResult}
use Rattle.osn_register.specs.declared.refusal.Refusal.{Refusal}
use Rattle.osn_register.specs.declared.refusal.Refusal.TheVariants.{BadCode, BadName, UnknownLand}
use Rattle.osn_register.specs.declared.refusal.Refusal.TheVariants.{LandExists, DayOffLine}
use Rattle.osn_register.specs.declared.refusal.Refusal.TheVariants.{ChangeExists, NoSuchChange}
use Rattle.osn_register.specs.declared.refusal.Refusal.TheVariants.{OpeningPeriod, YearOffRange}
use Rattle.osn_register.specs.declared.refusal.Refusal.TheVariants.{ExceptionExists}
use Rattle.osn_register.specs.declared.refusal.Refusal.TheVariants.{NoSuchException, TooManyLands}
use Rattle.osn_register.specs.declared.refusal.Refusal.TheVariants.{TooManyChanges}
use Rattle.osn_register.specs.declared.refusal.Refusal.TheVariants.{TooManyExceptions}
use Rattle.osn_register.specs.declared.refusal.Refusal.TheVariants.{NothingPending, JournalFull}
use Rattle.osn_register.specs.declared.refusal.Refusal.TheVariants.{EditionsFull, BadDate, NoMemory}
use Rattle.osn_register.specs.declared.refusal.Refusal.TheVariants.{BadCount, StyleNeedsJulian}

abbrev pub refusal_number : Refusal → ℕ
refusal_number BadCode = 1
refusal_number BadName = 2
refusal_number UnknownLand = 3
refusal_number LandExists = 4
refusal_number DayOffLine = 5
refusal_number ChangeExists = 6
refusal_number NoSuchChange = 7
refusal_number OpeningPeriod = 8
refusal_number YearOffRange = 9
refusal_number ExceptionExists = 10
refusal_number NoSuchException = 11
refusal_number TooManyLands = 12
refusal_number TooManyChanges = 13
refusal_number TooManyExceptions = 14
refusal_number NothingPending = 15
refusal_number JournalFull = 16
refusal_number EditionsFull = 17
refusal_number BadDate = 18
refusal_number StyleNeedsJulian = 19
refusal_number NoMemory = 90
refusal_number BadCount = 92

abbrev pub refusal_name : Refusal → List ℕ
refusal_name BadCode = codes "BadCode"
refusal_name BadName = codes "BadName"
refusal_name UnknownLand = codes "UnknownLand"
refusal_name LandExists = codes "LandExists"
refusal_name DayOffLine = codes "DayOffLine"
refusal_name ChangeExists = codes "ChangeExists"
refusal_name NoSuchChange = codes "NoSuchChange"
refusal_name OpeningPeriod = codes "OpeningPeriod"
refusal_name YearOffRange = codes "YearOffRange"
refusal_name ExceptionExists = codes "ExceptionExists"
refusal_name NoSuchException = codes "NoSuchException"
refusal_name TooManyLands = codes "TooManyLands"
refusal_name TooManyChanges = codes "TooManyChanges"
refusal_name TooManyExceptions = codes "TooManyExceptions"
refusal_name NothingPending = codes "NothingPending"
refusal_name JournalFull = codes "JournalFull"
refusal_name EditionsFull = codes "EditionsFull"
refusal_name BadDate = codes "BadDate"
refusal_name StyleNeedsJulian = codes "StyleNeedsJulian"
refusal_name NoMemory = codes "NoMemory"
refusal_name BadCount = codes "BadCount"

-- the refusal of the first of these tests that applies
abbrev pub first_refusal : List (Bool × Refusal) → Option Refusal
first_refusal [] = None
first_refusal (t ∷ ts) = if t.0 then Some t.1 else first_refusal ts

abbrev pub or_else : Option Refusal → Option Refusal → Option Refusal
or_else None second = second
or_else (Some f) second = Some f

-- the call is a test: it passes if nothing refuses, and otherwise returns the refusal
abbrev pub IsCheckOf : {T : Type 0} → Option Refusal → Result T Refusal → Type 0
IsCheckOf refused result = MatchResult result (λ _. refused ≡ None) (λ f. refused ≡ Some f)

-- a call's refusal is this one, or NoMemory if nothing refuses
abbrev pub IsRefusalOrNoMemory : Option Refusal → Refusal → Type 0
IsRefusalOrNoMemory refused f = (refused ≡ Some f) ⊎ ((f ≡ NoMemory) × (refused ≡ None))
