-- The years of a territory whose Easter is a listed day in place of the rule's: this project's
-- profile.
use Rattle.std.specs.Prelude.{ℕ, ◌≡◌, ◌==◌, if◌then◌else◌, is_some, Option, Some, None}
use Rattle.std.specs.Ordering.{nat_cmp}
use Rattle.std.specs.List.Sorted.{IsStrictlyIncreasing}
use Rattle.std.specs.Map.{lookup, remove_entry, keys_of}
use Rattle.std.specs.BTreeMap.{insert_entry}
use Rattle.osn_territory.specs.declared.fault.LandFault.{LandFault}
use Rattle.osn_territory.specs.declared.fault.LandFault.TheVariants.{ExceptionExists}
use Rattle.osn_territory.specs.declared.fault.LandFault.TheVariants.{NoSuchException}
use Rattle.osn_territory.specs.Territory.{TerritoryModel}

-- the day that is listed as the Easter of a year, if one is
abbrev pub exception_of : TerritoryModel → ℕ → Option ℕ
exception_of t y = lookup (λ year. y == year) t.exceptions

-- why an exception is not added for a year, if it is not
abbrev pub add_exception_fault : TerritoryModel → ℕ → Option LandFault
add_exception_fault t y = if is_some (exception_of t y) then Some ExceptionExists else None

-- why the exception of a year is not dropped
abbrev pub drop_exception_fault : TerritoryModel → ℕ → Option LandFault
drop_exception_fault t y = if is_some (exception_of t y) then None else Some NoSuchException

-- a day listed for one year more
abbrev pub with_exception : TerritoryModel → ℕ → ℕ → TerritoryModel
with_exception t y d = record t { exceptions = insert_entry nat_cmp t.exceptions y d }

-- no day listed for that year
abbrev pub without_exception : TerritoryModel → ℕ → TerritoryModel
without_exception t y = record t { exceptions = remove_entry (λ year. y == year) t.exceptions }

-- the years with an exception ascend, so that each is listed once
abbrev pub HasAscendingYears : TerritoryModel → Type 0
HasAscendingYears t = IsStrictlyIncreasing (keys_of t.exceptions)

-- every other year has the same exception after as before
abbrev pub KeepsOtherYears : TerritoryModel → TerritoryModel → ℕ → Type 0
KeepsOtherYears before after y = (other : ℕ) → (other ≡ y → ⊥) →
    exception_of after other ≡ exception_of before other
