-- How the register makes a lawful edit of a territory, and how it fails to answer a query.
use Rattle.std.specs.Prelude.{ℕ, pos, Bool, true, false, List, Option}
use Rattle.osn_days.specs.Rules.{Rules}
use Rattle.osn_territory.specs.Territory.{TerritoryModel}
use Rattle.osn_territory.specs.Changes.{with_change, with_altered, without_change}
use Rattle.osn_territory.specs.Exceptions.{with_exception, without_exception}
use Rattle.osn_register.specs.declared.change.TerritoryEdit.{TerritoryEdit}
use Rattle.osn_register.specs.declared.change.TerritoryEdit.TheVariants.{Add, Alter, Drop}
use Rattle.osn_register.specs.declared.change.TerritoryEdit.TheVariants.{AddException}
use Rattle.osn_register.specs.declared.change.TerritoryEdit.TheVariants.{DropException}
use Rattle.osn_register.specs.declared.limits.Limits.{Limits}
use Rattle.osn_register.specs.declared.refusal.Refusal.{Refusal}
use Rattle.osn_register.specs.Sources.{SourcesModel, with_period_source, with_easter_source}
use Rattle.osn_register.specs.Plain.{add_change_refusal, alter_change_refusal, drop_change_refusal}
use Rattle.osn_register.specs.Plain.{add_exception_refusal, drop_exception_refusal}

-- why a change is refused by what the territory holds
abbrev pub change_refusal : Rules → Limits → TerritoryEdit → TerritoryModel → Option Refusal
change_refusal p limits (Add day regime) t = add_change_refusal p limits (pos day) regime t
change_refusal p limits (Alter day regime) t = alter_change_refusal p (pos day) regime t
change_refusal p limits (Drop day) t = drop_change_refusal p (pos day) t
change_refusal p limits (AddException year day) t =
    add_exception_refusal p limits (pos year) (pos day) t
change_refusal p limits (DropException year) t = drop_exception_refusal p (pos year) t

abbrev pub territory_after : TerritoryEdit → TerritoryModel → TerritoryModel
territory_after (Add day regime) t = with_change t day regime
territory_after (Alter day regime) t = with_altered t day regime
territory_after (Drop day) t = without_change t day
territory_after (AddException year day) t = with_exception t year day
territory_after (DropException year) t = without_exception t year

abbrev pub change_takes_memory : TerritoryEdit → Bool
change_takes_memory (Add day regime) = true
change_takes_memory (Alter day regime) = false
change_takes_memory (Drop day) = false
change_takes_memory (AddException year day) = true
change_takes_memory (DropException year) = false

-- the number by which the source of what is changed is found
abbrev pub number_of : TerritoryEdit → ℕ
number_of (Add day regime) = day
number_of (Alter day regime) = day
number_of (Drop day) = day
number_of (AddException year day) = year
number_of (DropException year) = year

-- the sources of a territory after a change. The period or the listed Easter that the change is of
-- gets this source, or none
abbrev pub sources_after : TerritoryEdit → Option (List ℕ) → SourcesModel → SourcesModel
sources_after (Add day regime) source s = with_period_source day source s
sources_after (Alter day regime) source s = with_period_source day source s
sources_after (Drop day) source s = with_period_source day source s
sources_after (AddException year day) source s = with_easter_source year source s
sources_after (DropException year) source s = with_easter_source year source s
