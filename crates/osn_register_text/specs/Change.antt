-- The changes that a territory takes towards a target one, and what each does in it.
use Rattle.std.specs.Prelude.{ℕ, pos, List, Option, None}
use Rattle.osn_days.specs.Rules.{Rules}
use Rattle.osn_territory.specs.declared.regime.Regime.{Regime}
use Rattle.osn_territory.specs.Territory.{TerritoryModel}
use Rattle.osn_territory.specs.Changes.{with_change, with_altered, without_change}
use Rattle.osn_territory.specs.Exceptions.{with_exception, without_exception}
use Rattle.osn_register.specs.declared.edit.Edit.{Edit}
use Rattle.osn_register.specs.declared.edit.Edit.TheVariants.{AddChange, AlterChange, DropChange}
use Rattle.osn_register.specs.declared.edit.Edit.TheVariants.{AddException, DropException}
use Rattle.osn_register.specs.declared.limits.Limits.{Limits}
use Rattle.osn_register.specs.declared.refusal.Refusal.{Refusal}
use Rattle.osn_register.specs.Plain.{add_change_refusal, alter_change_refusal, drop_change_refusal}
use Rattle.osn_register.specs.Plain.{add_exception_refusal, drop_exception_refusal}
use Rattle.osn_register.specs.Sources.{SourcesModel, with_period_source, with_easter_source}

-- what is added, altered or listed has a source, if one is given
pub data Change : Type 0 where
  -- a regime from a day on, on which none starts
  Add : ℕ → Regime → Option (List ℕ) → Change
  -- another regime from a day on, or another source of the regime
  Alter : ℕ → Regime → Option (List ℕ) → Change
  -- no regime from that day on
  Drop : ℕ → Change
  -- a day listed as the Easter of a year
  ListDay : ℕ → ℕ → Option (List ℕ) → Change
  -- no day listed for that year
  DropDay : ℕ → Change

-- the edit that makes a change in the territory of a code
abbrev pub edit_of : List ℕ → Change → Edit
edit_of code (Add day regime source) = AddChange code (pos day) regime source
edit_of code (Alter day regime source) = AlterChange code (pos day) regime source
edit_of code (Drop day) = DropChange code (pos day)
edit_of code (ListDay year day source) = AddException code (pos year) (pos day) source
edit_of code (DropDay year) = DropException code (pos year)

abbrev pub territory_after : Change → TerritoryModel → TerritoryModel
territory_after (Add day regime source) t = with_change t day regime
territory_after (Alter day regime source) t = with_altered t day regime
territory_after (Drop day) t = without_change t day
territory_after (ListDay year day source) t = with_exception t year day
territory_after (DropDay year) t = without_exception t year

abbrev pub sources_after : Change → SourcesModel → SourcesModel
sources_after (Add day regime source) s = with_period_source day source s
sources_after (Alter day regime source) s = with_period_source day source s
sources_after (Drop day) s = with_period_source day None s
sources_after (ListDay year day source) s = with_easter_source year source s
sources_after (DropDay year) s = with_easter_source year None s

-- why a change is refused by what the territory contains
abbrev pub change_refusal : Rules → Limits → Change → TerritoryModel → Option Refusal
change_refusal p limits (Add day regime source) t = add_change_refusal p limits (pos day) regime t
change_refusal p limits (Alter day regime source) t = alter_change_refusal p (pos day) regime t
change_refusal p limits (Drop day) t = drop_change_refusal p (pos day) t
change_refusal p limits (ListDay year day source) t =
    add_exception_refusal p limits (pos year) (pos day) t
change_refusal p limits (DropDay year) t = drop_exception_refusal p (pos year) t
