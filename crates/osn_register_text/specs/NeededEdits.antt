-- Which edits a register needs, to have the same territories as another one.
use Rattle.std.specs.Prelude.{ℕ, ◌≡◌, ◌==◌, true, List, [], ◌∷◌, unsigned_abs, Option, Some, None}
use Rattle.std.specs.Prelude.{is_some, option_map}
use Rattle.std.specs.Option.{option_and_then}
use Rattle.std.specs.Map.{lookup}
use Rattle.osn_territory.specs.declared.regime.Regime.{Regime}
use Rattle.osn_territory.specs.Territory.{TerritoryModel}
use Rattle.osn_territory.specs.Exceptions.{exception_of}
use Rattle.osn_register.specs.declared.edit.Edit.{Edit}
use Rattle.osn_register.specs.declared.edit.Edit.TheVariants.{AddLand, AddChange, AlterChange}
use Rattle.osn_register.specs.declared.edit.Edit.TheVariants.{DropChange, AddException}
use Rattle.osn_register.specs.declared.edit.Edit.TheVariants.{DropException}
use Rattle.osn_register.specs.Answer.{period_source, easter_source}
use Rattle.osn_register.specs.Plain.{EntryModel, entry_of, territory_of, sources_of, effect}

-- the name of the territory that has the code
abbrev pub name_in : List EntryModel → List ℕ → Option (List ℕ)
name_in territories code = option_map (λ l. l.name) (entry_of code territories)

-- the regime that starts on a day, if one does
abbrev pub regime_from : TerritoryModel → ℕ → Option Regime
regime_from t d = lookup (λ day. d == day) t.starts

-- the regime that starts on a day in the territory that has the code
abbrev pub regime_in : List EntryModel → List ℕ → ℕ → Option Regime
regime_in territories code d =
    option_and_then (λ t. regime_from t d) (territory_of code territories)

-- the day that is listed as the Easter of a year, in the territory that has the code
abbrev pub easter_in : List EntryModel → List ℕ → ℕ → Option ℕ
easter_in territories code y =
    option_and_then (λ t. exception_of t y) (territory_of code territories)

-- the source of the period that starts on a day, in the territory that has the code
abbrev pub period_cited : List EntryModel → List ℕ → ℕ → Option (List ℕ)
period_cited territories code d = period_source (sources_of code territories) d

-- the source of the listed Easter of a year, in the territory that has the code
abbrev pub easter_cited : List EntryModel → List ℕ → ℕ → Option (List ℕ)
easter_cited territories code y = easter_source (sources_of code territories) y

-- The edit changes what differs. It adds a territory or a change that only the target register has.
-- It alters a regime that starts in both, if the target one or its source is another. It drops a
-- change that only the first register has, of a territory of the target. It lists a target day for
-- a year without one, and drops a day that is not the target day of its year, or has another
-- source. What it adds, alters or lists has the target source.
abbrev pub IsNeeded : List EntryModel → List EntryModel → Edit → Type 0
IsNeeded target territories (AddLand code name regime source) =
    (entry_of code territories ≡ None) × (name_in target code ≡ Some name)
    × (regime_in target code 1 ≡ Some regime) × (source ≡ period_cited target code 1)
IsNeeded target territories (AddChange code day regime source) =
    (regime_in territories code (unsigned_abs day) ≡ None)
    × (regime_in target code (unsigned_abs day) ≡ Some regime)
    × (source ≡ period_cited target code (unsigned_abs day))
IsNeeded target territories (AlterChange code day regime source) =
    (is_some (regime_in territories code (unsigned_abs day)) ≡ true)
    × (regime_in territories code (unsigned_abs day) ≡ Some regime
    → period_cited territories code (unsigned_abs day) ≡ source → ⊥)
    × (regime_in target code (unsigned_abs day) ≡ Some regime)
    × (source ≡ period_cited target code (unsigned_abs day))
IsNeeded target territories (DropChange code day) =
    (is_some (entry_of code target) ≡ true)
    × (is_some (regime_in territories code (unsigned_abs day)) ≡ true)
    × (regime_in target code (unsigned_abs day) ≡ None)
IsNeeded target territories (AddException code year day source) =
    (easter_in territories code (unsigned_abs year) ≡ None)
    × (easter_in target code (unsigned_abs year) ≡ Some (unsigned_abs day))
    × (source ≡ easter_cited target code (unsigned_abs year))
IsNeeded target territories (DropException code year) =
    (is_some (entry_of code target) ≡ true)
    × (is_some (easter_in territories code (unsigned_abs year)) ≡ true)
    × (easter_in target code (unsigned_abs year) ≡ easter_in territories code (unsigned_abs year)
    → easter_cited target code (unsigned_abs year)
    ≡ easter_cited territories code (unsigned_abs year) → ⊥)

-- each edit is needed in its turn, from these territories on
abbrev pub AreNeeded : List EntryModel → List EntryModel → List Edit → Type 0
AreNeeded target territories [] = Unit {0}
AreNeeded target territories (e ∷ es) = IsNeeded target territories e
    × AreNeeded target (effect territories e) es
