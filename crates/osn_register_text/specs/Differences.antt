-- The edits of a plan in their order: territory by territory, in each first the changes of regime
-- that are dropped, then those of each target start, and then the listed Easters in the same way.
use Rattle.std.specs.Prelude.{ℕ, ◌==◌, Bool, false, ◌&&◌, if◌then◌else◌, List, []}
use Rattle.std.specs.Prelude.{◌∷◌, ◌++◌, map, drop, flat_map, Option, Some, None}
use denote.Enum.Bare.{sameb}
use Rattle.osn_days.specs.contracts.calendar.Calendar as calendar
use Rattle.osn_computus.specs.contracts.rule.Rule as rule
use Rattle.osn_territory.specs.contracts.style.Style as style
use Rattle.osn_territory.specs.declared.regime.Regime.{Regime}
use Rattle.osn_territory.specs.Territory.{TerritoryModel, no_start, regime_at}
use Rattle.osn_territory.specs.Changes.{starts_on}
use Rattle.osn_territory.specs.Exceptions.{exception_of}
use Rattle.osn_register.specs.declared.edit.Edit.{Edit}
use Rattle.osn_register.specs.declared.edit.Edit.TheVariants.{AddLand}
use Rattle.osn_register.specs.Answer.{period_source, easter_source}
use Rattle.osn_register.specs.Plain.{EntryModel, entry_of, sources_of}
use Rattle.osn_register.specs.Sources.{SourcesModel}
use Rattle.osn_register_text.specs.Change.{Change, edit_of}
use Rattle.osn_register_text.specs.Change.Change.{Add, Alter, Drop, ListDay, DropDay}
use Rattle.osn_register_text.specs.CitedSources.{BothSources, same_period, same_easter}

abbrev pub is_same : Regime → Regime → Bool
is_same a b =
    sameb calendar.the_type a.calendar b.calendar
    && (sameb style.the_type a.style b.style && sameb rule.the_type a.rule b.rule)

-- a start is dropped on a day without a target start
abbrev pub dropped_change : TerritoryModel → ℕ → List Change
dropped_change target d = if starts_on target d then [] else Drop d ∷ []

-- a start is added with the target source
abbrev pub added_change : Option SourcesModel → ℕ × Regime → List Change
added_change cited s = Add s.0 s.1 (period_source cited s.0) ∷ []

-- the present regime and source are those of a target start
abbrev pub start_agrees : BothSources → Regime → ℕ × Regime → Bool
start_agrees both current s = is_same current s.1 && same_period both s.0

-- a present regime is altered to another one, or to the same one with another source
abbrev pub altered_change : BothSources → Regime → ℕ × Regime → List Change
altered_change both current s =
    if start_agrees both current s then []
    else Alter s.0 s.1 (period_source both.target s.0) ∷ []

-- a target start is added on a day without a start, and altered on one with another regime or
-- another source
abbrev pub target_change : BothSources → TerritoryModel → ℕ × Regime → List Change
target_change both current s =
    if starts_on current s.0 then altered_change both (regime_at current s.0) s
    else added_change both.target s

abbrev pub is_day : ℕ → Option ℕ → Bool
is_day d None = false
is_day d (Some other) = other == d

-- the day is listed for the year
abbrev pub lists : TerritoryModel → ℕ × ℕ → Bool
lists t e = is_day e.1 (exception_of t e.0)

-- the day is listed for the year, with the target source
abbrev pub day_agrees : BothSources → TerritoryModel → ℕ × ℕ → Bool
day_agrees both t e = lists t e && same_easter both e.0

-- a listed day is dropped that is not in the target, or that has another source
abbrev pub dropped_exception : BothSources → TerritoryModel → ℕ × ℕ → List Change
dropped_exception both target e = if day_agrees both target e then [] else DropDay e.0 ∷ []

-- a day is listed with the target source
abbrev pub added_exception : Option SourcesModel → ℕ × ℕ → List Change
added_exception cited e = ListDay e.0 e.1 (easter_source cited e.0) ∷ []

-- a target day is listed that is not listed yet, or that has another source
abbrev pub target_exception : BothSources → TerritoryModel → ℕ × ℕ → List Change
target_exception both current e =
    if day_agrees both current e then [] else added_exception both.target e

-- the changes that take a territory to the target one
abbrev pub differences : BothSources → TerritoryModel → TerritoryModel → List Change
differences both current target =
    flat_map (λ s. dropped_change target s.0) current.starts
    ++ (flat_map (target_change both current) target.starts
    ++ (flat_map (dropped_exception both target) current.exceptions
    ++ flat_map (target_exception both current) target.exceptions))

-- the regime of the first start
abbrev pub opening : List (ℕ × Regime) → Regime
opening [] = no_start
opening (s ∷ rest) = s.1

-- the changes that make the target territory of one that has its opening regime alone
abbrev pub later : Option SourcesModel → TerritoryModel → List Change
later cited target =
    flat_map (added_change cited) (drop 1 target.starts)
    ++ flat_map (added_exception cited) target.exceptions

abbrev pub edits_from : Option SourcesModel → List ℕ → List ℕ → TerritoryModel → Option EntryModel
    → List Edit
edits_from cited code name target None =
    AddLand code name (opening target.starts) (period_source cited 1)
    ∷ map (edit_of code) (later cited target)
edits_from cited code name target (Some current) =
    map (edit_of code) (differences (record { current = Some current.sources; target = cited })
    current.territory target)

-- the edits that take the territory of a code to the target one, or add it
abbrev pub entry_edits : List EntryModel → List EntryModel → List ℕ → List ℕ → TerritoryModel
    → List Edit
entry_edits target territories code name territory =
    edits_from (sources_of code target) code name territory (entry_of code territories)

-- the edits of these target territories in turn
abbrev pub edits_for : List EntryModel → List EntryModel → List EntryModel → List Edit
edits_for target territories left =
    flat_map (λ l. entry_edits target territories l.code l.name l.territory) left

-- the edits of all target territories
abbrev pub all_edits : List EntryModel → List EntryModel → List Edit
all_edits target territories = edits_for target territories target
