-- The plain register: territories in the order in which they were added, which edits are lawful,
-- and what they do. The rules are this project's profile.
use Rattle.std.specs.Prelude.{ℕ, ◌≡◌, ◌≤◌, ◌+◌, Bool, true, false, not, ◌&&◌, ◌||◌, ◌==◌, nat_le}
use Rattle.std.specs.Prelude.{nat_lt, if◌then◌else◌, ℤ, pos, int_le, unsigned_abs, List, [], ◌∷◌}
use Rattle.std.specs.Prelude.{◌++◌, length, fold, find, Option, Some, None, is_some, is_none}
use Rattle.std.specs.Prelude.{option_map}
use Rattle.std.specs.Str.{bytes_eq}
use Rattle.osn_days.specs.Rules.{Rules}
use Rattle.osn_days.specs.Line.{IsDay, IsYear}
use Rattle.osn_territory.specs.declared.regime.Regime.{Regime}
use Rattle.osn_territory.specs.Style.{lacks_julian}
use Rattle.osn_territory.specs.Territory.{TerritoryModel, of_one_regime, periods_of, CoversLine}
use Rattle.osn_territory.specs.Changes.{starts_on, with_change, with_altered, without_change}
use Rattle.osn_territory.specs.Exceptions.{exception_of, with_exception, without_exception}
use Rattle.osn_territory.specs.Exceptions.{HasAscendingYears}
use Rattle.osn_register.specs.declared.limits.Limits.{Limits}
use Rattle.osn_register.specs.declared.edit.Edit.{Edit}
use Rattle.osn_register.specs.declared.edit.Edit.TheVariants.{AddLand, AddChange, AlterChange}
use Rattle.osn_register.specs.declared.edit.Edit.TheVariants.{DropChange, AddException}
use Rattle.osn_register.specs.declared.edit.Edit.TheVariants.{DropException}
use Rattle.osn_register.specs.declared.refusal.Refusal.{Refusal}
use Rattle.osn_register.specs.declared.refusal.Refusal.TheVariants.{BadCode, BadName, UnknownLand}
use Rattle.osn_register.specs.declared.refusal.Refusal.TheVariants.{LandExists, DayOffLine}
use Rattle.osn_register.specs.declared.refusal.Refusal.TheVariants.{ChangeExists, NoSuchChange}
use Rattle.osn_register.specs.declared.refusal.Refusal.TheVariants.{OpeningPeriod, YearOffRange}
use Rattle.osn_register.specs.declared.refusal.Refusal.TheVariants.{ExceptionExists}
use Rattle.osn_register.specs.declared.refusal.Refusal.TheVariants.{NoSuchException, TooManyLands}
use Rattle.osn_register.specs.declared.refusal.Refusal.TheVariants.{TooManyChanges}
use Rattle.osn_register.specs.declared.refusal.Refusal.TheVariants.{TooManyExceptions}
use Rattle.osn_register.specs.declared.refusal.Refusal.TheVariants.{StyleNeedsJulian}
use Rattle.osn_register.specs.Refusal.{first_refusal, or_else}
use Rattle.osn_register.specs.Code.{is_code, is_name}
use Rattle.osn_register.specs.Sources.{SourcesModel, HasSources, opening_sources}
use Rattle.osn_register.specs.Sources.{with_period_source, with_easter_source}

-- a territory with its code, its name and its sources
pub record EntryModel : Type 0 where
  pub code : List ℕ
  pub name : List ℕ
  pub territory : TerritoryModel
  pub sources : SourcesModel

-- the territories under limits
pub record RegisterModel : Type 0 where
  pub limits : Limits
  pub territories : List EntryModel

-- the territory of a code
abbrev pub entry_of : List ℕ → List EntryModel → Option EntryModel
entry_of code territories = find (λ l. bytes_eq code l.code) territories

abbrev pub territory_of : List ℕ → List EntryModel → Option TerritoryModel
territory_of code territories = option_map (λ l. l.territory) (entry_of code territories)

-- the sources of the territory of a code
abbrev pub sources_of : List ℕ → List EntryModel → Option SourcesModel
sources_of code territories = option_map (λ l. l.sources) (entry_of code territories)

abbrev pub is_between : ℤ → ℤ → ℤ → Bool
is_between low high n = int_le low n && int_le n high

-- the style of a regime requires the Julian calendar and rule, and the regime has others, if the
-- rules test that
abbrev pub is_style_refused : Rules → Regime → Bool
is_style_refused p regime = p.tests_style && lacks_julian regime

abbrev pub add_land_refusal : Rules → Limits → List EntryModel → List ℕ → List ℕ → Regime
    → Option Refusal
add_land_refusal p limits territories code name regime = first_refusal (
    (not (is_code code), BadCode)
    ∷ (not (is_name name), BadName)
    ∷ (is_some (entry_of code territories), LandExists)
    ∷ (is_style_refused p regime, StyleNeedsJulian)
    ∷ (nat_le limits.lands (length territories), TooManyLands)
    ∷ [])

-- why an edit or a query of a territory is refused for its code
abbrev pub code_refusal : List EntryModel → List ℕ → Option Refusal
code_refusal territories code =
    first_refusal ((not (is_code code), BadCode)
    ∷ (is_none (entry_of code territories), UnknownLand) ∷ [])

abbrev pub is_off_line : Rules → ℤ → Bool
is_off_line p day = not (is_between (pos 1) (pos p.high) day)

-- the year has no figures, no Easter and no exception
abbrev pub is_off_years : Rules → ℤ → Bool
is_off_years p year = not (is_between (pos 1) (pos p.last_year) year)

abbrev pub add_change_refusal : Rules → Limits → ℤ → Regime → TerritoryModel → Option Refusal
add_change_refusal p limits day regime t = first_refusal (
    (is_off_line p day, DayOffLine)
    ∷ (unsigned_abs day == 1, OpeningPeriod)
    ∷ (starts_on t (unsigned_abs day), ChangeExists)
    ∷ (is_style_refused p regime, StyleNeedsJulian)
    ∷ (nat_lt limits.changes (length t.starts), TooManyChanges)
    ∷ [])

abbrev pub alter_change_refusal : Rules → ℤ → Regime → TerritoryModel → Option Refusal
alter_change_refusal p day regime t = first_refusal (
    (is_off_line p day, DayOffLine)
    ∷ (not (starts_on t (unsigned_abs day)), NoSuchChange)
    ∷ (is_style_refused p regime, StyleNeedsJulian)
    ∷ [])

abbrev pub drop_change_refusal : Rules → ℤ → TerritoryModel → Option Refusal
drop_change_refusal p day t = first_refusal (
    (is_off_line p day, DayOffLine)
    ∷ (unsigned_abs day == 1, OpeningPeriod)
    ∷ (not (starts_on t (unsigned_abs day)), NoSuchChange)
    ∷ [])

abbrev pub add_exception_refusal : Rules → Limits → ℤ → ℤ → TerritoryModel → Option Refusal
add_exception_refusal p limits year day t = first_refusal (
    (is_off_line p day, DayOffLine)
    ∷ (is_off_years p year, YearOffRange)
    ∷ (is_some (exception_of t (unsigned_abs year)), ExceptionExists)
    ∷ (nat_le limits.exceptions (length t.exceptions), TooManyExceptions)
    ∷ [])

abbrev pub drop_exception_refusal : Rules → ℤ → TerritoryModel → Option Refusal
drop_exception_refusal p year t = first_refusal (
    (is_off_years p year, YearOffRange)
    ∷ (is_none (exception_of t (unsigned_abs year)), NoSuchException)
    ∷ [])

abbrev pub inside : (TerritoryModel → Option Refusal) → Option TerritoryModel → Option Refusal
inside refused None = None
inside refused (Some t) = refused t

-- why an edit of a territory is refused: for its code, or else by what the territory of the code
-- holds
abbrev pub refusal_in : List EntryModel → List ℕ → (TerritoryModel → Option Refusal) →
    Option Refusal
refusal_in territories code refused =
    or_else (code_refusal territories code) (inside refused (territory_of code territories))

-- why an edit is refused, if it is
abbrev pub refusal : Rules → Limits → List EntryModel → Edit → Option Refusal
refusal p limits territories (AddLand code name regime source) =
    add_land_refusal p limits territories code name regime
refusal p limits territories (AddChange code day regime source) =
    refusal_in territories code (add_change_refusal p limits day regime)
refusal p limits territories (AlterChange code day regime source) =
    refusal_in territories code (alter_change_refusal p day regime)
refusal p limits territories (DropChange code day) =
    refusal_in territories code (drop_change_refusal p day)
refusal p limits territories (AddException code year day source) =
    refusal_in territories code (add_exception_refusal p limits year day)
refusal p limits territories (DropException code year) =
    refusal_in territories code (drop_exception_refusal p year)

-- whether an edit takes memory. Only one that adds a territory, a change, an exception or a source
-- does
abbrev pub takes_memory : Edit → Bool
takes_memory (AddLand code name regime source) = true
takes_memory (AddChange code day regime source) = true
takes_memory (AlterChange code day regime source) = is_some source
takes_memory (DropChange code day) = false
takes_memory (AddException code year day source) = true
takes_memory (DropException code year) = false

-- the territories, with a change of the one that has the code, and of its sources
abbrev pub with_territory : List ℕ → (TerritoryModel → TerritoryModel)
    → (SourcesModel → SourcesModel) → List EntryModel → List EntryModel
with_territory code change cite [] = []
with_territory code change cite (l ∷ ls) =
    if bytes_eq code l.code
    then record l { territory = change l.territory; sources = cite l.sources } ∷ ls
    else l ∷ with_territory code change cite ls

-- the territories, with one more
abbrev pub with_entry : List EntryModel → List ℕ → List ℕ → TerritoryModel → SourcesModel
    → List EntryModel
with_entry territories code name territory sources = territories ++ record {
  code = code;
  name = name;
  territory = territory;
  sources = sources;
} ∷ []

-- The territories after a lawful edit. What is added or altered has the source that the edit gives,
-- or none, and what is dropped has none
abbrev pub effect : List EntryModel → Edit → List EntryModel
effect territories (AddLand code name regime source) =
    with_entry territories code name (of_one_regime regime) (opening_sources source)
effect territories (AddChange code day regime source) =
    with_territory code (λ t. with_change t (unsigned_abs day) regime)
    (with_period_source (unsigned_abs day) source) territories
effect territories (AlterChange code day regime source) =
    with_territory code (λ t. with_altered t (unsigned_abs day) regime)
    (with_period_source (unsigned_abs day) source) territories
effect territories (DropChange code day) =
    with_territory code (λ t. without_change t (unsigned_abs day))
    (with_period_source (unsigned_abs day) None) territories
effect territories (AddException code year day source) =
    with_territory code (λ t. with_exception t (unsigned_abs year) (unsigned_abs day))
    (with_easter_source (unsigned_abs year) source) territories
effect territories (DropException code year) =
    with_territory code (λ t. without_exception t (unsigned_abs year))
    (with_easter_source (unsigned_abs year) None) territories

abbrev pub unless_refused : Option Refusal → List EntryModel → List EntryModel → List EntryModel
unless_refused None new old = new
unless_refused (Some f) new old = old

-- the territories after an edit. A refused one has no effect
abbrev pub after_edit : Rules → Limits → List EntryModel → Edit → List EntryModel
after_edit p limits territories e =
    unless_refused (refusal p limits territories e) (effect territories e) territories

-- the territories after edits in turn
abbrev pub after_edits : Rules → Limits → List EntryModel → List Edit → List EntryModel
after_edits p limits territories es = fold (after_edit p limits) territories es

-- the register of edits in turn, from the empty one
abbrev pub register_after : Rules → Limits → List Edit → RegisterModel
register_after p limits es = record { limits = limits; territories = after_edits p limits [] es }

-- whether applying an edit takes memory: a lawful one that adds
abbrev pub apply_takes_memory : Rules → Limits → List EntryModel → Edit → Bool
apply_takes_memory p limits territories e = is_none (refusal p limits territories e)
    && takes_memory e

-- whether applying edits in turn takes memory
abbrev pub fold_takes_memory : Rules → Limits → List EntryModel → List Edit → Bool
fold_takes_memory p limits territories [] = false
fold_takes_memory p limits territories (e ∷ es) =
    apply_takes_memory p limits territories e
    || fold_takes_memory p limits (after_edit p limits territories e) es

-- no two territories have one code
abbrev pub AreDistinct : List EntryModel → Type 0
AreDistinct [] = Unit {0}
AreDistinct (l ∷ ls) = (entry_of l.code ls ≡ None) × AreDistinct ls

-- every regime has the calendar and rule that its style requires, if the rules test that
abbrev pub AreStyled : Rules → List (ℕ × Regime) → Type 0
AreStyled p [] = Unit {0}
AreStyled p (s ∷ ss) = (is_style_refused p s.1 ≡ false) × AreStyled p ss

-- every listed day is one of the line, of a year that has an Easter
abbrev pub AreListed : Rules → List (ℕ × ℕ) → Type 0
AreListed p [] = Unit {0}
AreListed p (e ∷ es) = IsYear p e.0 × IsDay p e.1 × AreListed p es

-- what holds of every territory of a register
pub record IsSoundTerritory (p : Rules) (limits : Limits) (t : TerritoryModel) : Type 0 where
  -- a territory has one period more than changes
  pub changes : length t.starts ≤ limits.changes + 1
  pub exceptions : length t.exceptions ≤ limits.exceptions
  pub periods : CoversLine p (periods_of p t)
  pub years : HasAscendingYears t
  pub styles : AreStyled p t.starts
  pub listed : AreListed p t.exceptions

abbrev pub AreSound : Rules → Limits → List EntryModel → Type 0
AreSound p limits [] = Unit {0}
AreSound p limits (l ∷ ls) = IsSoundTerritory p limits l.territory × AreSound p limits ls

-- every territory has a code and a name that it may have
abbrev pub AreNamed : List EntryModel → Type 0
AreNamed [] = Unit {0}
AreNamed (l ∷ ls) = (is_code l.code ≡ true) × (is_name l.name ≡ true) × AreNamed ls

-- every source is one that may be given
abbrev pub HaveSources : List EntryModel → Type 0
HaveSources [] = Unit {0}
HaveSources (l ∷ ls) = HasSources l.sources × HaveSources ls

-- codes are distinct, and codes, names and sources of their forms. The territories, their changes
-- and their exceptions are within their limits. The periods of each territory cover the line, and
-- its years with an exception ascend
pub record IsWellFormed (p : Rules) (r : RegisterModel) : Type 0 where
  pub distinct : AreDistinct r.territories
  pub named : AreNamed r.territories
  pub within : length r.territories ≤ r.limits.lands
  pub territories : AreSound p r.limits r.territories
  pub sources : HaveSources r.territories
