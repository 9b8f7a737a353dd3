-- The day that an edit names by its number, and the regime before it. This project's profile.
use Rattle.std.specs.Prelude.{ℕ, ◌-◌, ◌==◌, if◌then◌else◌, ℤ, unsigned_abs, List, ◌++◌, codes}
use Rattle.std.specs.Prelude.{Option, Some, None, option_map, option_and_then}
use Rattle.std.specs.Fmt.{signed_decimal}
use Rattle.osn_days.specs.Rules.{Rules}
use Rattle.osn_territory.specs.declared.dating.DatedDay.{DatedDay}
use Rattle.osn_territory.specs.declared.regime.Regime.{Regime}
use Rattle.osn_territory.specs.Dating.{dated_on}
use Rattle.osn_territory.specs.Territory.{TerritoryModel, regime_at}
use Rattle.osn_pages.specs.Words.{numbered_day}
use Rattle.osn_register.specs.Plain.{is_off_line}

-- the day of a number, if the line has it
abbrev pub day_numbered : Rules → ℤ → Option ℕ
day_numbered p number = if is_off_line p number then None else Some (unsigned_abs number)

-- the day before a day, if the line has it
abbrev pub day_before : ℕ → Option ℕ
day_before day = if day == 1 then None else Some (day - 1)

-- the day of a number as a territory dates it
abbrev pub dated_in : Rules → Option TerritoryModel → ℤ → Option DatedDay
dated_in p None number = None
dated_in p (Some t) number = option_map (dated_on p t) (day_numbered p number)

-- the regime of a territory on the day before that of a number
abbrev pub regime_before : Rules → Option TerritoryModel → ℤ → Option Regime
regime_before p None number = None
regime_before p (Some t) number =
    option_map (regime_at t) (option_and_then day_before (day_numbered p number))

-- the regime of a territory on the first day
abbrev pub opening_regime : Option TerritoryModel → Option Regime
opening_regime None = None
opening_regime (Some t) = Some (regime_at t 1)

-- the day of an edit: Thursday 14 September 1752 (day 639797), or day 4000000 if it is not known
abbrev pub day_words : Option DatedDay → ℤ → List ℕ
day_words (Some dated) number = numbered_day dated
day_words None number = codes "day " ++ signed_decimal number
