-- A day as a regime dates it, and its text: this project's profile.
use Rattle.std.specs.Prelude.{ℕ, pos, unsigned_abs, List, ◌++◌, codes}
use Rattle.std.specs.Fmt.{decimal}
use Rattle.osn_days.specs.Chain.{date_of}
use Rattle.osn_days.specs.Month.{month_name}
use Rattle.osn_days.specs.Rules.{Rules}
use Rattle.osn_territory.specs.declared.regime.Regime.{Regime}
use Rattle.osn_territory.specs.declared.dating.DatedDay.{DatedDay}
use Rattle.osn_territory.specs.Label.{local_label}
use Rattle.osn_territory.specs.Dual.{year_text}
use Rattle.osn_territory.specs.Territory.{TerritoryModel, regime_at}

-- the day, its label under the regime, and the year of its date counted from 1 January
abbrev pub dated_day : Rules → Regime → ℕ → DatedDay
dated_day p r d = record {
  day = d;
  label = local_label p r d;
  january_year = (date_of r.calendar d).year;
}

-- the day as a territory dates it, by the regime in force on it
abbrev pub dated_on : Rules → TerritoryModel → ℕ → DatedDay
dated_on p t d = dated_day p (regime_at t d) d

-- the years of a dated day, without a sign
unfoldable pub years_text : DatedDay → List ℕ
years_text x = year_text (pos (unsigned_abs x.label.year)) (pos (unsigned_abs x.january_year))

-- the text of a dated day
unfoldable pub dated_text : DatedDay → List ℕ
dated_text x =
    decimal x.label.day
    ++ (codes " " ++ (month_name x.label.month ++ (codes " " ++ years_text x)))
