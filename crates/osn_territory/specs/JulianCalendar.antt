-- A territory as if it had gone by the Julian calendar on every day. This project's profile.
use Rattle.std.specs.Prelude.{[], map}
use Rattle.osn_days.specs.declared.calendar.Calendar.TheVariants.{Julian}
use Rattle.osn_territory.specs.declared.period.Period.{Period}
use Rattle.osn_territory.specs.declared.regime.Regime.{Regime}
use Rattle.osn_territory.specs.Territory.{TerritoryModel}

-- a regime by the Julian calendar
abbrev pub by_julian : Regime → Regime
by_julian r = record r { calendar = Julian }

-- the period by the Julian calendar
abbrev pub period_in_julian : Period → Period
period_in_julian p = record p { regime = by_julian p.regime }

-- the same territory with the Julian calendar in each period, its styles and rules kept, without
-- listed Easters
abbrev pub in_julian_calendar : TerritoryModel → TerritoryModel
in_julian_calendar t =
    record { starts = map (λ s. (s.0, by_julian s.1)) t.starts; exceptions = [] }
