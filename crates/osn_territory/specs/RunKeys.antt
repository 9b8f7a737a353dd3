-- How the runs of a year or a month are found: by numbers of the days that never fall.
use Rattle.std.specs.Prelude.{ℕ, ◌+◌, ◌-◌, ◌<◌, ◌≤◌, ◌==◌, ◌&&◌, ℤ, pos, ◌+ℤ◌, ◌-ℤ◌, ◌*ℤ◌}
use Rattle.std.specs.Prelude.{Bool, true, Option, Some, None, List, [], ◌∷◌, filter}
use Rattle.std.specs.List.{range_with_len}
use Rattle.std.specs.Ordering.{int_eq}
use Rattle.osn_days.specs.declared.date.Date.{Date}
use Rattle.osn_days.specs.Rules.{Rules}
use Rattle.osn_days.specs.Line.{line}
use Rattle.osn_days.specs.Chain.{date_of}
use Rattle.osn_territory.specs.declared.style.Style.{Style}
use Rattle.osn_territory.specs.declared.style.Style.TheVariants.{January, Annunciation, Nativity}
use Rattle.osn_territory.specs.declared.style.Style.TheVariants.{September, Pisan, Easter}
use Rattle.osn_territory.specs.declared.regime.Regime.{Regime}
use Rattle.osn_territory.specs.declared.period.Period.{Period}
use Rattle.osn_territory.specs.declared.runs.Run.{Run}
use Rattle.osn_territory.specs.declared.runs.Key.{Key}
use Rattle.osn_territory.specs.declared.runs.Key.TheVariants.{Year, Month}
use Rattle.osn_territory.specs.declared.runs.YearOrMonth.{YearOrMonth}
use Rattle.osn_territory.specs.Style.{style_year}
use Rattle.osn_territory.specs.Territory.{TerritoryModel, regime_at}

-- the number of a date's month, of which each year counted from 1 January has 256
abbrev pub month_number : Date → ℤ
month_number date = date.year *ℤ pos 256 +ℤ pos date.month

-- the number of a day by a key
abbrev pub number_on : Rules → Key → ℕ → ℤ
number_on p (Year r) d = style_year p r d
number_on p (Month c) d = month_number (date_of c d)

-- the first of the two years counted from 1 January that the days of a style's year lie in
abbrev pub january_year : Style → ℤ → ℤ
january_year January y = y
january_year Annunciation y = y
january_year Nativity y = y -ℤ pos 1
january_year September y = y -ℤ pos 1
january_year Pisan y = y -ℤ pos 1
january_year Easter y = y

-- the month is that one, if one is asked for
abbrev pub is_month : Option ℕ → ℕ → Bool
is_month None m = true
is_month (Some month) m = m == month

-- the day is one of those that are sought, under a regime
abbrev pub is_sought : Rules → YearOrMonth → Regime → ℕ → Bool
is_sought p s r d =
    int_eq (style_year p r d) s.year && is_month s.month (date_of r.calendar d).month

-- the days that are sought in a period, and those in a territory
abbrev pub sought_in : Rules → YearOrMonth → Period → List ℕ
sought_in p s q = filter (is_sought p s q.regime) (range_with_len q.first (q.last + 1 - q.first))

unfoldable pub days_sought : Rules → TerritoryModel → YearOrMonth → List ℕ
days_sought p t s = filter (λ d. is_sought p s (regime_at t d) d) (line p)

-- how many runs a period has at most
abbrev pub most_runs : Option ℕ → ℕ
most_runs None = 1
most_runs (Some month) = 2

-- the runs begin after a day and end before another one, and each begins after the one before it
-- ends
abbrev pub LieBetween : ℕ → ℕ → List Run → Type 0
LieBetween after before [] = after < before
LieBetween after before (r ∷ rs) =
    (after < r.first) × (r.first ≤ r.last) × LieBetween r.last before rs
