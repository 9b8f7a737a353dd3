-- The year as each style counts it: this project's profile. A date's own year is counted from 1
-- January.
use Rattle.std.specs.Prelude.{ℕ, Bool, true, false, not, ◌&&◌, ◌||◌, ◌==◌, nat_lt, nat_le}
use Rattle.std.specs.Prelude.{if◌then◌else◌, ℤ, pos, ◌+ℤ◌, ◌-ℤ◌, unsigned_abs, Option, Some, None}
use Rattle.osn_days.specs.declared.date.Date.{Date}
use Rattle.osn_days.specs.declared.calendar.Calendar.{Calendar}
use Rattle.osn_days.specs.declared.calendar.Calendar.TheVariants as calendars
use Rattle.osn_days.specs.Rules.{Rules}
use Rattle.osn_days.specs.Chain.{date_of}
use Rattle.osn_computus.specs.declared.rule.Rule.{Rule}
use Rattle.osn_computus.specs.declared.rule.Rule.TheVariants as rules
use Rattle.osn_computus.specs.Easter.{easter_of}
use Rattle.osn_territory.specs.declared.style.Style.{Style}
use Rattle.osn_territory.specs.declared.style.Style.TheVariants.{January, Annunciation, Nativity}
use Rattle.osn_territory.specs.declared.style.Style.TheVariants.{September, Pisan, Easter}
use Rattle.osn_territory.specs.declared.regime.Regime.{Regime}

-- from 1 January to 24 March
abbrev pub is_before_25_march : ℕ → ℕ → Bool
is_before_25_march month day = nat_lt month 3 || ((month == 3) && nat_lt day 25)

-- from 25 to 31 December
abbrev pub is_from_25_december : ℕ → ℕ → Bool
is_from_25_december month day = (month == 12) && nat_le 25 day

-- from 1 September to 31 December
abbrev pub is_from_september : ℕ → Bool
is_from_september month = nat_le 9 month

abbrev pub is_before : ℕ → Option ℕ → Bool
is_before d None = false
is_before d (Some easter) = nat_lt d easter

-- the day is before the Easter day of the year by the Julian rule
abbrev pub is_before_easter : Rules → ℤ → ℕ → Bool
is_before_easter p year d = is_before d (easter_of p rules.Julian (unsigned_abs year))

-- the style's year of a date, which is before that Easter day or not
abbrev pub year_by : Style → Date → Bool → ℤ
year_by January date before_easter = date.year
year_by Annunciation date before_easter =
    if is_before_25_march date.month date.day then date.year -ℤ pos 1 else date.year
year_by Nativity date before_easter =
    if is_from_25_december date.month date.day then date.year +ℤ pos 1 else date.year
year_by September date before_easter =
    if is_from_september date.month then date.year +ℤ pos 1 else date.year
year_by Pisan date before_easter =
    if is_before_25_march date.month date.day then date.year else date.year +ℤ pos 1
year_by Easter date before_easter = if before_easter then date.year -ℤ pos 1 else date.year

-- the style's year of a day under a regime
abbrev pub style_year : Rules → Regime → ℕ → ℤ
style_year p r d =
    year_by r.style (date_of r.calendar d) (is_before_easter p (date_of r.calendar d).year d)

abbrev pub is_julian : Calendar → Rule → Bool
is_julian calendars.Julian rules.Julian = true
is_julian calendars.Julian rules.Gregorian = false
is_julian calendars.Gregorian rule = false
is_julian calendars.Swedish rule = false

abbrev pub is_from_easter : Style → Bool
is_from_easter January = false
is_from_easter Annunciation = false
is_from_easter Nativity = false
is_from_easter September = false
is_from_easter Pisan = false
is_from_easter Easter = true

-- the regime has a year from Easter to Easter, and not the Julian calendar and the Julian rule that
-- it requires
abbrev pub lacks_julian : Regime → Bool
lacks_julian r = is_from_easter r.style && not (is_julian r.calendar r.rule)
