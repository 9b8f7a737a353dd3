-- Easter, the first Sunday strictly after the paschal full moon, by the fifth canon of Inter
-- gravissimas (1582). For the Julian rule the moon is that of the cycle of 19 years in the Julian
-- calendar.
use Rattle.std.specs.Prelude.{◌≡◌, ℕ, ◌+◌, ◌<◌, ◌≤◌, ◌==◌, ◌&&◌, ◌⊎◌, nat_lt, Option, pos}
use Rattle.std.specs.List.{find}
use Rattle.std.specs.Option.{option_map, option_and_then}
use Rattle.osn_days.specs.declared.date.Date.{Date}
use Rattle.osn_days.specs.declared.calendar.Calendar.{Calendar}
use Rattle.osn_days.specs.declared.calendar.Calendar.TheVariants as calendar
use Rattle.osn_days.specs.Rules.{Rules}
use Rattle.osn_days.specs.Line.{line, weekday}
use Rattle.osn_days.specs.Chain.{date_of, same_date}
use Rattle.osn_computus.specs.declared.rule.Rule.{Rule}
use Rattle.osn_computus.specs.declared.rule.Rule.TheVariants.{Julian, Gregorian}
use Rattle.osn_computus.specs.Figures.{golden_number, gregorian_epact}
use Rattle.osn_computus.specs.Moon.{MonthDay, julian_full_moon, gregorian_new_moon}

-- the calendar of the dates of the rule's moons
abbrev pub calendar_of : Rule → Calendar
calendar_of Julian = calendar.Julian
calendar_of Gregorian = calendar.Gregorian

-- the day of a year as a date
abbrev pub date_in : ℕ → MonthDay → Date
date_in y m = record { year = pos y; month = m.month; day = m.day }

-- the day of the line with a date
unfoldable pub day_with : Rules → Calendar → Date → Option ℕ
day_with p c date = find (λ d. same_date (date_of c d) date) (line p)

-- the full moon of the table, or the fourteenth day of the moon, 13 days after the new moon of the
-- labels
unfoldable pub paschal_moon : Rules → Rule → ℕ → Option ℕ
paschal_moon p Julian y =
    option_and_then (λ m. day_with p (calendar_of Julian) (date_in y m))
    (julian_full_moon (golden_number y))
paschal_moon p Gregorian y =
    option_map (λ d. d + 13)
    (option_and_then (λ m. day_with p (calendar_of Gregorian) (date_in y m))
    (gregorian_new_moon (gregorian_epact y)))

unfoldable pub first_sunday_after : Rules → ℕ → Option ℕ
first_sunday_after p moon = find (λ d. nat_lt moon d && (weekday d == 0)) (line p)

-- the day that is Easter of the year
unfoldable pub easter_of : Rules → Rule → ℕ → Option ℕ
easter_of p rule y = option_and_then (first_sunday_after p) (paschal_moon p rule y)

-- one of the seven days after a day
abbrev pub IsInWeekAfter : ℕ → ℕ → Type 0
IsInWeekAfter moon d = (moon < d) × (d ≤ moon + 7)

-- a date from 22 March to 25 April of the year
pub record IsEasterDate (y : ℕ) (d : Date) : Type 0 where
  pub in_year : d.year ≡ pos y
  pub in_season : ((d.month ≡ 3) × (22 ≤ d.day)) ⊎ ((d.month ≡ 4) × (d.day ≤ 25))
