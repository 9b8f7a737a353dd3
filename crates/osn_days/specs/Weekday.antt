-- The seven weekdays by their numbers in Calendrical Calculations, chapter 1, and their English
-- names.
use Rattle.std.specs.Prelude.{ℕ, ◌==◌, if◌then◌else◌, List, codes}
use Rattle.osn_days.specs.declared.weekday.Weekday.{Weekday}
use Rattle.osn_days.specs.declared.weekday.Weekday.TheVariants.{Sunday, Monday, Tuesday, Wednesday}
use Rattle.osn_days.specs.declared.weekday.Weekday.TheVariants.{Thursday, Friday, Saturday}

-- the weekday of a number, 0 for Sunday
unfoldable pub weekday_numbered : ℕ → Weekday
weekday_numbered n =
    if n == 0 then Sunday
    else (if n == 1 then Monday
    else (if n == 2 then Tuesday
    else (if n == 3 then Wednesday
    else (if n == 4 then Thursday
    else (if n == 5 then Friday
    else Saturday)))))

abbrev pub weekday_name : Weekday → List ℕ
weekday_name Sunday = codes "Sunday"
weekday_name Monday = codes "Monday"
weekday_name Tuesday = codes "Tuesday"
weekday_name Wednesday = codes "Wednesday"
weekday_name Thursday = codes "Thursday"
weekday_name Friday = codes "Friday"
weekday_name Saturday = codes "Saturday"
