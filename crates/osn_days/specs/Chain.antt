-- The calendars as chains of dates, each the successor of the one before. The leap years and the
-- lengths of months are those of Reingold and Dershowitz, Calendrical Calculations: of the
-- Gregorian calendar in chapter 2, of the Julian in chapter 3. The Swedish calendar of 1700 to 1712
-- is stated by the three dates that Sweden changed.
use Rattle.std.specs.Prelude.{ℕ, zero, suc, ◌+◌, ◌-◌, ◌%◌, ◌==◌, nat_lt, ℤ, pos, ◌+ℤ◌, unsigned_abs}
use Rattle.std.specs.Prelude.{Bool, not, ◌&&◌, ◌||◌, if◌then◌else◌, List, filter}
use Rattle.std.specs.Ordering.{int_eq}
use Rattle.osn_days.specs.declared.date.Date.{Date}
use Rattle.osn_days.specs.declared.calendar.Calendar.{Calendar}
use Rattle.osn_days.specs.declared.calendar.Calendar.TheVariants.{Julian, Gregorian, Swedish}
use Rattle.osn_days.specs.Rules.{Rules}
use Rattle.osn_days.specs.Line.{line}

-- every fourth year; in the Gregorian calendar only every fourth of the centuries. The Swedish
-- calendar has the Julian months, except for the three successors below
abbrev pub is_leap : Calendar → ℤ → Bool
is_leap Julian y = unsigned_abs y % 4 == 0
is_leap Gregorian y =
    (unsigned_abs y % 4 == 0) && (not (unsigned_abs y % 100 == 0) || (unsigned_abs y % 400 == 0))
is_leap Swedish y = unsigned_abs y % 4 == 0

-- thirty days have September, April, June and November
abbrev pub month_length : Calendar → ℤ → ℕ → ℕ
month_length c y m =
    if m == 2 then (if is_leap c y then 29 else 28)
    else (if (m == 4) || (m == 6) || (m == 9) || (m == 11) then 30 else 31)

-- the two dates are one
abbrev pub same_date : Date → Date → Bool
same_date a b = int_eq a.year b.year && ((a.month == b.month) && (a.day == b.day))

abbrev pub february : ℕ → ℕ → Date
february y d = record { year = pos y; month = 2; day = d }

abbrev pub march_1 : ℕ → Date
march_1 y = record { year = pos y; month = 3; day = 1 }

-- the date after a date, by the lengths of the months
abbrev pub next_by_months : Calendar → Date → Date
next_by_months c d =
    if nat_lt d.day (month_length c d.year d.month) then record d { day = d.day + 1 }
    else (if nat_lt d.month 12 then record { year = d.year; month = d.month + 1; day = 1 }
    else record { year = d.year +ℤ pos 1; month = 1; day = 1 })

-- the date after a date. The Swedish calendar is the Julian with three successors changed: 1700 has
-- no 29 February, and 1712 has a 30 February
abbrev pub next : Calendar → Date → Date
next Julian d = next_by_months Julian d
next Gregorian d = next_by_months Gregorian d
next Swedish d =
    if same_date d (february 1700 28) then march_1 1700
    else (if same_date d (february 1712 29) then february 1712 30
    else (if same_date d (february 1712 30) then march_1 1712
    else next_by_months Julian d))

-- the date of day 1
abbrev pub first_date : Calendar → Date
first_date Julian = record { year = pos 1; month = 1; day = 3 }
first_date Gregorian = record { year = pos 1; month = 1; day = 1 }
first_date Swedish = record { year = pos 1; month = 1; day = 3 }

-- the date this many days after day 1
unfoldable pub chain : Calendar → ℕ → Date
chain c zero = first_date c
chain c (suc n) = next c (chain c n)

-- the date of a day
abbrev pub date_of : Calendar → ℕ → Date
date_of c d = chain c (d - 1)

-- the days of the line that have the date
unfoldable pub days_with_date : Rules → Calendar → Date → List ℕ
days_with_date p c date = filter (λ d. same_date (date_of c d) date) (line p)
