-- The line of days: the fixed dates (Rata Die) of Reingold and Dershowitz, Calendrical
-- Calculations, chapter 1, from 1 January of year 1 Gregorian, a Monday.
use Rattle.std.specs.Prelude.{ℕ, ◌+◌, ◌%◌, ◌≤◌, ℤ, pos, ◌≤ℤ◌, List}
use Rattle.std.specs.List.{range_with_len}
use Rattle.osn_days.specs.Rules.{Rules}

-- the line has this day
abbrev pub IsDay : Rules → ℕ → Type 0
IsDay p d = (1 ≤ d) × (d ≤ p.high)

-- the line has the day of a signed number
abbrev pub IsOnLine : Rules → ℤ → Type 0
IsOnLine p d = (pos 1 ≤ℤ d) × (d ≤ℤ pos p.high)

-- every day, in order
unfoldable pub line : Rules → List ℕ
line p = range_with_len 1 p.high

-- the weekday, 0 for Sunday
abbrev pub weekday : ℕ → ℕ
weekday d = d % 7

-- the Julian day number of astronomers, at noon of the day (the same chapter)
abbrev pub julian_day : ℕ → ℕ
julian_day d = d + 1721425

-- a year that has figures
abbrev pub IsYear : Rules → ℕ → Type 0
IsYear p y = (1 ≤ y) × (y ≤ p.last_year)

-- the year of a signed number has figures
abbrev pub IsYearNumber : Rules → ℤ → Type 0
IsYearNumber p y = (pos 1 ≤ℤ y) × (y ≤ℤ pos p.last_year)
