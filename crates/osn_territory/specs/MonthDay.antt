-- The months and days that a calendar has in some year: this project's profile.
use Rattle.std.specs.Prelude.{ℕ, Bool, ◌==◌, ◌&&◌}
use Rattle.std.specs.List.{list_any}
use Rattle.osn_days.specs.declared.calendar.Calendar.{Calendar}
use Rattle.osn_days.specs.Rules.{Rules}
use Rattle.osn_days.specs.Line.{line}
use Rattle.osn_days.specs.Chain.{date_of}

-- a day of the line has a date with the month and the day of the month
unfoldable pub has_month_day : Rules → Calendar → ℕ → ℕ → Bool
has_month_day p c m d =
    list_any (λ n. ((date_of c n).month == m) && ((date_of c n).day == d)) (line p)
