-- The line on a change of regime that shows the last day before it and the first one after, as the
-- territory dates both, and how many dates are left out between them or come twice. This project's
-- profile.
use Rattle.std.specs.Prelude.{ℕ, ℤ, List, [], ◌++◌, codes, Option, Some, None}
use Rattle.osn_days.specs.Chain.{date_of, days_with_date}
use Rattle.osn_days.specs.Rules.{Rules}
use Rattle.osn_territory.specs.declared.dating.DatedDay.{DatedDay}
use Rattle.osn_territory.specs.Dating.{dated_on}
use Rattle.osn_territory.specs.Territory.{TerritoryModel, regime_at}
use Rattle.osn_pages.specs.Turn.{gap_words}
use Rattle.osn_pages.specs.Words.{named_day}
use Rattle.osn_register_text.specs.EditDay.{day_before, day_numbered}

-- GB: Wednesday 2 September 1752 is followed by Thursday 14 September 1752
unfoldable pub days_words : List ℕ → DatedDay → DatedDay → List ℕ
days_words code last first =
    code
    ++ (codes ": " ++ (named_day last ++ (codes " is followed by " ++ named_day first)))

-- the line of the day before a first day and of that day: the date of the first day is looked up in
-- the calendar before
unfoldable pub followed_line : Rules → List ℕ → TerritoryModel → ℕ → ℕ → List ℕ
followed_line p code t last first =
    days_words code (dated_on p t last) (dated_on p t first)
    ++ (gap_words (days_with_date p (regime_at t last).calendar
    (date_of (regime_at t first).calendar first)) first
    ++ codes "\n")

-- the line of a first day and of the day before it, if there is one
abbrev pub line_from : Rules → List ℕ → TerritoryModel → Option ℕ → ℕ → List ℕ
line_from p code t None first = []
line_from p code t (Some last) first = followed_line p code t last first

-- the line of a first day, if the line of days has it
abbrev pub line_on : Rules → List ℕ → TerritoryModel → Option ℕ → List ℕ
line_on p code t None = []
line_on p code t (Some first) = line_from p code t (day_before first) first

-- the line of the first day of this number, if the territory is known
abbrev pub followed_lines : Rules → List ℕ → Option TerritoryModel → ℤ → List ℕ
followed_lines p code None number = []
followed_lines p code (Some t) number = line_on p code t (day_numbered p number)
