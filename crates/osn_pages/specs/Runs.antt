-- The lines of days that follow one another, which a month, a year, a range or a bound means. This
-- project's profile.
use Rattle.std.specs.Prelude.{ℕ, ◌==◌, ◌+◌, ◌-◌, if◌then◌else◌, List, ◌++◌, codes}
use Rattle.std.specs.Fmt.{decimal}
use Rattle.std.specs.List.{flat_map}
use Rattle.osn_days.specs.Rules.{Rules}
use Rattle.osn_territory.specs.declared.dating.DatedDay.{DatedDay}
use Rattle.osn_territory.specs.declared.runs.Run.{Run}
use Rattle.osn_territory.specs.Dating.{dated_on}
use Rattle.osn_territory.specs.Territory.{TerritoryModel}
use Rattle.osn_written.specs.declared.kind.Kind.{Kind}
use Rattle.osn_written.specs.declared.kind.Kind.TheVariants as kinds
use Rattle.osn_pages.specs.Reading.{plain_day_line}

-- the first day, and the last one
unfoldable pub from_line : DatedDay → List ℕ
from_line x = codes "from " ++ plain_day_line x

unfoldable pub to_line : DatedDay → List ℕ
to_line x = codes "to   " ++ plain_day_line x

-- how many days there are: 7 days, 1 day
unfoldable pub count_line : ℕ → List ℕ
count_line count =
    if count == 1 then codes "1 day\n" else decimal count ++ codes " days\n"

-- a first and a last day, or the one day if both are the same
abbrev pub ends_lines : Rules → TerritoryModel → ℕ → ℕ → List ℕ
ends_lines p t first last =
    if first == last then plain_day_line (dated_on p t first)
    else from_line (dated_on p t first) ++ to_line (dated_on p t last)

-- from the first day to the last one, and how many they are
abbrev pub whole_lines : Rules → TerritoryModel → Run → List ℕ
whole_lines p t r = ends_lines p t r.first r.last ++ count_line (r.last + 1 - r.first)

-- before a date there is no first day, and after it no last one
abbrev pub until_lines : Rules → TerritoryModel → Run → List ℕ
until_lines p t r = codes "from any earlier day\n" ++ to_line (dated_on p t r.last)

abbrev pub since_lines : Rules → TerritoryModel → Run → List ℕ
since_lines p t r = from_line (dated_on p t r.first) ++ codes "to   any later day\n"

-- the lines of a run, by what kind of date means it
abbrev pub run_lines : Rules → TerritoryModel → Kind → Run → List ℕ
run_lines p t kinds.Before r = until_lines p t r
run_lines p t kinds.After r = since_lines p t r
run_lines p t kinds.Feast r = ends_lines p t r.first r.last
run_lines p t kind r = whole_lines p t r

-- the lines of all runs, in their order
abbrev pub runs_text : Rules → TerritoryModel → Kind → List Run → List ℕ
runs_text p t kind runs = flat_map (run_lines p t kind) runs
