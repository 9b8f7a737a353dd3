-- Whether a place counted the days double that a date with both years means. This project's
-- profile.
use Rattle.std.specs.Prelude.{ℕ, Bool, not, ◌&&◌, ◌||◌, pos}
use Rattle.std.specs.List.{list_any}
use Rattle.std.specs.Ordering.{int_eq}
use Rattle.osn_days.specs.Rules.{Rules}
use Rattle.osn_written.specs.declared.any_date.Extent.{Extent}
use Rattle.osn_written.specs.declared.any_date.PartialDate.{PartialDate}
use Rattle.osn_territory.specs.Dating.{dated_on}
use Rattle.osn_territory.specs.Territory.{TerritoryModel}
use Rattle.osn_written.specs.Finding.{ends_of}
use Rattle.osn_written.specs.Runs.{all_double, year_of}

-- the place dated the day by another year
abbrev pub is_dated_otherwise : Rules → TerritoryModel → ℕ → ℕ → Bool
is_dated_otherwise p own first d = not (int_eq (dated_on p own d).label.year (pos first))

-- the date has both years, and means by the reckoning of a territory a day that the place itself
-- dated by another year than the first one
abbrev pub is_date_not_counted_double : Rules → TerritoryModel → TerritoryModel → PartialDate
    → Bool
is_date_not_counted_double p own t date =
    (year_of date).is_double
    && list_any (is_dated_otherwise p own (year_of date).first) (all_double p t date)

-- a date of what is written was not counted double: the first or the last one of a range
abbrev pub is_extent_not_counted_double : Rules → TerritoryModel → TerritoryModel → Extent → Bool
is_extent_not_counted_double p own t e =
    is_date_not_counted_double p own t (ends_of e).0
    || is_date_not_counted_double p own t (ends_of e).1
