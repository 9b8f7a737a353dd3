-- The days of a date that is one day, by its label and by the search of the line.
use Rattle.std.specs.Prelude.{false}
use Rattle.std.specs.List.Sorted.{IsPermutation}
use Rattle.osn_days.specs.Rules.{Rules}
use Rattle.osn_written.specs.declared.any_date.PartialDate.{PartialDate}
use Rattle.osn_written.specs.declared.any_date.PartialDate.TheVariants.{Day}
use Rattle.osn_territory.specs.Territory.{TerritoryModel}
use Rattle.osn_written.specs.declared.written_date.WrittenDate.{WrittenDate}
use Rattle.osn_written.specs.Meaning.{days_meant}
use Rattle.osn_written.specs.Runs.{all_meant}

-- the day, as a day, a month or a year is written
abbrev pub simple_of : WrittenDate → PartialDate
simple_of w = Day (record {
  first = w.year;
  is_double = w.is_double;
  has_three_digits = false;
}) w.month w.day

-- as a law: they are the same days, in some order
unfoldable pub AreSameDays : Rules → TerritoryModel → Type 0
AreSameDays p t =
    (w : WrittenDate) → IsPermutation (all_meant p t (simple_of w)) (days_meant p t w)
