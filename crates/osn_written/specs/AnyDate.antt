-- A day of a year, and which of the dates that people write have a year that may lack a digit. This
-- project's profile.
use Rattle.std.specs.Prelude.{Bool, ◌||◌}
use Rattle.osn_written.specs.declared.any_date.Extent.{Extent}
use Rattle.osn_written.specs.declared.any_date.Extent.TheVariants as extent
use Rattle.osn_written.specs.declared.any_date.PartialDate.{PartialDate}
use Rattle.osn_written.specs.declared.any_date.PartialDate.TheVariants as date
use Rattle.osn_written.specs.declared.any_date.Year.{Year}
use Rattle.osn_written.specs.declared.written_date.MonthDay.{MonthDay}

-- the day of a year
abbrev pub in_year : MonthDay → Year → PartialDate
in_year d year = date.Day year d.month d.day

-- a year is written with three digits and no zero before them
abbrev pub has_year_of_three_digits : PartialDate → Bool
has_year_of_three_digits (date.Day year month day) = year.has_three_digits
has_year_of_three_digits (date.Month year month) = year.has_three_digits
has_year_of_three_digits (date.Year year) = year.has_three_digits

abbrev pub has_three_digits : Extent → Bool
has_three_digits (extent.On d) = has_year_of_three_digits d
has_three_digits (extent.FromTo a b) = has_year_of_three_digits a || has_year_of_three_digits b
has_three_digits (extent.DaysOfYear a b year) = year.has_three_digits
has_three_digits (extent.Before d) = has_year_of_three_digits d
has_three_digits (extent.NotAfter d) = has_year_of_three_digits d
has_three_digits (extent.After d) = has_year_of_three_digits d
has_three_digits (extent.NotBefore d) = has_year_of_three_digits d
has_three_digits (extent.Part portion d) = has_year_of_three_digits d
has_three_digits (extent.Feast feast year) = year.has_three_digits
