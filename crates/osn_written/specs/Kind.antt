-- What kind of date is written, and its word. This project's profile.
use Rattle.std.specs.Prelude.{ℕ, List, codes}
use Rattle.osn_written.specs.declared.any_date.Extent.{Extent}
use Rattle.osn_written.specs.declared.any_date.Extent.TheVariants as extent
use Rattle.osn_written.specs.declared.any_date.PartialDate.{PartialDate}
use Rattle.osn_written.specs.declared.any_date.PartialDate.TheVariants as date
use Rattle.osn_written.specs.declared.kind.Kind.{Kind}
use Rattle.osn_written.specs.declared.kind.Kind.TheVariants as kinds

-- the word of a kind of date
abbrev pub kind_word : Kind → List ℕ
kind_word kinds.Day = codes "day"
kind_word kinds.Month = codes "month"
kind_word kinds.Year = codes "year"
kind_word kinds.Range = codes "range"
kind_word kinds.Before = codes "before"
kind_word kinds.After = codes "after"
kind_word kinds.Part = codes "part"
kind_word kinds.Set = codes "set"
kind_word kinds.Feast = codes "feast"

-- of one date, and of what is written
abbrev pub kind_of_date : PartialDate → Kind
kind_of_date (date.Day year month day) = kinds.Day
kind_of_date (date.Month year month) = kinds.Month
kind_of_date (date.Year year) = kinds.Year

abbrev pub kind_of : Extent → Kind
kind_of (extent.On date) = kind_of_date date
kind_of (extent.FromTo first last) = kinds.Range
kind_of (extent.DaysOfYear first last year) = kinds.Range
kind_of (extent.Before date) = kinds.Before
kind_of (extent.NotAfter date) = kinds.Before
kind_of (extent.After date) = kinds.After
kind_of (extent.NotBefore date) = kinds.After
kind_of (extent.Part portion date) = kinds.Part
kind_of (extent.Feast feast year) = kinds.Feast
