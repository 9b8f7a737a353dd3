-- Which dates are read back from their words. This project's profile.
use Rattle.std.specs.Prelude.{◌≡◌, Bool, true, false, not, ◌&&◌, nat_le, Ok}
use Rattle.osn_grammar.specs.declared.text_reading.DateOrder.{DateOrder}
use Rattle.osn_grammar.specs.declared.text_reading.TextReading.TheVariants as say
use Rattle.osn_grammar.specs.Reading.{read_date}
use Rattle.osn_grammar.specs.Simple.{is_between}
use Rattle.osn_written.specs.declared.any_date.AnyDate.{AnyDate}
use Rattle.osn_written.specs.declared.any_date.Extent.{Extent}
use Rattle.osn_written.specs.declared.any_date.Extent.TheVariants as extent
use Rattle.osn_written.specs.declared.any_date.PartialDate.{PartialDate}
use Rattle.osn_written.specs.declared.any_date.PartialDate.TheVariants as date
use Rattle.osn_written.specs.declared.any_date.Year.{Year}
use Rattle.osn_written.specs.AnyDate.{in_year}
use Rattle.osn_written.specs.DateInWords.{words_of}

-- a year that is at most 10000, and is not written with three digits
abbrev pub is_writable_year : Year → Bool
is_writable_year y = nat_le y.first 10000 && not y.has_three_digits

-- a date of a year that may be written in words, whose month is 1 to 12 and whose day is 1 to 31
abbrev pub is_writable_date : PartialDate → Bool
is_writable_date (date.Day y month day) =
    is_writable_year y && (is_between 1 12 month && is_between 1 31 day)
is_writable_date (date.Month y month) = is_writable_year y && is_between 1 12 month
is_writable_date (date.Year y) = is_writable_year y

abbrev pub is_writable_extent : Extent → Bool
is_writable_extent (extent.On d) = is_writable_date d
is_writable_extent (extent.FromTo a b) = is_writable_date a && is_writable_date b
is_writable_extent (extent.DaysOfYear a b y) =
    is_writable_date (in_year a y) && is_writable_date (in_year b y)
is_writable_extent (extent.Before d) = is_writable_date d
is_writable_extent (extent.NotAfter d) = is_writable_date d
is_writable_extent (extent.After d) = is_writable_date d
is_writable_extent (extent.NotBefore d) = is_writable_date d
is_writable_extent (extent.Part portion d) = false
is_writable_extent (extent.Feast feast year) = false

abbrev pub is_writable : AnyDate → Bool
is_writable w = is_writable_extent w.extent

-- as a law: the words of a date that may be written in words are read as that date, in each order
-- of day and month
unfoldable pub AreWordsRead : Type 0
AreWordsRead =
    (o : DateOrder) (w : AnyDate) → is_writable w ≡ true → read_date o (words_of w)
    ≡ Ok (say.Date w)
