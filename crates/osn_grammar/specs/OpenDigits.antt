-- Days and months in digits whose last digit is open, as EDTF writes them: 1675-05-0X, 1675-1X.
-- With an open month alone, 1675-XX is the year. This project's profile.
use Rattle.std.specs.Prelude.{ℕ, ◌*◌, ◌+◌, ◌==◌, ◌&&◌, not, if◌then◌else◌, List, [], ◌∷◌}
use Rattle.std.specs.Prelude.{Option, Some, None, Result, Ok, Err}
use Rattle.osn_grammar.specs.declared.token.Numeral.{Numeral}
use Rattle.osn_grammar.specs.declared.token.Token.{Token}
use Rattle.osn_grammar.specs.declared.token.Token.TheVariants.{Number, Dash, Blank, Tens}
use Rattle.osn_grammar.specs.Period.{end_of, day_in}
use Rattle.osn_grammar.specs.Simple.{is_between, one, year_of}
use Rattle.osn_written.specs.declared.any_date.Extent.{Extent}
use Rattle.osn_written.specs.declared.any_date.Extent.TheVariants as extent
use Rattle.osn_written.specs.declared.any_date.PartialDate.TheVariants as date
use Rattle.osn_written.specs.declared.any_date.Year.{Year}
use Rattle.osn_written.specs.declared.written_date.DateFault.{DateFault}

abbrev pub from_month : Year → ℕ → ℕ → Extent
from_month y first last = extent.FromTo (date.Month y first) (date.Month y last)

-- the months 1 to 9, or 10 to 12
abbrev pub months : Year → ℕ → Option Extent
months y tens =
    if tens == 0 then Some (from_month y 1 9)
    else (if tens == 1 then Some (from_month y 10 12)
    else None)

-- the days 1 to 9, 10 to 19, 20 to 29, or 30 to the last one. February has none of the last ones,
-- and its day 29 in some years
abbrev pub days : Year → ℕ → ℕ → Option Extent
days y month tens =
    if tens == 0 then Some (extent.FromTo (day_in y month 1) (day_in y month 9))
    else (if tens == 1 then Some (extent.FromTo (day_in y month 10) (day_in y month 19))
    else (if month == 2 then
    (if tens == 2 then Some (extent.FromTo (day_in y month 20) (end_of y month)) else None)
    else (if tens == 2 then Some (extent.FromTo (day_in y month 20) (day_in y month 29))
    else Some (extent.FromTo (day_in y month 30) (end_of y month)))))

abbrev pub months_of : Result Year DateFault → ℕ → Option Extent
months_of (Ok y) tens = months y tens
months_of (Err fault) tens = None

abbrev pub days_of : Result Year DateFault → ℕ → ℕ → Option Extent
days_of (Ok y) month tens = if is_between 1 12 month then days y month tens else None
days_of (Err fault) month tens = None

abbrev pub year_alone : Result Year DateFault → Option Extent
year_alone (Ok y) = Some (extent.On (date.Year y))
year_alone (Err fault) = None

-- the year has four digits
abbrev pub year_alone_in : Numeral → Option Extent
year_alone_in y = if y.digits == 4 then year_alone (year_of (one y)) else None

abbrev pub months_in : Numeral → ℕ → Option Extent
months_in y tens = if y.digits == 4 then months_of (year_of (one y)) tens else None

abbrev pub days_in : Numeral → Numeral → ℕ → Option Extent
days_in y month tens =
    if y.digits == 4 && month.digits == 2 then days_of (year_of (one y)) month.value tens else None

abbrev pub after_year : Numeral → List Token → Option Extent
after_year y (Blank ∷ []) = year_alone_in y
after_year y (Tens tens ∷ []) = months_in y tens
after_year y (Number month ∷ Dash ∷ Tens tens ∷ []) = days_in y month tens
after_year y _ = None

abbrev pub open_in : List Token → Option Extent
open_in (Number y ∷ Dash ∷ rest) = after_year y rest
open_in _ = None
