-- Parts of a month, a year, a decade or a century, and seasons and quarters of a year. This
-- project's profile, and the codes of EDTF's levels 1 and 2.
use Rattle.std.specs.Prelude.{ℕ, Bool, true, false, ◌&&◌, ◌||◌, ◌+◌, ◌-◌, ◌/◌, ◌%◌, ◌==◌, nat_le}
use Rattle.std.specs.Prelude.{if◌then◌else◌}
use Rattle.std.specs.Prelude.{List, [], ◌∷◌, Option, Some, None, Result, Ok, Err}
use Rattle.osn_grammar.specs.declared.token.Fraction.{Fraction}
use Rattle.osn_grammar.specs.declared.token.Fraction.TheVariants as share
use Rattle.osn_grammar.specs.declared.token.Nth.{Nth}
use Rattle.osn_grammar.specs.declared.token.Nth.TheVariants as place
use Rattle.osn_grammar.specs.declared.token.Numeral.{Numeral}
use Rattle.osn_grammar.specs.declared.token.Token.{Token}
use Rattle.osn_grammar.specs.declared.token.Token.TheVariants as token
use Rattle.osn_grammar.specs.declared.token.Token.TheVariants.{Number, Dash, Season}
use Rattle.osn_grammar.specs.declared.token.Years.{Years}
use Rattle.osn_grammar.specs.Forms.{month_or_year}
use Rattle.osn_grammar.specs.Simple.{month_of, one, whole_year, year_of}
use Rattle.osn_grammar.specs.Years.{by_word, one_in, or_years, range_of}
use Rattle.osn_written.specs.declared.any_date.Extent.{Extent}
use Rattle.osn_written.specs.declared.any_date.Extent.TheVariants as extent
use Rattle.osn_written.specs.declared.any_date.PartialDate.{PartialDate}
use Rattle.osn_written.specs.declared.any_date.PartialDate.TheVariants as date
use Rattle.osn_written.specs.declared.any_date.Year.{Year}
use Rattle.osn_written.specs.declared.portion.Portion.{Portion}
use Rattle.osn_written.specs.declared.portion.Portion.TheVariants as portion
use Rattle.osn_written.specs.declared.written_date.DateFault.{DateFault}

-- ---- thirds and halves

-- first half, last third
abbrev pub portion_of : Nth → Fraction → Portion
portion_of place.First share.Third = portion.FirstThird
portion_of place.Second share.Third = portion.MiddleThird
portion_of place.Last share.Third = portion.LastThird
portion_of place.First share.Half = portion.FirstHalf
portion_of place.Second share.Half = portion.SecondHalf
portion_of place.Last share.Half = portion.SecondHalf

abbrev pub years_to : ℕ → ℕ → Years
years_to first last = record { first = first; last = last }

-- the years of a decade or a century are cut into equal parts, and a year that is cut belongs to
-- both of its sides. So of 1580 to 1589 the thirds are 1580 to 1583, 1583 to 1586 and 1586 to 1589.
-- The last year is `gap` years after the first one
abbrev pub years_cut : Portion → ℕ → ℕ → ℕ → Years
years_cut portion.FirstThird gap first last = years_to first (first + gap / 3)
years_cut portion.MiddleThird gap first last =
    years_to (first + (gap + 1) / 3) (last - (gap + 1) / 3)
years_cut portion.LastThird gap first last = years_to (last - gap / 3) last
years_cut portion.FirstHalf gap first last = years_to first (first + gap / 2)
years_cut portion.SecondHalf gap first last = years_to (last - gap / 2) last

abbrev pub part_of_years : Portion → Years → Years
part_of_years p years = years_cut p (years.last - years.first) years.first years.last

-- a part of a month is some of its days by their numbers: 1 to 10, 11 to 20, 21 to the last one,
-- and 1 to 15, 16 to the last one. The last day of February differs from year to year, so that a
-- part which ends with it ends with the month
abbrev pub day_in : Year → ℕ → ℕ → PartialDate
day_in year month d = date.Day year month d

abbrev pub has_30_days : ℕ → Bool
has_30_days month = month == 4 || (month == 6 || (month == 9 || month == 11))

abbrev pub end_of : Year → ℕ → PartialDate
end_of year month =
    if month == 2 then date.Month year month
    else (if has_30_days month then day_in year month 30
    else day_in year month 31)

abbrev pub part_of_month : Portion → Year → ℕ → Extent
part_of_month portion.FirstThird y m = extent.FromTo (day_in y m 1) (day_in y m 10)
part_of_month portion.MiddleThird y m = extent.FromTo (day_in y m 11) (day_in y m 20)
part_of_month portion.LastThird y m = extent.FromTo (day_in y m 21) (end_of y m)
part_of_month portion.FirstHalf y m = extent.FromTo (day_in y m 1) (day_in y m 15)
part_of_month portion.SecondHalf y m = extent.FromTo (day_in y m 16) (end_of y m)

-- a part of a month or a year, and not of a day
abbrev pub part_of_date : Portion → Result PartialDate DateFault → Option Extent
part_of_date p (Ok (date.Month year month)) = Some (part_of_month p year month)
part_of_date p (Ok (date.Year year)) = Some (extent.Part p (date.Year year))
part_of_date p _ = None

-- a part of a decade or a century is a range of years
abbrev pub part_by : Portion → Option Years → Result PartialDate DateFault → Option Extent
part_by p (Some years) whole = Some (range_of (part_of_years p years))
part_by p None whole = part_of_date p whole

abbrev pub part_of : Portion → List Token → Option Extent
part_of p whole =
    part_by p (or_years (one_in whole) (by_word whole)) (month_or_year whole)

-- early 1675, mid-1675, middle third of 1675
abbrev pub part_after : Portion → List Token → Option Extent
part_after p (Dash ∷ whole) = part_of p whole
part_after p (token.Fraction share.Third ∷ whole) = part_of p whole
part_after p whole = part_of p whole

-- ---- seasons and quarters

-- three months of a year, from the first one on
abbrev pub three_months : Result Year DateFault → ℕ → Option Extent
three_months (Ok y) first = Some (extent.FromTo (date.Month y first) (date.Month y (first + 2)))
three_months (Err fault) first = None

-- a season by its first month: spring is March to May, summer June to August, autumn September to
-- November. A winter lasts from one year into the next, so it is open which one `winter 1675` is
abbrev pub season_of : ℕ → Numeral → Option Extent
season_of first y = if nat_le first 10 then three_months (year_of (one y)) first else None

abbrev pub season_in : ℕ → List Token → Option Extent
season_in first (Number y ∷ []) = season_of first y
season_in first _ = None

-- the codes of EDTF: 21 is spring, 22 summer, 23 autumn, 33 to 36 are the quarters
abbrev pub month_by_code : ℕ → Option ℕ
month_by_code code =
    if code == 21 then Some 3
    else (if code == 22 then Some 6
    else (if code == 23 then Some 9
    else (if code == 33 then Some 1
    else (if code == 34 then Some 4
    else (if code == 35 then Some 7
    else (if code == 36 then Some 10
    else None))))))

-- 1675-21 and not 1521-33, which may be the years 1521 to 1533
abbrev pub coded_by : Numeral → Numeral → Option ℕ → Option Extent
coded_by y code None = None
coded_by y code (Some first) =
    if y.digits == 4 && (code.digits == 2 && nat_le code.value (y.value % 100)) then
    three_months (year_of (one y)) first
    else None

abbrev pub part_of_code : Numeral → Numeral → Option Extent
part_of_code y code = coded_by y code (month_by_code code.value)

-- ---- a part of a time

-- first half of 1675, 1. Hälfte 1675
abbrev pub nth_of : ℕ → Option Nth
nth_of n = if n == 1 then Some place.First else (if n == 2 then Some place.Second else None)

abbrev pub nth_part : Option Nth → Fraction → List Token → Option Extent
nth_part None fraction whole = None
nth_part (Some nth) fraction whole = part_of (portion_of nth fraction) whole

-- the part after its time: 1675, early; 1675, spring
abbrev pub after_number : Numeral → List Token → Option Extent
after_number n (Dash ∷ Number code ∷ []) = part_of_code n code
after_number n (token.Portion p ∷ []) = part_of_date p (whole_year (one n))
after_number n (Season first ∷ []) = season_of first n
after_number n (token.Fraction fraction ∷ whole) = nth_part (nth_of n.value) fraction whole
after_number n _ = None

-- Feb. 1675 (early)
abbrev pub after_month : ℕ → List Token → Option Extent
after_month m (Number y ∷ token.Portion p ∷ []) = part_of_date p (month_of (one y) m)
after_month m _ = None

-- 1580s, early
abbrev pub after_years : Years → List Token → Option Extent
after_years years (token.Portion p ∷ []) = Some (range_of (part_of_years p years))
after_years years _ = None

abbrev pub period_in : List Token → Option Extent
period_in (token.Portion p ∷ rest) = part_after p rest
period_in (token.Nth nth ∷ token.Fraction fraction ∷ whole) = nth_part (Some nth) fraction whole
period_in (Season first ∷ year) = season_in first year
period_in (Number n ∷ rest) = after_number n rest
period_in (token.Month m ∷ rest) = after_month m rest
period_in (token.Years years ∷ rest) = after_years years rest
period_in _ = None

-- the code of a winter after its year, and not 1621-24
abbrev pub is_winter_of : Numeral → Numeral → Bool
is_winter_of y code =
    code.value == 24
    && (y.digits == 4 && (code.digits == 2 && nat_le code.value (y.value % 100)))

abbrev pub is_winter : List Token → Bool
is_winter (Number y ∷ Dash ∷ Number code ∷ []) = is_winter_of y code
is_winter _ = false

-- `early`, `winter`
abbrev pub is_period : Token → Bool
is_period (token.Portion p) = true
is_period (Season first) = true
is_period _ = false
