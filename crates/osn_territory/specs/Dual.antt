-- The text of a day under a regime: this project's profile.
use Rattle.std.specs.Prelude.{ℕ, ℤ, int_lt, ◌==◌, if◌then◌else◌, List, [], ◌∷◌, ◌++◌, length, codes}
use Rattle.std.specs.Fmt.{decimal, signed_decimal}
use Rattle.osn_days.specs.declared.date.Date.{Date}
use Rattle.osn_days.specs.Chain.{date_of}
use Rattle.osn_days.specs.Month.{month_name}
use Rattle.osn_days.specs.Rules.{Rules}
use Rattle.osn_territory.specs.declared.regime.Regime.{Regime}
use Rattle.osn_territory.specs.Style.{style_year}

-- a number's digits from the first that differs from those of a number as long
abbrev pub from_difference : List ℕ → List ℕ → List ℕ
from_difference [] ys = ys
from_difference (x ∷ xs) [] = []
from_difference (x ∷ xs) (y ∷ ys) = if x == y then from_difference xs ys else y ∷ ys

-- the digits of the later of two years, without those that the earlier one has already shown
abbrev pub later_digits : List ℕ → List ℕ → List ℕ
later_digits earlier later =
    if length earlier == length later then from_difference earlier later else later

-- a style's year and the year counted from 1 January, if that is later: 1731/2, 1699/700, 0/1
abbrev pub year_text : ℤ → ℤ → List ℕ
year_text style_year year =
    if int_lt style_year year then
    signed_decimal style_year
    ++ (codes "/" ++ later_digits (signed_decimal style_year) (signed_decimal year))
    else signed_decimal style_year

-- the text of a date that is in this year by the style, without leading zeros
abbrev pub date_text : ℤ → Date → List ℕ
date_text style_year date =
    decimal date.day
    ++ (codes " "
    ++ (month_name date.month ++ (codes " " ++ year_text style_year date.year)))

-- the text of a day under a regime
abbrev pub dual_text : Rules → Regime → ℕ → List ℕ
dual_text p regime d = date_text (style_year p regime d) (date_of regime.calendar d)
