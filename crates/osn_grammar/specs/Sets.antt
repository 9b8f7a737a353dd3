-- A set of dates, of which one is meant, as EDTF writes it at its level 2:
-- [1543-04-11,1544-04-11], [1731-04-05..1731-04-11,1732-03-12..1732-04-04], [1675..1677].
use Rattle.std.specs.Prelude.{ℕ, Bool, true, false, nat_le, ◌==◌, if◌then◌else◌, List, [], ◌∷◌}
use Rattle.std.specs.Prelude.{Option}
use Rattle.std.specs.Prelude.{Some}
use Rattle.std.specs.Prelude.{None, option_map, Result, Ok, Err}
use Rattle.std.specs.List.{slice_split}
use Rattle.std.specs.Option.{option_and_then}
use Rattle.osn_grammar.specs.declared.token.Numeral.{Numeral}
use Rattle.osn_grammar.specs.declared.token.Token.{Token}
use Rattle.osn_grammar.specs.declared.token.Token.TheVariants as token
use Rattle.osn_grammar.specs.declared.token.Token.TheVariants.{Number, Dash, Open}
use Rattle.osn_written.specs.declared.written_date.DateFault.{DateFault}
use Rattle.osn_written.specs.declared.written_date.DateFault.TheVariants as faults
use Rattle.osn_written.specs.declared.any_date.Extent.{Extent}
use Rattle.osn_written.specs.declared.any_date.Extent.TheVariants as extent
use Rattle.osn_written.specs.declared.any_date.PartialDate.{PartialDate}
use Rattle.osn_grammar.specs.Forms.{date_in_digits}
use Rattle.osn_grammar.specs.Simple.{◌>>=◌, one, day_in_digits, whole_year, year_and_month}

-- ---- the text between the brackets

-- what comes after the first character of a text, if it is this one
abbrev pub without_first : ℕ → List ℕ → Option (List ℕ)
without_first c [] = None
without_first c (b ∷ rest) = if b == c then Some rest else None

-- what comes before the last one
abbrev pub without_last : ℕ → List ℕ → Option (List ℕ)
without_last c [] = None
without_last c (b ∷ []) = if b == c then Some [] else None
without_last c (b ∷ next ∷ rest) = option_map (λ front. b ∷ front) (without_last c (next ∷ rest))

abbrev pub inside_brackets : List ℕ → Option (List ℕ)
inside_brackets text = option_and_then (without_last 93) (without_first 91 text)

-- the text between braces, {1640,1642}
abbrev pub inside_braces : List ℕ → Option (List ℕ)
inside_braces text = option_and_then (without_last 125) (without_first 123 text)

-- the texts between commas
abbrev pub between_commas : List ℕ → List (List ℕ)
between_commas text = slice_split (λ b. b == 44) text

-- ---- one member

-- `?`, `~`, `%`
abbrev pub is_sign : Token → Bool
is_sign token.About = true
is_sign token.Doubt = true
is_sign token.AboutAndDoubt = true
is_sign _ = false

-- what is after the first date: nothing, `..`, or `..` and the last date
abbrev pub from_date : Result PartialDate DateFault → List Token → Result Extent DateFault
from_date first [] = do
  date ← first
  Ok (extent.On date)
from_date first (Open ∷ []) = do
  date ← first
  Ok (extent.NotBefore date)
from_date first (Open ∷ last) = do
  start ← first
  end ← date_in_digits last
  Ok (extent.FromTo start end)
from_date first _ = Err faults.Malformed

-- a year of four digits or more
abbrev pub long_year : Numeral → Result PartialDate DateFault
long_year y = if nat_le 4 y.digits then whole_year (one y) else Err faults.Malformed

abbrev pub from_month : Numeral → Numeral → List Token → Result Extent DateFault
from_month y m rest = from_date (year_and_month y m) rest

abbrev pub from_day : Numeral → Numeral → List Token → Result Extent DateFault
from_day y m (Number d ∷ rest) = from_date (day_in_digits (one y) m d) rest
from_day y m rest = Err faults.Malformed

abbrev pub after_month : Numeral → Numeral → List Token → Result Extent DateFault
after_month y m (Dash ∷ rest) = from_day y m rest
after_month y m rest = from_month y m rest

abbrev pub in_months : Numeral → List Token → Result Extent DateFault
in_months y (Number m ∷ rest) = after_month y m rest
in_months y rest = Err faults.Malformed

abbrev pub from_year : Numeral → List Token → Result Extent DateFault
from_year y rest = from_date (long_year y) rest

abbrev pub after_year : Numeral → List Token → Result Extent DateFault
after_year y (Dash ∷ rest) = in_months y rest
after_year y rest = from_year y rest

abbrev pub not_after : Result PartialDate DateFault → Result Extent DateFault
not_after last = do
  date ← last
  Ok (extent.NotAfter date)

-- a date in digits, or the first and the last one with `..` between them. Either may be open
abbrev pub dates_in_digits : List Token → Result Extent DateFault
dates_in_digits (Number y ∷ rest) = after_year y rest
dates_in_digits (Open ∷ last) = not_after (date_in_digits last)
dates_in_digits _ = Err faults.Malformed
