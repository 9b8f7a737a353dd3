-- A day with a Roman numeral for its day or its month. This project's profile.
use Rattle.std.specs.Prelude.{ℕ, nat_le, if◌then◌else◌, List, [], ◌∷◌, Option, Some, None}
use Rattle.std.specs.Prelude.{Result, Err}
use Rattle.osn_grammar.specs.declared.token.Numeral.{Numeral}
use Rattle.osn_grammar.specs.declared.token.Token.{Token}
use Rattle.osn_grammar.specs.declared.token.Token.TheVariants.{Number, Month, Roman, Dash, Slash}
use Rattle.osn_grammar.specs.declared.token.Token.TheVariants.{RomanLetter}
use Rattle.osn_grammar.specs.declared.simple.YearNumbers.{YearNumbers}
use Rattle.osn_grammar.specs.Forms.{year_numbers}
use Rattle.osn_grammar.specs.Simple.{is_long, one, day_of_month, around_month}
use Rattle.osn_written.specs.declared.any_date.PartialDate.{PartialDate}
use Rattle.osn_written.specs.declared.written_date.DateFault.{DateFault}
use Rattle.osn_written.specs.declared.written_date.DateFault.TheVariants as faults

abbrev pub roman_day : YearNumbers → ℕ → ℕ → Result PartialDate DateFault
roman_day years month day = day_of_month years month (record { value = day; digits = 2 })

abbrev pub year_first : Numeral → ℕ → ℕ → Result PartialDate DateFault
year_first year month day =
    if is_long year then roman_day (one year) month day else Err faults.Malformed

abbrev pub around_roman : Numeral → ℕ → Numeral → Result PartialDate DateFault
around_roman a month b =
    if nat_le month 12 then around_month a month b else Err faults.Malformed

-- beside the name of a month the numeral is the day: xi February 1731, February xi, 1731, and with
-- 1731/2
abbrev pub in_year : Option YearNumbers → ℕ → ℕ → Result PartialDate DateFault
in_year None month day = Err faults.Malformed
in_year (Some years) month day = roman_day years month day

-- 1731 February xi, and the month between two numbers, 3 xii 1640, 3.v.1640, 3-XII-1640, 3/XII/1640
abbrev pub after_number : Numeral → List Token → Result PartialDate DateFault
after_number a (Month m ∷ Roman d ∷ []) = year_first a m d
after_number a (Roman m ∷ Number b ∷ []) = around_roman a m b
after_number a (RomanLetter m ∷ Number b ∷ []) = around_roman a m b
after_number a (Dash ∷ Roman m ∷ Dash ∷ Number b ∷ []) = around_roman a m b
after_number a (Slash ∷ Roman m ∷ Slash ∷ Number b ∷ []) = around_roman a m b
after_number a _ = Err faults.Malformed

-- two numerals are refused
abbrev pub roman_date : List Token → Result PartialDate DateFault
roman_date (Roman d ∷ Month m ∷ year) = in_year (year_numbers year) m d
roman_date (Month m ∷ Roman d ∷ year) = in_year (year_numbers year) m d
roman_date (Number a ∷ rest) = after_number a rest
roman_date _ = Err faults.Malformed
