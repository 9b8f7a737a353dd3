-- The text of a dated day is that of the day under its regime.
use Rattle.std.proofs.Common.{◌≡◌, ℕ, ℤ, pos, ◌≤ℤ◌, unsigned_abs, List, ◌++◌, codes, ap, ◌∙◌, refl}
use Rattle.std.proofs.Common.{arith}
use Rattle.std.proofs.lemmas.Int.{ints}
use Rattle.std.specs.Fmt.{decimal}
use Rattle.osn_days.specs.declared.date.Date.{Date}
use Rattle.osn_days.specs.Month.{month_name}
use Rattle.osn_territory.specs.declared.dating.DatedDay.{DatedDay}
use Rattle.osn_territory.specs.Dating.{dated_text, years_text}
use Rattle.osn_territory.specs.Dual.{year_text, date_text}

abbrev dated : ℕ → ℤ → ℤ → Date → DatedDay
dated d style_year year date = record {
  day = d;
  label = record { year = style_year; month = date.month; day = date.day };
  january_year = year;
}

-- the month and day of a date, with these years
abbrev text_of : Date → ℤ → ℤ → List ℕ
text_of date x y =
    decimal date.day
    ++ (codes " " ++ (month_name date.month ++ (codes " " ++ year_text x y)))

text_as_written : (d : ℕ) (x y : ℤ) (date : Date) → dated_text (dated d x y date)
    ≡ text_of date (pos (unsigned_abs x)) (pos (unsigned_abs y))
unfolding dated_text years_text
text_as_written d x y date = refl

natural : (x y : ℤ) → x ≡ y → pos 0 ≤ℤ y → pos (unsigned_abs x) ≡ y
natural x y same low = omega (arith, ints, same, low)

pub text_of_date : (d : ℕ) (x y style_year : ℤ) (date : Date) → x ≡ style_year → y ≡ date.year →
    pos 0 ≤ℤ style_year → pos 0 ≤ℤ date.year →
    dated_text (dated d x y date) ≡ date_text style_year date
text_of_date d x y style_year date is_x is_y low_x low_y =
    text_as_written d x y date
    ∙ ap (λ z. text_of date z (pos (unsigned_abs y))) (natural x style_year is_x low_x)
    ∙ ap (text_of date style_year) (natural y date.year is_y low_y)
