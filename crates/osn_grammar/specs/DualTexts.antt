-- The dual text of a day is read as that day's date, and means that day.
use Rattle.std.specs.Prelude.{◌≡◌, ◌≤ℤ◌, ◌+◌, ℕ, ℤ, pos, true, int_lt, List, ◌++◌, codes, Ok}
use Rattle.std.specs.Prelude.{Option, Some, None}
use Rattle.std.specs.List.{Contains}
use Rattle.osn_days.specs.declared.weekday.Weekday.{Weekday}
use Rattle.osn_days.specs.Chain.{date_of}
use Rattle.osn_days.specs.Line.{IsDay, weekday}
use Rattle.osn_days.specs.Rules.{Rules}
use Rattle.osn_days.specs.Weekday.{weekday_name, weekday_numbered}
use Rattle.osn_territory.specs.declared.label.Label.{Label}
use Rattle.osn_territory.specs.declared.regime.Regime.{Regime}
use Rattle.osn_territory.specs.Dating.{dated_on}
use Rattle.osn_territory.specs.Dual.{dual_text}
use Rattle.osn_territory.specs.Label.{local_label}
use Rattle.osn_territory.specs.Territory.{TerritoryModel, regime_at}
use Rattle.osn_written.specs.declared.written_date.WrittenDate.{WrittenDate}
use Rattle.osn_grammar.specs.ReadDate.{written_date}
use Rattle.osn_written.specs.Meaning.{label_of, meaning}

-- the text is a date with the label and that weekday. It is a double date if the label's year is
-- before the year counted from 1 January, which is then its later year
pub record IsWritten (dated : Label) (january_year : ℤ) (named : Option Weekday) (text : List ℕ)
    : Type 0 where
  pub date : WrittenDate
  pub is : written_date text ≡ Ok date
  pub label : label_of date ≡ dated
  pub double : date.is_double ≡ int_lt dated.year january_year
  pub later : date.is_double ≡ true → pos (date.year + 1) ≡ january_year
  pub weekday : date.weekday ≡ named

-- as a law: the dual text of each day of the line, under each regime, is read as the label of the
-- day, from the year 100 on. A shorter year must have its zeros to be read
unfoldable pub AreDualTextsWritten : Rules → Type 0
AreDualTextsWritten p =
    (r : Regime) (d : ℕ) → IsDay p d → pos 100 ≤ℤ (local_label p r d).year
    → IsWritten (local_label p r d) (date_of r.calendar d).year None (dual_text p r d)

-- the weekday of a day
abbrev pub weekday_of : ℕ → Weekday
weekday_of d = weekday_numbered (weekday d)

-- as a law: the dual text with the name of the day's weekday before it is read as that label with
-- that weekday
unfoldable pub AreNamedDaysWritten : Rules → Type 0
AreNamedDaysWritten p =
    (r : Regime) (d : ℕ) → IsDay p d → pos 100 ≤ℤ (local_label p r d).year
    → IsWritten (local_label p r d) (date_of r.calendar d).year (Some (weekday_of d))
    (weekday_name (weekday_of d) ++ (codes " " ++ dual_text p r d))

-- in the territory the text is a date that means the day, with any weekday given beside it, or none
abbrev pub Means : Rules → TerritoryModel → ℕ → List ℕ → Type 0
Means p t d text =
    (w : WrittenDate) (given : Option Weekday) → written_date text ≡ Ok w
    → Contains (meaning p t w given) (dated_on p t d)

-- as a law: the dual text of each day in the territory means that day, from the year 100 on, with
-- the name of its weekday before it or without
unfoldable pub AreDualTextsMeant : Rules → TerritoryModel → Type 0
AreDualTextsMeant p t =
    (d : ℕ) → IsDay p d → pos 100 ≤ℤ (local_label p (regime_at t d) d).year
    → Means p t d (dual_text p (regime_at t d) d)
    × Means p t d (weekday_name (weekday_of d) ++ (codes " " ++ dual_text p (regime_at t d) d))
