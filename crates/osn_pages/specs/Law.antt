-- The words of a day by a calendar are read again as that day's date. The periods of a territory
-- are those that hold its days.
use Rattle.std.specs.Prelude.{◌≡◌, ◌≤◌, ◌≤ℤ◌, ℕ, List, [], ◌∷◌, Ok, pos}
use Rattle.std.specs.List.{All}
use Rattle.osn_days.specs.declared.calendar.Calendar.{Calendar}
use Rattle.osn_days.specs.Chain.{date_of}
use Rattle.osn_days.specs.Line.{IsDay}
use Rattle.osn_days.specs.Rules.{Rules}
use Rattle.osn_territory.specs.Territory.{Holds}
use Rattle.osn_register.specs.declared.answer.Answer.{Answer}
use Rattle.osn_register.specs.declared.answer.Answer.TheVariants as answers
use Rattle.osn_register.specs.declared.answer.PeriodAndSource.{PeriodAndSource}
use Rattle.osn_register.specs.declared.query.Query.TheVariants.{DayIn, Periods}
use Rattle.osn_register.specs.Answer.{answer, found_under}
use Rattle.osn_register.specs.Plain.{EntryModel}
use Rattle.osn_written.specs.declared.written_date.WrittenDate.{WrittenDate}
use Rattle.osn_grammar.specs.ReadDate.{written_date}
use Rattle.osn_pages.specs.Words.{calendar_words}
use Rattle.osn_pages.specs.Conversion.{days_of_written}

-- the text is a date as people write it, and the calendar has that date on the day and no other
pub record IsDateOf (p : Rules) (c : Calendar) (d : ℕ) (text : List ℕ) : Type 0 where
  pub date : WrittenDate
  pub is : written_date text ≡ Ok date
  pub day : days_of_written p c date ≡ d ∷ []

-- as a law: the words of each day of the line, by each calendar, are a date of that day and no
-- other, from the year 100 on
unfoldable pub AreCalendarWordsWritten : Rules → Type 0
AreCalendarWordsWritten p =
    (c : Calendar) (d : ℕ) → IsDay p d → pos 100 ≤ℤ (date_of c d).year
    → IsDateOf p c d (calendar_words c d)

-- a period has a day, and to each of its days the register answers that period and its source, with
-- the day as the period's regime dates it
abbrev pub IsPeriodAnswered : Rules → List EntryModel → List ℕ → PeriodAndSource → Type 0
IsPeriodAnswered p territories code item =
    (item.period.first ≤ item.period.last)
    × ((d : ℕ) → Holds d item.period
    → answer p territories (DayIn code (pos d))
    ≡ answers.OnDay (found_under p item.period.regime d) item)

-- the periods that are answered, with their sources
abbrev pub periods_in : Answer → List PeriodAndSource
periods_in (answers.Periods periods) = periods
periods_in other = []

-- as a law: each period that the register answers for a territory has a day, and the register
-- answers this period to each of its days. The page of the territory says from which day and until
-- which one the period is in force. The pages of these two days name them alike
unfoldable pub ArePeriodsAnswered : Rules → List EntryModel → List ℕ → Type 0
ArePeriodsAnswered p territories code =
    All (IsPeriodAnswered p territories code) (periods_in (answer p territories (Periods code)))
