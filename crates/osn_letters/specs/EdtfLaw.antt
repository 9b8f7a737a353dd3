-- The texts that are written of several days or runs are read as sets of them.
use Rattle.std.specs.Prelude.{◌≡◌, ℕ, ◌==◌, Bool, if◌then◌else◌, List, ◌∷◌, map, Some}
use Rattle.std.specs.Prelude.{None, Ok}
use Rattle.std.specs.List.{All}
use Rattle.osn_days.specs.declared.calendar.Calendar.TheVariants.{Gregorian}
use Rattle.osn_days.specs.Chain.{date_of}
use Rattle.osn_days.specs.Line.{IsDay}
use Rattle.osn_days.specs.Rules.{Rules}
use Rattle.osn_grammar.specs.declared.text_reading.DateOrder.{DateOrder}
use Rattle.osn_grammar.specs.declared.text_reading.TextReading.TheVariants as say
use Rattle.osn_grammar.specs.Reading.{members, read_date}
use Rattle.osn_grammar.specs.SetsInDigits.{Days, member}
use Rattle.osn_territory.specs.declared.dating.DatedDay.{DatedDay}
use Rattle.osn_territory.specs.declared.runs.Run.{Run}
use Rattle.osn_letters.specs.Edtf.{edtf_of_days, edtf_of_runs, sign_of}

-- a run, and a day on its own
abbrev pub days_of_run : Run → Days
days_of_run r = (
  date_of Gregorian r.first,
  if r.first == r.last then None else Some (date_of Gregorian r.last),
)

abbrev pub days_of_day : DatedDay → Days
days_of_day day = (date_of Gregorian day.day, None)

-- a text is read as the set of these days, each with the signs
pub record IsReadAs (o : DateOrder) (approximate uncertain : Bool) (text : List ℕ)
    (days : List Days) : Type 0 where
  pub is : read_date o text ≡ Ok say.Set
  pub dates : members text ≡ map (member approximate uncertain) days

-- a run of days of the line
abbrev pub IsRunOf : Rules → Run → Type 0
IsRunOf p r = IsDay p r.first × IsDay p r.last

-- as a law: the EDTF text of two or more runs is read as the days of these runs
unfoldable pub AreRunsRead : Rules → Type 0
AreRunsRead p =
    (o : DateOrder) (approximate uncertain : Bool) (first next : Run) (rest : List Run)
    → All (IsRunOf p) (first ∷ next ∷ rest)
    → IsReadAs o approximate uncertain
    (edtf_of_runs (sign_of uncertain approximate) (first ∷ next ∷ rest))
    (map days_of_run (first ∷ next ∷ rest))

-- as a law: and that of two or more days
unfoldable pub AreDaysRead : Rules → Type 0
AreDaysRead p =
    (o : DateOrder) (approximate uncertain : Bool) (first next : DatedDay) (rest : List DatedDay)
    → All (λ day. IsDay p day.day) (first ∷ next ∷ rest)
    → IsReadAs o approximate uncertain
    (edtf_of_days (sign_of uncertain approximate) (first ∷ next ∷ rest))
    (map days_of_day (first ∷ next ∷ rest))
