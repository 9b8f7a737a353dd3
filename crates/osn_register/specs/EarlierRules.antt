-- How answers of the newest rules agree with those of earlier rules, whose line is shorter.
use Rattle.std.specs.Prelude.{◌≡◌, ℕ, ◌≤◌, nat_le, ℤ, pos, ◌≤ℤ◌, unsigned_abs, List, [], ◌∷◌}
use Rattle.std.specs.Prelude.{map, filter, Option, IfSome}
use Rattle.osn_days.specs.Rules.{Rules}
use Rattle.osn_days.specs.Line.{IsOnLine, IsYearNumber}
use Rattle.osn_territory.specs.declared.regime.Regime.{Regime}
use Rattle.osn_territory.specs.Territory.{TerritoryModel}
use Rattle.osn_territory.specs.Exceptions.{exception_of}
use Rattle.osn_register.specs.declared.query.Query.{Query}
use Rattle.osn_register.specs.declared.query.Query.TheVariants as queries
use Rattle.osn_register.specs.declared.answer.Answer.{Answer}
use Rattle.osn_register.specs.declared.answer.Answer.TheVariants.{Reading, OnDay, Easters, Periods}
use Rattle.osn_register.specs.declared.answer.Found.{Found}
use Rattle.osn_register.specs.declared.answer.PeriodAndSource.{PeriodAndSource}
use Rattle.osn_register.specs.Plain.{EntryModel, territory_of}
use Rattle.osn_register.specs.Answer.{answer, refusal_in}

-- the days that an answer has found, each as it is named
abbrev pub found_in : Answer → List Found
found_in (Reading found skipped) = found
found_in (OnDay found period) = found ∷ []
found_in (Easters found listed source) = found
found_in answer = []

-- a period without its last day: its first day, its regime and its source
abbrev pub start_of : PeriodAndSource → ℕ × Regime × Option (List ℕ)
start_of p = (p.period.first, p.period.regime, p.source)

-- the first days of an answer's periods, each with its regime and its source
abbrev pub starts_in : Answer → List (ℕ × Regime × Option (List ℕ))
starts_in (OnDay found period) = start_of period ∷ []
starts_in (Periods periods) = map start_of periods
starts_in answer = []

-- the days that were found, and that the line of the rules has
abbrev pub found_until : Rules → List Found → List Found
found_until p found = filter (λ f. nat_le f.day p.high) found

-- the label of a date may have this year by these rules
abbrev pub IsLabelYear : Rules → ℤ → Type 0
IsLabelYear p y = (pos 0 ≤ℤ y) × (y ≤ℤ pos p.last_label_year)

-- a day that is listed as the Easter of the year is one that the rules have
abbrev pub IsListedUntil : Rules → ℕ → Option TerritoryModel → Type 0
IsListedUntil p y t = IfSome t (λ t. IfSome (exception_of t y) (λ d. d ≤ p.high))

-- The earlier and the newer answer are refused alike. The days that the newer one found are those
-- of the earlier one, up to the end of its line. Nothing is said of skipped dates.
abbrev pub KeepsReading : Rules → Answer → Answer → Type 0
KeepsReading p before now =
    (refusal_in now ≡ refusal_in before) × (found_until p (found_in now) ≡ found_in before)

-- The earlier and the newer answer are refused alike, and name the day alike. Its period starts on
-- one day, with one regime and one source. Nothing is said of the period's last day.
abbrev pub KeepsDay : Answer → Answer → Type 0
KeepsDay before now =
    (refusal_in now ≡ refusal_in before) × (found_in now ≡ found_in before)
    × (starts_in now ≡ starts_in before)

-- what an answer keeps of the answer of these rules to the same query, if they have its year or its
-- day. The Easters and the figures of a year and the territories are the same. A reading and a day
-- keep what the rules' own line has, and periods keep their starts. The listed Easters and
-- the changes of a territory, its feasts of a year, a conversion and a date as it is written are
-- refused alike, and nothing more is said of them
abbrev pub KeepsAnswer : Rules → List EntryModel → Query → Answer → Type 0
KeepsAnswer p territories (queries.Read code year month day) now =
    IsLabelYear p year
    → KeepsReading p (answer p territories (queries.Read code year month day)) now
KeepsAnswer p territories (queries.DayIn code day) now =
    IsOnLine p day → KeepsDay (answer p territories (queries.DayIn code day)) now
KeepsAnswer p territories (queries.Easter code year) now =
    IsYearNumber p year → IsListedUntil p (unsigned_abs year) (territory_of code territories)
    → now ≡ answer p territories (queries.Easter code year)
KeepsAnswer p territories (queries.YearFigures year) now =
    IsYearNumber p year → now ≡ answer p territories (queries.YearFigures year)
KeepsAnswer p territories queries.Lands now = now ≡ answer p territories queries.Lands
KeepsAnswer p territories (queries.Periods code) now =
    KeepsDay (answer p territories (queries.Periods code)) now
KeepsAnswer p territories (queries.Exceptions code) now =
    refusal_in now ≡ refusal_in (answer p territories (queries.Exceptions code))
KeepsAnswer p territories (queries.Changes code) now =
    refusal_in now ≡ refusal_in (answer p territories (queries.Changes code))
KeepsAnswer p territories (queries.Feasts code year) now =
    IsYearNumber p year → refusal_in now ≡ refusal_in (answer p territories (queries.Feasts code year))
KeepsAnswer p territories (queries.Convert code calendar year month day) now =
    IsLabelYear p year
    → refusal_in now ≡ refusal_in (answer p territories (queries.Convert code calendar year month day))
KeepsAnswer p territories (queries.Written code text date weekday) now =
    refusal_in now ≡ refusal_in (answer p territories (queries.Written code text date weekday))
