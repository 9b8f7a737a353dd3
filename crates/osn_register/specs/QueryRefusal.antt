-- Why a query is refused: this project's profile.
use Rattle.std.specs.Prelude.{not, ◌&&◌, ℤ, pos, List, [], ◌∷◌, Option, None, ℕ}
use Rattle.osn_days.specs.Rules.{Rules}
use Rattle.osn_register.specs.declared.query.Query.{Query}
use Rattle.osn_register.specs.declared.query.Query.TheVariants as queries
use Rattle.osn_register.specs.declared.refusal.Refusal.{Refusal}
use Rattle.osn_register.specs.declared.refusal.Refusal.TheVariants.{DayOffLine, YearOffRange}
use Rattle.osn_register.specs.declared.refusal.Refusal.TheVariants.{BadDate}
use Rattle.osn_register.specs.Refusal.{first_refusal, or_else}
use Rattle.osn_register.specs.Plain.{EntryModel, code_refusal, is_between, is_off_line}
use Rattle.osn_register.specs.Plain.{is_off_years}

-- why a reading is refused for its date
abbrev pub date_refusal : Rules → ℤ → ℤ → ℤ → Option Refusal
date_refusal p year month day = first_refusal (
    (not (is_between (pos 0) (pos p.last_label_year) year), YearOffRange)
    ∷ (not (is_between (pos 1) (pos 12) month && is_between (pos 1) (pos 31) day), BadDate)
    ∷ [])

-- why a reading is refused, if it is
abbrev pub read_refusal : Rules → List EntryModel → List ℕ → ℤ → ℤ → ℤ → Option Refusal
read_refusal p territories code year month day =
    or_else (code_refusal territories code) (date_refusal p year month day)

-- why a query of a day is refused
abbrev pub day_refusal : Rules → List EntryModel → List ℕ → ℤ → Option Refusal
day_refusal p territories code day =
    or_else (code_refusal territories code) (first_refusal ((is_off_line p day, DayOffLine) ∷ []))

-- why the figures of a year are refused
abbrev pub year_refusal : Rules → ℤ → Option Refusal
year_refusal p year = first_refusal ((is_off_years p year, YearOffRange) ∷ [])

-- why a query of a territory's Easters is refused
abbrev pub easter_refusal : Rules → List EntryModel → List ℕ → ℤ → Option Refusal
easter_refusal p territories code year =
    or_else (code_refusal territories code) (year_refusal p year)

-- why a query is refused, if it is
abbrev pub query_refusal : Rules → List EntryModel → Query → Option Refusal
query_refusal p territories (queries.Read code year month day) =
    read_refusal p territories code year month day
query_refusal p territories (queries.DayIn code day) = day_refusal p territories code day
query_refusal p territories (queries.Easter code year) = easter_refusal p territories code year
query_refusal p territories (queries.YearFigures year) = year_refusal p year
query_refusal p territories queries.Lands = None
query_refusal p territories (queries.Periods code) = code_refusal territories code
query_refusal p territories (queries.Exceptions code) = code_refusal territories code
query_refusal p territories (queries.Changes code) = code_refusal territories code
query_refusal p territories (queries.Feasts code year) = easter_refusal p territories code year
query_refusal p territories (queries.Convert code calendar year month day) =
    read_refusal p territories code year month day
query_refusal p territories (queries.Written code text date weekday) = code_refusal territories code
