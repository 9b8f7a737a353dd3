-- Days as ISO 8601-2 writes them, its Extended Date/Time Format: at its level 1 and, if there are
-- several days or runs, as a set of its level 2. This project's profile.
use Rattle.std.specs.Prelude.{ℕ, Bool, ◌==◌, if◌then◌else◌, List, [], ◌∷◌, ◌++◌}
use Rattle.std.specs.Prelude.{Option, Some, None, codes}
use Rattle.std.specs.List.{join_by}
use Rattle.osn_days.specs.declared.calendar.Calendar.TheVariants.{Gregorian}
use Rattle.osn_days.specs.Chain.{date_of}
use Rattle.osn_days.specs.DateText.{text_of_date}
use Rattle.osn_written.specs.declared.any_date.AnyDate.{AnyDate}
use Rattle.osn_territory.specs.declared.dating.DatedDay.{DatedDay}
use Rattle.osn_territory.specs.declared.runs.Run.{Run}
use Rattle.osn_letters.specs.declared.span.Span.{Span}

-- the sign after each day: whether it is in doubt, about then, or both
abbrev pub sign_of : Bool → Bool → List ℕ
sign_of uncertain approximate =
    if uncertain then (if approximate then codes "%" else codes "?")
    else (if approximate then codes "~" else [])

-- the sign of a date
abbrev pub sign : AnyDate → List ℕ
sign w = sign_of w.is_uncertain w.is_approximate

-- a day with a sign: 1732-02-22?
abbrev pub edtf_day : List ℕ → ℕ → List ℕ
edtf_day sign d = text_of_date (date_of Gregorian d) ++ sign

-- days that follow one another: the first and the last with that text between, or the one day
abbrev pub edtf_run : List ℕ → List ℕ → Run → List ℕ
edtf_run between sign r =
    if r.first == r.last then edtf_day sign r.first
    else edtf_day sign r.first ++ (between ++ edtf_day sign r.last)

-- a set
abbrev pub in_brackets : List ℕ → List ℕ
in_brackets text = codes "[" ++ (text ++ codes "]")

-- the days of one label: one day, or the set of several
abbrev pub days_joined : List ℕ → List DatedDay → List ℕ
days_joined sign days = join_by (λ day. edtf_day sign day.day) (codes ",") days

abbrev pub edtf_of_days : List ℕ → List DatedDay → List ℕ
edtf_of_days sign [] = []
edtf_of_days sign (day ∷ []) = edtf_day sign day.day
edtf_of_days sign (day ∷ next ∷ days) = in_brackets (days_joined sign (day ∷ next ∷ days))

-- the runs of a date: one run, such as 1732-02-12/1732-03-11, or the set of several, such as
-- [1731-04-05..1731-04-11,1732-03-12..1732-04-04]
abbrev pub runs_joined : List ℕ → List ℕ → List Run → List ℕ
runs_joined between sign runs = join_by (edtf_run between sign) (codes ",") runs

abbrev pub edtf_of_runs : List ℕ → List Run → List ℕ
edtf_of_runs sign [] = []
edtf_of_runs sign (r ∷ []) = edtf_run (codes "/") sign r
edtf_of_runs sign (r ∷ next ∷ runs) = in_brackets (runs_joined (codes "..") sign (r ∷ next ∷ runs))

-- the days from the earliest to the latest: a bound is open at one end, as ../1640-04-03
abbrev pub edtf_from_to : List ℕ → List Run → Option ℕ → Option ℕ → List ℕ
edtf_from_to sign runs None (Some latest) = codes "../" ++ edtf_day sign latest
edtf_from_to sign runs (Some earliest) None = edtf_day sign earliest ++ codes "/.."
edtf_from_to sign runs earliest latest = edtf_of_runs sign runs

abbrev pub edtf_of_span : List ℕ → Span → List Run → List ℕ
edtf_of_span sign span runs = edtf_from_to sign runs span.earliest span.latest
