-- What is remarked after the days of a date: that it ends in the next year, how sure it is, by
-- which calendar it was read, and that its weekday is not compared. And how its page names it. This
-- project's profile.
use Rattle.std.specs.Prelude.{ℕ, ◌==◌, Bool, if◌then◌else◌, List, [], ◌∷◌, ◌++◌, Option, Some, None}
use Rattle.std.specs.Prelude.{Result, Ok, Err, codes}
use Rattle.std.specs.Option.{option_or}
use Rattle.osn_days.specs.declared.weekday.Weekday.{Weekday}
use Rattle.osn_days.specs.Rules.{Rules}
use Rattle.osn_days.specs.Weekday.{weekday_name}
use Rattle.osn_written.specs.declared.any_date.Reckoning.{Reckoning}
use Rattle.osn_written.specs.declared.any_date.Reckoning.TheVariants.{OldStyle, NewStyle}
use Rattle.osn_written.specs.declared.any_date.AnyDate.{AnyDate}
use Rattle.osn_written.specs.declared.any_date.Extent.{Extent}
use Rattle.osn_written.specs.AnyDate.{has_three_digits}
use Rattle.osn_territory.specs.declared.dating.DatedDay.{DatedDay}
use Rattle.osn_territory.specs.declared.runs.Run.{Run}
use Rattle.osn_territory.specs.Dating.{dated_on, dated_text}
use Rattle.osn_territory.specs.Territory.{TerritoryModel}
use Rattle.osn_written.specs.declared.finding.NoDay.{NoDay}
use Rattle.osn_written.specs.declared.written_date.DateFault.{DateFault}
use Rattle.osn_written.specs.declared.written_date.WrittenDate.{WrittenDate}
use Rattle.osn_written.specs.DateInWords.{words_of}
use Rattle.osn_written.specs.Finding.{by_reckoning, extent_meant, is_by_other_calendar}
use Rattle.osn_written.specs.Finding.{with_reckoning}
use Rattle.osn_written.specs.Spans.{ends_in_next_year}
use Rattle.osn_written.specs.PlainDay.{plain_day}
use Rattle.osn_written.specs.PlainDay.{one_day}

-- ---- the name of a date

-- one day of which nothing more is said without its weekday, and any other date with all that is
-- said of it
abbrev pub without_weekday : AnyDate → AnyDate
without_weekday w = record w { weekday = None }

abbrev pub subject_of : AnyDate → Result WrittenDate DateFault → List ℕ
subject_of w (Ok day) = words_of (without_weekday w)
subject_of w (Err fault) = words_of w

unfoldable pub subject : AnyDate → List ℕ
subject w = subject_of w (plain_day w)

-- ---- how sure it is

-- a word if something is said
abbrev pub word_if : Bool → List ℕ → List (List ℕ)
word_if applies word = if applies then word ∷ [] else []

-- words with `; ` between them, as a line, if there are words
abbrev pub words_after : List (List ℕ) → List ℕ
words_after [] = codes "\n"
words_after (word ∷ words) = codes "; " ++ (word ++ words_after words)

abbrev pub line_of_words : List (List ℕ) → List ℕ
line_of_words [] = []
line_of_words (word ∷ words) = word ++ words_after words

-- which of these is said of a date: approximate; in doubt; supplied by an editor
abbrev pub sureness : Bool → Bool → Bool → List ℕ
sureness approximate uncertain supplied = line_of_words
    (word_if approximate (codes "approximate")
    ++ (word_if uncertain (codes "in doubt")
    ++ word_if supplied (codes "supplied by an editor")))

abbrev pub sureness_line : AnyDate → List ℕ
sureness_line w = sureness w.is_approximate w.is_uncertain w.is_supplied

-- ---- its year

-- the line that the last day of a range with one year is of the next year, by the reckoning of a
-- territory
abbrev pub next_year_line : Rules → TerritoryModel → Extent → List ℕ
next_year_line p t e = if ends_in_next_year p t e then codes "ends in the next year\n" else []

-- a year of three digits may lack its last one
abbrev pub three_digits_line : AnyDate → List ℕ
three_digits_line w =
    if has_three_digits w.extent then codes "year of three digits\n" else []

-- ---- by which calendar

abbrev pub style_name : Reckoning → List ℕ
style_name OldStyle = codes "Old Style"
style_name NewStyle = codes "New Style"

-- the day, if runs are a single one
abbrev pub only_day : List Run → Option ℕ
only_day (r ∷ []) = if r.first == r.last then Some r.first else None
only_day [] = None
only_day (r ∷ next ∷ rest) = None

-- how the place of that name itself dated a day
unfoldable pub own_day : List ℕ → DatedDay → List ℕ
own_day name x = name ++ (codes " itself dated that day " ++ (dated_text x ++ codes "\n"))

-- how the place of that name itself dated days: a single one is named, and others are written above
unfoldable pub own_days : Rules → List ℕ → TerritoryModel → Option ℕ → List ℕ
own_days p name t (Some d) = own_day name (dated_on p t d)
own_days p name t None = name ++ codes " itself dated these days as they are written above\n"

-- how the place itself dated what the date means by the calendar that it names. If it means no day
-- by that calendar, it means one by the place's own reckoning
unfoldable pub own_dates : Rules → List ℕ → TerritoryModel → Result (List Run) NoDay → List ℕ
own_dates p name t (Ok runs) = own_days p name t (only_day runs)
own_dates p name t (Err reason) =
    codes "by its own reckoning " ++ (name ++ codes " has that date\n")

-- by which calendar the date is read, if it means other days by the place's own reckoning
abbrev pub calendar_line : Rules → List ℕ → TerritoryModel → AnyDate → Option Reckoning → List ℕ
calendar_line p name t w None = []
calendar_line p name t w (Some reckoning) =
    if is_by_other_calendar p t w then
    codes "read as "
    ++ (style_name reckoning
    ++ (codes ", as the date says; "
    ++ own_dates p name t (extent_meant p (by_reckoning t reckoning) w.extent)))
    else []

-- ---- the weekday

-- the weekday of a date that is no one day
unfoldable pub not_sought_line : Option Weekday → List ℕ
not_sought_line None = []
not_sought_line (Some weekday) =
    weekday_name weekday ++ codes " is not compared: the date is not written as a day\n"

abbrev pub weekday_line : Option Weekday → Option WrittenDate → List ℕ
weekday_line weekday (Some day) = []
weekday_line weekday None = not_sought_line weekday

-- ---- all of them

unfoldable pub remark_lines : Rules → List ℕ → TerritoryModel → AnyDate → Option Weekday → List ℕ
remark_lines p name t w given =
    next_year_line p (with_reckoning t w.reckoning) w.extent
    ++ (sureness_line w
    ++ (three_digits_line w
    ++ (calendar_line p name t w w.reckoning
    ++ weekday_line (option_or w.weekday given) (one_day w))))
