-- What is said of a letter in its last field. This project's profile.
use Rattle.std.specs.Prelude.{ℕ, Bool, ◌&&◌, ◌||◌, ◌==◌, nat_lt, if◌then◌else◌, List, [], ◌∷◌}
use Rattle.std.specs.Prelude.{length, map, filter, count_by, Option, is_some, is_none, codes}
use Rattle.std.specs.List.{join_by, list_any}
use Rattle.osn_days.specs.declared.weekday.Weekday.{Weekday}
use Rattle.osn_written.specs.declared.any_date.AnyDate.{AnyDate}
use Rattle.osn_written.specs.AnyDate.{has_three_digits}
use Rattle.osn_territory.specs.declared.dating.DatedDay.{DatedDay}
use Rattle.osn_written.specs.declared.written_date.WrittenDate.{WrittenDate}
use Rattle.osn_written.specs.Meaning.{has_weekday, is_not_counted_double}
use Rattle.osn_written.specs.PlainDay.{one_day}
use Rattle.osn_written.specs.Words.{fault_words, no_day_words}
use Rattle.osn_letters.specs.declared.no_place.NoPlace.{NoPlace}
use Rattle.osn_letters.specs.declared.no_place.NoPlace.TheVariants as no_place
use Rattle.osn_letters.specs.declared.record_flaw.RecordFlaw.{RecordFlaw}
use Rattle.osn_letters.specs.declared.record_flaw.RecordFlaw.TheVariants as flaws
use Rattle.osn_letters.specs.declared.remark.Remark.{Remark}
use Rattle.osn_letters.specs.declared.remark.Remark.TheVariants as remark

-- why there is no territory, in words
abbrev pub place_words : NoPlace → List ℕ
place_words no_place.Unknown = codes "unknown place"
place_words no_place.Ambiguous = codes "ambiguous place"
place_words no_place.NotUtf8 = codes "not UTF-8"

-- what is wrong with a record, in words
abbrev pub flaw_words : RecordFlaw → List ℕ
flaw_words flaws.FieldCount = codes "another number of fields"
flaw_words flaws.TooLong = codes "more than 65536 bytes"
flaw_words flaws.OpenQuote = codes "quote not closed"
flaw_words flaws.TextAfterQuote = codes "text after a closing quote"

-- a remark in words
abbrev pub remark_words : Remark → List ℕ
remark_words (remark.OfRecord flaw) = flaw_words flaw
remark_words remark.NotUtf8 = codes "not UTF-8"
remark_words (remark.NotRead fault) = fault_words fault
remark_words (remark.NoPlace reason) = place_words reason
remark_words (remark.NoDay reason) = no_day_words reason
remark_words remark.ByItsWeekday = codes "by its weekday"
remark_words remark.SeveralDays = codes "several days"
remark_words remark.WeekdayDiffers = codes "weekday differs"
remark_words remark.NotCountedDouble = codes "not counted double there"
remark_words remark.EndsInNextYear = codes "ends in the next year"
remark_words remark.Supplied = codes "supplied by an editor"
remark_words remark.YearOfThreeDigits = codes "year of three digits"
remark_words remark.ByAnotherCalendar = codes "by another calendar"
remark_words remark.WeekdayNotCompared = codes "weekday not compared"
remark_words remark.MalformedWeekday = codes "malformed weekday"

-- of remarks, each with whether it applies, those that do, in their order
abbrev pub applying : List (Bool × Remark) → List Remark
applying remarks = map (λ r. r.1) (filter (λ r. r.0) remarks)

-- the field of remarks
abbrev pub remark_text : List Remark → List ℕ
remark_text remarks = join_by remark_words (codes "; ") remarks

-- a weekday is given, by the date itself or beside it
abbrev pub is_weekday_given : Option Weekday → Option Weekday → Bool
is_weekday_given date_weekday weekday = is_some date_weekday || is_some weekday

-- a weekday is given, and that many of the days have it
abbrev pub are_on_weekday : ℕ → WrittenDate → Option Weekday → List DatedDay → Bool
are_on_weekday count w weekday days =
    is_weekday_given w.weekday weekday && count_by (has_weekday w weekday) days == count

-- the remark on several days: whether the given weekday decides between them
abbrev pub several_remark : WrittenDate → Option Weekday → List DatedDay → Remark
several_remark w weekday days =
    if are_on_weekday 1 w weekday days then remark.ByItsWeekday else remark.SeveralDays

-- what is said of days
abbrev pub remarks_on_days : WrittenDate → Option Weekday → List DatedDay → List (Bool × Remark)
remarks_on_days w weekday days =
    (nat_lt 1 (length days), several_remark w weekday days)
    ∷ (are_on_weekday 0 w weekday days, remark.WeekdayDiffers)
    ∷ (list_any (is_not_counted_double w) days, remark.NotCountedDouble)
    ∷ []

-- what is said beside the days, of a date that is read
abbrev pub remarks_beside : AnyDate → Option Weekday → Bool → Bool → List (Bool × Remark)
remarks_beside w weekday is_by_other_calendar is_malformed =
    (w.is_supplied, remark.Supplied)
    ∷ (has_three_digits w.extent, remark.YearOfThreeDigits)
    ∷ (is_by_other_calendar, remark.ByAnotherCalendar)
    ∷ (is_none (one_day w) && is_weekday_given w.weekday weekday, remark.WeekdayNotCompared)
    ∷ (is_malformed, remark.MalformedWeekday)
    ∷ []

-- the remarks beside the days of a set of dates
abbrev pub remarks_beside_set : Option Weekday → Bool → List (Bool × Remark)
remarks_beside_set weekday is_malformed =
    (is_some weekday, remark.WeekdayNotCompared) ∷ (is_malformed, remark.MalformedWeekday) ∷ []
