-- The JSON value of each outcome, and the line that is its text: this project's profile. The
-- members of an object are in ascending order of their names.
use Rattle.std.specs.Prelude.{ℕ, Bool, List, [], ◌∷◌, ◌++◌, map, codes, Option, Some, None}
use Rattle.serde_json.specs.Data.{Data, null, boolean, string, object, member, no_members}
use Rattle.serde_json.specs.Written.{compact_text}
use Rattle.osn_computus.specs.declared.letters.Letters.{Letters}
use Rattle.osn_computus.specs.FigureTexts.{epact_text, letters_text}
use Rattle.osn_computus.specs.RuleWords.{rule_word}
use Rattle.osn_days.specs.declared.calendar.Calendar.TheVariants.{Julian, Gregorian}
use Rattle.osn_days.specs.declared.weekday.Weekday.{Weekday}
use Rattle.osn_days.specs.Chain.{date_of}
use Rattle.osn_days.specs.Line.{weekday, julian_day}
use Rattle.osn_days.specs.Weekday.{weekday_name, weekday_numbered}
use Rattle.osn_days.specs.DateText.{date_text, text_of_date}
use Rattle.osn_days.specs.CalendarWords.{calendar_word}
use Rattle.osn_territory.specs.declared.regime.Regime.{Regime}
use Rattle.osn_territory.specs.StyleWords.{style_word}
use Rattle.osn_written.specs.declared.any_date.Reckoning.{Reckoning}
use Rattle.osn_written.specs.declared.any_date.Reckoning.TheVariants.{OldStyle, NewStyle}
use Rattle.osn_written.specs.declared.kind.Kind.{Kind}
use Rattle.osn_written.specs.Feast.{feast_name}
use Rattle.osn_written.specs.Kind.{kind_word}
use Rattle.osn_written.specs.Words.{no_day_words, fault_words}
use Rattle.osn_register.specs.declared.answer.Answer.{Answer}
use Rattle.osn_register.specs.declared.answer.Answer.TheVariants as answers
use Rattle.osn_register.specs.declared.answer.Exception.{Exception}
use Rattle.osn_register.specs.declared.answer.Found.{Found}
use Rattle.osn_register.specs.declared.answer.FoundChange.{FoundChange}
use Rattle.osn_register.specs.declared.answer.FoundFeast.{FoundFeast}
use Rattle.osn_register.specs.declared.answer.FoundRun.{FoundRun}
use Rattle.osn_register.specs.declared.answer.Land.{Land}
use Rattle.osn_register.specs.declared.answer.PeriodAndSource.{PeriodAndSource}
use Rattle.osn_register.specs.declared.answer.Reason.{Reason}
use Rattle.osn_register.specs.declared.answer.Reason.TheVariants.{NotRead, NoDay}
use Rattle.osn_register.specs.declared.answer.WrittenAnswer.{WrittenAnswer}
use Rattle.osn_register.specs.Refusal.{refusal_number, refusal_name}
use Rattle.osn_request.specs.declared.wire_fault.WireFault.{WireFault}
use Rattle.osn_request.specs.declared.wire_fault.WireFault.TheVariants as faults
use Rattle.osn_service.specs.declared.outcome.Outcome.{Outcome}
use Rattle.osn_service.specs.declared.outcome.Outcome.TheVariants.{Staged, Published, Refused}
use Rattle.osn_service.specs.declared.outcome.Outcome.TheVariants.{Fault, UnknownMember, Explained}
use Rattle.osn_service.specs.declared.outcome.Outcome.TheVariants.{Replied}
use Rattle.osn_request.specs.Member.{member_name}
use Rattle.osn_request.specs.WireFault.{wire_fault_number, wire_fault_name}
use Rattle.osn_request.specs.Json.{whole, list_data, source_member}
use Rattle.osn_service.specs.RejectionText.{rejection_data}

-- a day as a territory names it
abbrev pub found_data : Found → Data
found_data f = object (
    member (codes "day") (whole f.day)
    (member (codes "dual") (string f.dual)
    (member (codes "gregorian") (string (text_of_date (date_of Gregorian f.day)))
    (member (codes "jdn") (whole (julian_day f.day))
    (member (codes "julian") (string (text_of_date (date_of Julian f.day)))
    (member (codes "label") (string (date_text f.label.year f.label.month f.label.day))
    (member (codes "weekday") (string (weekday_name (weekday_numbered (weekday f.day))))
    no_members)))))))

-- how a territory reckons
abbrev pub regime_data : Regime → Data
regime_data r = object (
    member (codes "calendar") (string (calendar_word r.calendar))
    (member (codes "rule") (string (rule_word r.rule))
    (member (codes "style") (string (style_word r.style))
    no_members)))

-- a period by its first and last day and its regime, and its source
abbrev pub period_data : PeriodAndSource → Data
period_data p = object (
    member (codes "calendar") (string (calendar_word p.period.regime.calendar))
    (member (codes "first") (whole p.period.first)
    (member (codes "last") (whole p.period.last)
    (member (codes "rule") (string (rule_word p.period.regime.rule))
    (source_member p.source
    (member (codes "style") (string (style_word p.period.regime.style))
    no_members))))))

-- a territory
abbrev pub territory_data : Land → Data
territory_data l = object (
    member (codes "code") (string l.code)
    (member (codes "name") (string l.name)
    no_members))

abbrev pub reading_data : List Found → List ℕ → Data
reading_data found skipped = object (
    member (codes "days") (list_data (map found_data found))
    (member (codes "skipped") (list_data (map whole skipped))
    no_members))

-- a day as the territory names it, and the period that holds it, with its source
abbrev pub on_day_data : Found → PeriodAndSource → Data
on_day_data found p = object (
    member (codes "first") (whole p.period.first)
    (member (codes "found") (found_data found)
    (member (codes "last") (whole p.period.last)
    (member (codes "regime") (regime_data p.period.regime)
    (source_member p.source
    no_members)))))

-- the Easters of a year, whether an exception is listed for it, and the source of that
abbrev pub easters_data : List Found → Bool → Option (List ℕ) → Data
easters_data found listed source = object (
    member (codes "days") (list_data (map found_data found))
    (member (codes "listed") (boolean listed)
    (source_member source
    no_members)))

-- the figures of a year by one rule
abbrev pub reckoning_data : ℕ → Data → Letters → Data
reckoning_data easter epact letters = object (
    member (codes "easter") (whole easter)
    (member (codes "epact") epact
    (member (codes "letters") (string (letters_text letters))
    no_members)))

-- the figures of a year
abbrev pub figures_data : ℕ → ℕ → ℕ → Data → Data → Data
figures_data year golden indiction gregorian julian = object (
    member (codes "golden") (whole golden)
    (member (codes "gregorian") gregorian
    (member (codes "indiction") (whole indiction)
    (member (codes "julian") julian
    (member (codes "year") (whole year)
    no_members)))))

abbrev pub territories_data : List Land → Data
territories_data territories =
    object (member (codes "lands") (list_data (map territory_data territories)) no_members)

abbrev pub periods_data : List PeriodAndSource → Data
periods_data periods =
    object (member (codes "periods") (list_data (map period_data periods)) no_members)

-- a year with a listed Easter: the day as the territory names it, and the source
abbrev pub exception_data : Exception → Data
exception_data e = object (
    member (codes "found") (found_data e.found)
    (source_member e.source
    (member (codes "year") (whole e.year)
    no_members)))

abbrev pub exceptions_data : List Exception → Data
exceptions_data exceptions =
    object (member (codes "exceptions") (list_data (map exception_data exceptions)) no_members)

-- a value, or null if no value is given
abbrev pub option_data : {A : Type 0} → (A → Data) → Option A → Data
option_data json_value None = null
option_data json_value (Some x) = json_value x

-- a change by the day before it and its first day, the regimes that end and begin, its source, and
-- how many dates are left out and come twice
abbrev pub change_data : FoundChange → Data
change_data c = object (
    member (codes "before") (found_data c.before)
    (member (codes "found") (found_data c.found)
    (member (codes "left_out") (option_data whole c.left_out)
    (member (codes "regime") (regime_data c.regime)
    (member (codes "regime_before") (regime_data c.regime_before)
    (source_member c.source
    (member (codes "twice") (option_data whole c.twice)
    no_members)))))))

abbrev pub changes_data : List FoundChange → Data
changes_data changes =
    object (member (codes "changes") (list_data (map change_data changes)) no_members)

-- a feast by its name, its day, and the year from 1 January with its Easter
abbrev pub found_feast_data : FoundFeast → Data
found_feast_data f = object (
    member (codes "feast") (string (feast_name f.feast))
    (member (codes "found") (found_data f.found)
    (member (codes "year") (whole f.year)
    no_members)))

abbrev pub feasts_data : List FoundFeast → Data
feasts_data feasts =
    object (member (codes "feasts") (list_data (map found_feast_data feasts)) no_members)

-- the day that has a date by a calendar, as the territory names it, or none
abbrev pub converted_data : List Found → Data
converted_data found =
    object (member (codes "days") (list_data (map found_data found)) no_members)

-- the word of a date's kind
abbrev pub word_of_kind : Option Kind → List ℕ
word_of_kind None = codes "none"
word_of_kind (Some kind) = kind_word kind

-- why a text means no day, in a few words
abbrev pub reason_words : Reason → List ℕ
reason_words (NotRead fault) = fault_words fault
reason_words (NoDay none) = no_day_words none

abbrev pub reason_data : Reason → Data
reason_data reason = string (reason_words reason)

-- days that follow one another, by the first and the last of them
abbrev pub found_run_data : FoundRun → Data
found_run_data run = object (
    member (codes "first") (found_data run.first)
    (member (codes "last") (found_data run.last)
    no_members))

-- the calendar that a text names, and its weekday
abbrev pub reckoning_words : Reckoning → List ℕ
reckoning_words OldStyle = codes "Old Style"
reckoning_words NewStyle = codes "New Style"

abbrev pub named_calendar_data : Reckoning → Data
named_calendar_data reckoning = string (reckoning_words reckoning)

abbrev pub weekday_data : Weekday → Data
weekday_data w = string (weekday_name w)

-- what a text means as a date, how it was read, and what is near it if it means no day
abbrev pub written_data : WrittenAnswer → Data
written_data w = object (
    member (codes "approximate") (boolean w.is_approximate)
    (member (codes "ends_in_next_year") (boolean w.remarks.ends_in_next_year)
    (member (codes "kind") (string (word_of_kind w.kind))
    (member (codes "named_calendar") (option_data named_calendar_data w.remarks.reckoning)
    (member (codes "named_weekday") (option_data weekday_data w.remarks.weekday)
    (member (codes "nearest") (list_data (map found_data w.near.days))
    (member (codes "not_counted_double") (boolean w.remarks.is_not_counted_double)
    (member (codes "other_calendar") (boolean w.is_by_other_calendar)
    (member (codes "read_as") (list_data (map string w.remarks.read_as))
    (member (codes "reason") (option_data reason_data w.reason)
    (member (codes "runs") (list_data (map found_run_data w.runs))
    (member (codes "skipped") (list_data (map whole w.near.changes))
    (member (codes "supplied") (boolean w.is_supplied)
    (member (codes "three_digits") (boolean w.remarks.has_year_of_three_digits)
    (member (codes "uncertain") (boolean w.is_uncertain)
    (member (codes "weekday") (option_data boolean w.is_on_weekday)
    (member (codes "year") (list_data (map found_run_data w.near.year))
    no_members)))))))))))))))))

abbrev pub answered_data : ℕ → ℕ → Data → Data
answered_data reader edition answer = object (
    member (codes "answer") answer
    (member (codes "edition") (whole edition)
    (member (codes "reader") (whole reader)
    no_members)))

-- the reply to a reader under an edition
abbrev pub replied_data : ℕ → ℕ → Answer → Data
replied_data reader edition (answers.Reading found skipped) =
    answered_data reader edition (reading_data found skipped)
replied_data reader edition (answers.OnDay found period) =
    answered_data reader edition (on_day_data found period)
replied_data reader edition (answers.Easters found listed source) =
    answered_data reader edition (easters_data found listed source)
replied_data reader edition
    (answers.Figures year golden indiction julian_epact gregorian_epact
    julian_letters gregorian_letters julian_easter gregorian_easter) =
    answered_data reader edition (figures_data year golden indiction
    (reckoning_data gregorian_easter (string (epact_text gregorian_epact)) gregorian_letters)
    (reckoning_data julian_easter (whole julian_epact) julian_letters))
replied_data reader edition (answers.Lands territories) =
    answered_data reader edition (territories_data territories)
replied_data reader edition (answers.Periods periods) =
    answered_data reader edition (periods_data periods)
replied_data reader edition (answers.Exceptions exceptions) =
    answered_data reader edition (exceptions_data exceptions)
replied_data reader edition (answers.Changes changes) =
    answered_data reader edition (changes_data changes)
replied_data reader edition (answers.Feasts feasts) =
    answered_data reader edition (feasts_data feasts)
replied_data reader edition (answers.Converted found) =
    answered_data reader edition (converted_data found)
replied_data reader edition (answers.Written written) =
    answered_data reader edition (written_data written)
replied_data reader edition (answers.Refused f) = object (
    member (codes "edition") (whole edition)
    (member (codes "fault") (whole (refusal_number f))
    (member (codes "name") (string (refusal_name f))
    (member (codes "reader") (whole reader)
    no_members))))

-- a refusal or a fault by its number and name
abbrev pub refused_data : ℕ → List ℕ → Data
refused_data n name = object (
    member (codes "fault") (whole n)
    (member (codes "name") (string name)
    no_members))

abbrev pub fault_data : WireFault → Data
fault_data (faults.BadField m) = object (
    member (codes "fault") (whole 34)
    (member (codes "field") (string (member_name m))
    (member (codes "name") (string (codes "BadField"))
    no_members)))
fault_data f = refused_data (wire_fault_number f) (wire_fault_name f)

-- the fault of a member that a request doesn't have
abbrev pub unknown_member_data : List ℕ → Data
unknown_member_data name = object (
    member (codes "fault") (whole 34)
    (member (codes "field") (string name)
    (member (codes "name") (string (codes "BadField"))
    no_members)))

abbrev pub outcome_data : Outcome → Data
outcome_data (Staged pending) = object (
    member (codes "ok") (string (codes "staged"))
    (member (codes "pending") (whole pending)
    no_members))
outcome_data (Published edition) = object (
    member (codes "edition") (whole edition)
    (member (codes "ok") (string (codes "published"))
    no_members))
outcome_data (Refused f) = refused_data (refusal_number f) (refusal_name f)
outcome_data (Fault f) = fault_data f
outcome_data (UnknownMember name) = unknown_member_data name
outcome_data (Explained rejection) = rejection_data rejection
outcome_data (Replied reader reply) = replied_data reader reply.edition reply.answer

-- the line of a value: its text without spaces, and a line feed
abbrev pub line_of : Data → List ℕ
line_of d = compact_text d ++ 10 ∷ []

-- the line of an outcome
unfoldable pub reply_line : Outcome → List ℕ
reply_line o = line_of (outcome_data o)
