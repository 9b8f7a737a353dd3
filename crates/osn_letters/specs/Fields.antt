-- The twelve fields that are put after a letter's row: which days its date means in its place. This
-- project's profile.
use Rattle.std.specs.Prelude.{ℕ, Bool, true, false, List, [], ◌∷◌, ◌++◌, map, codes}
use Rattle.std.specs.Prelude.{if◌then◌else◌}
use Rattle.std.specs.Prelude.{Option, Some, None, Result, Ok, Err, string_bytes}
use Rattle.std.specs.Fmt.{decimal}
use Rattle.std.specs.List.{join_by}
use Rattle.osn_days.specs.declared.calendar.Calendar.TheVariants as calendar
use Rattle.osn_days.specs.declared.weekday.Weekday.{Weekday}
use Rattle.osn_days.specs.Rules.{Rules}
use Rattle.osn_days.specs.Chain.{date_of}
use Rattle.osn_days.specs.DateText.{text_of_date}
use Rattle.osn_days.specs.Line.{julian_day, weekday}
use Rattle.osn_days.specs.Weekday.{weekday_name, weekday_numbered}
use Rattle.osn_grammar.specs.declared.text_reading.DateOrder.{DateOrder}
use Rattle.osn_grammar.specs.declared.text_reading.TextReading.{TextReading}
use Rattle.osn_grammar.specs.declared.text_reading.TextReading.TheVariants as written
use Rattle.osn_written.specs.declared.any_date.AnyDate.{AnyDate}
use Rattle.osn_territory.specs.declared.dating.DatedDay.{DatedDay}
use Rattle.osn_territory.specs.declared.runs.Run.{Run}
use Rattle.osn_territory.specs.Dating.{dated_text}
use Rattle.osn_territory.specs.Territory.{TerritoryModel}
use Rattle.osn_register.specs.Plain.{EntryModel}
use Rattle.osn_written.specs.declared.finding.NoDay.{NoDay}
use Rattle.osn_written.specs.declared.finding.NoDay.TheVariants.{Absent}
use Rattle.osn_written.specs.declared.kind.Kind.{Kind}
use Rattle.osn_written.specs.declared.kind.Kind.TheVariants as kinds
use Rattle.osn_written.specs.declared.set.AbsentMember.{AbsentMember}
use Rattle.osn_written.specs.declared.written_date.DateFault.{DateFault}
use Rattle.osn_written.specs.declared.written_date.DateFault.TheVariants.{NoDate}
use Rattle.osn_written.specs.declared.written_date.WrittenDate.{WrittenDate}
use Rattle.osn_written.specs.Absence.{absence}
use Rattle.osn_written.specs.Double.{is_extent_not_counted_double}
use Rattle.osn_written.specs.Finding.{extent_meant, is_by_other_calendar, with_reckoning}
use Rattle.osn_written.specs.Kind.{kind_of, kind_word}
use Rattle.osn_written.specs.Meaning.{dated_by, meaning}
use Rattle.osn_written.specs.PlainDay.{one_day}
use Rattle.osn_written.specs.SetsMeant.{set_meant, is_set_approximate, is_set_uncertain}
use Rattle.osn_written.specs.Spans.{ends_in_next_year}
use Rattle.osn_letters.specs.declared.added_fields.Summary.{Summary}
use Rattle.osn_letters.specs.declared.day_field.DayField.{DayField}
use Rattle.osn_letters.specs.declared.day_field.DayField.TheVariants as field
use Rattle.osn_letters.specs.declared.letter.LetterFields.{LetterFields}
use Rattle.osn_letters.specs.declared.no_place.NoPlace.{NoPlace}
use Rattle.osn_letters.specs.declared.no_place.NoPlace.TheVariants.{Unknown, NotUtf8}
use Rattle.osn_letters.specs.declared.remark.Remark.{Remark}
use Rattle.osn_letters.specs.declared.remark.Remark.TheVariants as remark
use Rattle.osn_letters.specs.declared.span.Span.{Span}
use Rattle.osn_letters.specs.Edtf.{edtf_of_days, edtf_of_runs, edtf_of_span, sign, sign_of}
use Rattle.osn_letters.specs.PlaceEntries.{PlaceEntry}
use Rattle.osn_letters.specs.Remarks.{remark_text, remarks_beside, remarks_beside_set}
use Rattle.osn_letters.specs.Remarks.{remarks_on_days, applying}
use Rattle.osn_letters.specs.RowFields.{date_of_field, is_malformed_weekday, is_text, members_in}
use Rattle.osn_letters.specs.RowFields.{territory_in, weekday_in}
use Rattle.osn_letters.specs.Span.{no_span, span_of_days, span_of_runs, span_of_set}

-- ---- the fields of the days

-- what a field says of one day
abbrev pub day_text : DayField → DatedDay → List ℕ
day_text field.Number dated = decimal dated.day
day_text field.Gregorian dated = text_of_date (date_of calendar.Gregorian dated.day)
day_text field.Julian dated = text_of_date (date_of calendar.Julian dated.day)
day_text field.Dual dated = dated_text dated
day_text field.Weekday dated = weekday_name (weekday_numbered (weekday dated.day))
day_text field.JulianDayNumber dated = decimal (julian_day dated.day)

-- what a field says of all days
abbrev pub days_text : List DatedDay → DayField → List ℕ
days_text days f = join_by (day_text f) (codes "; ") days

-- the fields that contain each day on its own, in their order
abbrev pub day_fields : List DayField
day_fields =
    field.Number
    ∷ field.Gregorian
    ∷ field.Julian
    ∷ field.Dual
    ∷ field.Weekday
    ∷ field.JulianDayNumber
    ∷ []

-- ---- the twelve fields

-- the Gregorian date of the first or the last day, if there is one
abbrev pub end_text : Option ℕ → List ℕ
end_text None = []
end_text (Some d) = text_of_date (date_of calendar.Gregorian d)

-- the word of the kind, if there is one
abbrev pub kind_text : Option Kind → List ℕ
kind_text None = []
kind_text (Some kind) = kind_word kind

abbrev pub summary_fields : Summary → List (List ℕ)
summary_fields s = end_text s.span.earliest ∷ end_text s.span.latest ∷ kind_text s.kind ∷ []

-- of these days, and with these texts of them and of the remarks
abbrev pub added_fields : Summary → List DatedDay → List ℕ → List ℕ → List (List ℕ)
added_fields s days edtf remarks =
    map (days_text days) day_fields
    ++ (summary_fields s ++ (edtf ∷ decimal s.edition ∷ remarks ∷ []))

-- the fields that are put after a letter's row, and its remarks
pub record FieldsAndRemarks : Type 0 where
  pub fields : List (List ℕ)
  pub remarks : List Remark

-- the fields and remarks that a call of the code makes
abbrev pub fields_and_remarks : LetterFields → FieldsAndRemarks
fields_and_remarks made = record {
  fields =
      added_fields made.summary made.days.items (string_bytes made.edtf)
      (remark_text made.remarks.items);
  remarks = made.remarks.items;
}

-- of these days, with this text of them, and with remarks, whose words the last field joins
abbrev pub fields_with : Summary → List DatedDay → List ℕ → List Remark → FieldsAndRemarks
fields_with s days edtf remarks = record {
  fields = added_fields s days edtf (remark_text remarks);
  remarks = remarks;
}

-- what is said of a date as a whole
abbrev pub summary : ℕ → Option Kind → Span → Summary
summary edition kind span = record { span = span; kind = kind; edition = edition }

abbrev pub summary_of : ℕ → AnyDate → Span → Summary
summary_of edition w span = summary edition (Some (kind_of w.extent)) span

-- the fields and remarks of a row that has no day
abbrev pub fields_of_none : ℕ → Option Kind → List (Bool × Remark) → FieldsAndRemarks
fields_of_none edition kind remarks =
    fields_with (summary edition kind no_span) [] [] (applying remarks)

-- the fields and remarks of a date that means no day
abbrev pub fields_of_absence : ℕ → AnyDate → NoDay → List (Bool × Remark) → FieldsAndRemarks
fields_of_absence edition w reason beside =
    fields_of_none edition (Some (kind_of w.extent)) ((true, remark.NoDay reason) ∷ beside)

-- the fields and remarks of a date that means these days
abbrev pub fields_of_days : ℕ → AnyDate → List DatedDay → List (Bool × Remark) → FieldsAndRemarks
fields_of_days edition w days remarks =
    fields_with (summary_of edition w (span_of_days days)) days (edtf_of_days (sign w) days)
    (applying remarks)

-- the fields and remarks of a date that means these runs
abbrev pub fields_of_runs : ℕ → AnyDate → List Run → List (Bool × Remark) → FieldsAndRemarks
fields_of_runs edition w runs remarks =
    let span = span_of_runs w.extent runs in
    fields_with (summary_of edition w span) [] (edtf_of_span (sign w) span runs)
    (applying remarks)

-- ---- the date, in its territory

-- the fields and remarks of a date that is one day, by the days that it means
abbrev pub fields_of_meaning : ℕ → AnyDate → WrittenDate → Option Weekday → NoDay
    → List (Bool × Remark) → List DatedDay → FieldsAndRemarks
fields_of_meaning edition w day weekday_beside reason beside [] =
    fields_of_absence edition w reason beside
fields_of_meaning edition w day weekday_beside reason beside (first ∷ rest) =
    fields_of_days edition w (first ∷ rest)
    (remarks_on_days day weekday_beside (first ∷ rest) ++ beside)

-- the fields and remarks of a date that is one day, by the reckoning of a territory, each day as
-- the place dated it
abbrev pub fields_of_one_day : Rules → ℕ → TerritoryModel → TerritoryModel → AnyDate
    → WrittenDate → Option Weekday → List (Bool × Remark) → FieldsAndRemarks
fields_of_one_day p edition own t w day weekday_beside beside =
    fields_of_meaning edition w day weekday_beside (Absent (absence p t day)) beside
    (dated_by p own (meaning p t day weekday_beside))

-- the fields and remarks of a date that is not one day. A remark says if the place counted one of
-- its days not double, and if a range with one year ends in the next one
abbrev pub fields_of_found : ℕ → AnyDate → Bool → Bool → List (Bool × Remark)
    → Result (List Run) NoDay → FieldsAndRemarks
fields_of_found edition w single later beside (Ok runs) =
    fields_of_runs edition w runs
    ((single, remark.NotCountedDouble) ∷ (later, remark.EndsInNextYear) ∷ beside)
fields_of_found edition w single later beside (Err reason) =
    fields_of_absence edition w reason beside

abbrev pub fields_of_many_days : Rules → ℕ → TerritoryModel → TerritoryModel → AnyDate
    → List (Bool × Remark) → FieldsAndRemarks
fields_of_many_days p edition own t w beside =
    fields_of_found edition w (is_extent_not_counted_double p own t w.extent)
    (ends_in_next_year p t w.extent) beside (extent_meant p t w.extent)

-- the fields and remarks of a date that is one day or not
abbrev pub fields_of_either : Rules → ℕ → TerritoryModel → TerritoryModel → AnyDate
    → Option Weekday → List (Bool × Remark) → Option WrittenDate → FieldsAndRemarks
fields_of_either p edition own t w weekday_beside beside (Some day) =
    fields_of_one_day p edition own t w day weekday_beside beside
fields_of_either p edition own t w weekday_beside beside None =
    fields_of_many_days p edition own t w beside

-- the fields and remarks of a date by the reckoning of a territory, in a place of its own
-- reckoning, with the field of the weekday
abbrev pub fields_by : Rules → ℕ → TerritoryModel → TerritoryModel → Bool → AnyDate
    → Option (List ℕ) → FieldsAndRemarks
fields_by p edition own t is_other w weekday_field =
    fields_of_either p edition own t w (weekday_in weekday_field)
    (remarks_beside w (weekday_in weekday_field) is_other (is_malformed_weekday weekday_field))
    (one_day w)

-- the fields and remarks of a date in its territory, by the calendar that it names
abbrev pub fields_in : Rules → ℕ → TerritoryModel → AnyDate → Option (List ℕ) → FieldsAndRemarks
fields_in p edition t w weekday_field =
    fields_by p edition t (with_reckoning t w.reckoning)
    (is_by_other_calendar p t w) w weekday_field

-- ---- a set of dates

-- the fields and remarks of a set that means these runs
abbrev pub fields_of_set_runs : ℕ → List AnyDate → List Run → List (Bool × Remark)
    → FieldsAndRemarks
fields_of_set_runs edition ws runs beside =
    fields_with (summary edition (Some kinds.Set) (span_of_set runs)) []
    (edtf_of_runs (sign_of (is_set_uncertain ws) (is_set_approximate ws)) runs)
    (applying beside)

-- the fields and remarks of a set that means no day, for that reason
abbrev pub fields_of_no_set : ℕ → Remark → List (Bool × Remark) → FieldsAndRemarks
fields_of_no_set edition reason beside =
    fields_of_none edition (Some kinds.Set) ((true, reason) ∷ beside)

abbrev pub fields_of_found_set : ℕ → List AnyDate → List (Bool × Remark)
    → Result (List Run) AbsentMember → FieldsAndRemarks
fields_of_found_set edition ws beside (Ok runs) = fields_of_set_runs edition ws runs beside
fields_of_found_set edition ws beside (Err absent) =
    fields_of_no_set edition (remark.NoDay absent.reason) beside

-- the fields and remarks of a set in its place, if that is known
abbrev pub fields_of_members : Rules → ℕ → Result TerritoryModel NoPlace → List AnyDate
    → List (Bool × Remark) → FieldsAndRemarks
fields_of_members p edition (Ok t) ws beside =
    fields_of_found_set edition ws beside (set_meant p t ws)
fields_of_members p edition (Err reason) ws beside =
    fields_of_no_set edition (remark.NoPlace reason) beside

-- the fields and remarks of a set, with the field of the weekday
abbrev pub fields_of_set : Rules → ℕ → Result TerritoryModel NoPlace → List AnyDate
    → Option (List ℕ) → FieldsAndRemarks
fields_of_set p edition t ws weekday_field =
    fields_of_members p edition t ws
    (remarks_beside_set (weekday_in weekday_field) (is_malformed_weekday weekday_field))

-- ---- the whole

-- the fields and remarks of a date whose place is not known, for that reason
abbrev pub fields_without_place : ℕ → NoPlace → AnyDate → Option (List ℕ) → FieldsAndRemarks
fields_without_place edition reason w weekday_field =
    fields_of_none edition (Some (kind_of w.extent))
    ((true, remark.NoPlace reason)
    ∷ remarks_beside w (weekday_in weekday_field) false (is_malformed_weekday weekday_field))

-- the fields and remarks of a date in its place, if that is known
abbrev pub fields_of_date : Rules → ℕ → Result TerritoryModel NoPlace → AnyDate → Option (List ℕ)
    → FieldsAndRemarks
fields_of_date p edition (Ok t) w weekday_field = fields_in p edition t w weekday_field
fields_of_date p edition (Err reason) w weekday_field =
    fields_without_place edition reason w weekday_field

-- what is said of the place
abbrev pub place_remark : Result TerritoryModel NoPlace → Bool × Remark
place_remark (Ok t) = (false, remark.NoPlace Unknown)
place_remark (Err reason) = (true, remark.NoPlace reason)

-- if no date is read
abbrev pub fields_without_date : ℕ → DateFault → Bool × Remark → Option (List ℕ)
    → FieldsAndRemarks
fields_without_date edition fault place weekday_field =
    fields_of_none edition None
    ((true, remark.NotRead fault)
    ∷ place
    ∷ (is_malformed_weekday weekday_field, remark.MalformedWeekday)
    ∷ [])

-- what is said of the place beside a date that is not UTF-8: that of the place is not said again
abbrev pub place_remark_beside : Result TerritoryModel NoPlace → Bool × Remark
place_remark_beside (Err NotUtf8) = (false, remark.NoPlace Unknown)
place_remark_beside other = place_remark other

-- if the date is not UTF-8
abbrev pub fields_without_text : ℕ → Result TerritoryModel NoPlace → Option (List ℕ)
    → FieldsAndRemarks
fields_without_text edition t weekday_field =
    fields_of_none edition None
    ((true, remark.NotUtf8)
    ∷ place_remark_beside t
    ∷ (is_malformed_weekday weekday_field, remark.MalformedWeekday)
    ∷ [])

-- of what the field of the date says, which may be a set of these dates, or no text
abbrev pub fields_of_reading : Rules → ℕ → Result TerritoryModel NoPlace → Option (List ℕ)
    → List AnyDate → Bool → Result TextReading DateFault → FieldsAndRemarks
fields_of_reading p edition t weekday_field ws is_read (Ok (written.Date w)) =
    fields_of_date p edition t w weekday_field
fields_of_reading p edition t weekday_field ws is_read (Ok written.Set) =
    fields_of_set p edition t ws weekday_field
fields_of_reading p edition t weekday_field ws is_read (Ok written.NoDate) =
    fields_without_date edition NoDate (place_remark t) weekday_field
fields_of_reading p edition t weekday_field ws is_read (Err fault) =
    if is_read then fields_without_date edition fault (place_remark t) weekday_field
    else fields_without_text edition t weekday_field

-- the twelve fields for a place, a date and perhaps a weekday, by the territories of an edition and
-- a table of places
abbrev pub row_fields : Rules → List EntryModel → ℕ → DateOrder → List PlaceEntry → List ℕ
    → List ℕ → Option (List ℕ) → FieldsAndRemarks
row_fields p territories edition order places place date weekday_field =
    fields_of_reading p edition (territory_in territories places place) weekday_field
    (members_in date) (is_text date) (date_of_field order date)
