-- No row has two remarks with the same words, so the tally of a table counts its rows.
use Rattle.std.proofs.Common.{◌≡◌, ℕ, Bool, true, false, ◌||◌, if◌then◌else◌, List, [], ◌∷◌}
use Rattle.std.proofs.Common.{◌++◌, map, refl, subst, Option, Some, None, Result, Ok, Err, IfSome}
use Rattle.std.proofs.Common.{get_or, option_map, length}
use Rattle.std.specs.Str.{bytes_eq}
use Rattle.osn_days.specs.declared.weekday.Weekday.{Weekday}
use Rattle.osn_days.specs.Rules.{Rules}
use Rattle.osn_grammar.specs.declared.text_reading.TextReading.{TextReading}
use Rattle.osn_grammar.specs.declared.text_reading.TextReading.TheVariants as written
use Rattle.osn_written.specs.declared.any_date.AnyDate.{AnyDate}
use Rattle.osn_territory.specs.declared.dating.DatedDay.{DatedDay}
use Rattle.osn_territory.specs.declared.runs.Run.{Run}
use Rattle.osn_territory.specs.Territory.{TerritoryModel}
use Rattle.osn_written.specs.declared.absence.Absence.TheVariants as why
use Rattle.osn_written.specs.declared.finding.NoDay.{NoDay}
use Rattle.osn_written.specs.declared.finding.NoDay.TheVariants as none
use Rattle.osn_written.specs.declared.written_date.DateFault.{DateFault}
use Rattle.osn_written.specs.declared.written_date.DateFault.TheVariants as faults
use Rattle.osn_written.specs.declared.written_date.WrittenDate.{WrittenDate}
use Rattle.osn_written.specs.Absence.{absence}
use Rattle.osn_written.specs.Finding.{extent_meant, is_by_other_calendar, with_reckoning}
use Rattle.osn_written.specs.Double.{is_extent_not_counted_double}
use Rattle.osn_written.specs.Meaning.{dated_by, meaning}
use Rattle.osn_written.specs.PlainDay.{one_day}
use Rattle.osn_written.specs.Spans.{ends_in_next_year}
use Rattle.osn_letters.specs.declared.columns.Columns.{Columns}
use Rattle.osn_letters.specs.declared.fault.LettersFault.{LettersFault}
use Rattle.osn_letters.specs.declared.no_place.NoPlace.{NoPlace}
use Rattle.osn_letters.specs.declared.no_place.NoPlace.TheVariants as no_place
use Rattle.osn_letters.specs.declared.record_flaw.RecordFlaw.{RecordFlaw}
use Rattle.osn_letters.specs.declared.remark.Remark.{Remark}
use Rattle.osn_letters.specs.declared.remark.Remark.TheVariants as remark
use Rattle.osn_letters.specs.Columns.{columns_of, own_header, place_in}
use Rattle.osn_letters.specs.DateParts.{date_in}
use Rattle.osn_letters.specs.Fields.{fields_of_either}
use Rattle.osn_letters.specs.Fields.{fields_of_found, fields_of_meaning, fields_of_reading}
use Rattle.osn_letters.specs.Fields.{fields_of_found_set, fields_of_members, place_remark}
use Rattle.osn_letters.specs.Fields.{place_remark_beside}
use Rattle.osn_letters.specs.Remarks.{remarks_beside_set}
use Rattle.osn_letters.specs.RowFields.{members_in}
use Rattle.osn_written.specs.declared.set.AbsentMember.{AbsentMember}
use Rattle.osn_written.specs.SetsMeant.{set_meant}
use Rattle.osn_letters.specs.Records.{PlacedRecord, records_of}
use Rattle.osn_letters.specs.Remarks.{are_on_weekday, remark_words, remarks_beside}
use Rattle.osn_letters.specs.Remarks.{remarks_on_days, applying}
use Rattle.osn_letters.specs.RowFields.{is_malformed_weekday, is_text, date_of_field, territory_in}
use Rattle.osn_letters.specs.RowFields.{weekday_in}
use Rattle.osn_letters.specs.RowRemarks.{IsTallyOf, first_remarks, header_remarks}
use Rattle.osn_letters.specs.RowRemarks.{letters_remarks, remarks_by, remarks_of, rows_remarks}
use Rattle.osn_letters.specs.RowRemarks.{table_remarks}
use Rattle.osn_letters.specs.Table.{TableBasis, letter_of, row_flaw}
use Rattle.osn_letters.specs.TableInside.{letters_tally}
use Rattle.osn_letters.specs.Tally.{IsTally, TallyModel, has_words}
use Rattle.osn_letters.specs.TallyInside.{no_rows}
use Rattle.osn_letters.proofs.TallyFacts.{AreAllApart, AreApart, none_tallied, rows_tallied}

-- ---- those that apply, of some that are apart

abbrev remarks_in : List (Bool × Remark) → List Remark
remarks_in all = map (λ r. r.1) all

neither : (a b c : Bool) → (a || b) ≡ false → (b ≡ false → c ≡ false) → (a || c) ≡ false
neither true b c none goes = absurd (cc none)
neither false b c none goes = goes none

right_false : (a b : Bool) → (a || b) ≡ false → b ≡ false
right_false true b none = absurd (cc none)
right_false false b none = none

none_has : (words : List ℕ) (all : List (Bool × Remark)) → has_words words (remarks_in all) ≡ false
    → has_words words (applying all) ≡ false
none_has words [] none = refl
none_has words ((true, r) ∷ rest) none =
    neither (bytes_eq words (remark_words r)) (has_words words (remarks_in rest))
    (has_words words (applying rest)) none (none_has words rest)
none_has words ((false, r) ∷ rest) none =
    none_has words rest
    (right_false (bytes_eq words (remark_words r)) (has_words words (remarks_in rest)) none)

apart_those : (all : List (Bool × Remark)) → AreApart (remarks_in all)
    → AreApart (applying all)
apart_those [] apart = tt
apart_those ((true, r) ∷ rest) (first, apart) =
    (none_has (remark_words r) rest first, apart_those rest apart)
apart_those ((false, r) ∷ rest) (first, apart) = apart_those rest apart

-- ---- what is said of a letter

abbrev Beside : Type 0
Beside = AnyDate × Option Weekday × Bool × Bool

abbrev beside : Beside → List (Bool × Remark)
beside (w, given, other, malformed) = remarks_beside w given other malformed

beside_apart : (b : Beside) → AreApart (remarks_in (beside b))
beside_apart b = (refl, (refl, (refl, (refl, (refl, tt)))))

place_apart : (reason : NoPlace) (b : Beside)
    → AreApart (remarks_in ((true, remark.NoPlace reason) ∷ beside b))
place_apart no_place.Unknown b = (refl, beside_apart b)
place_apart no_place.Ambiguous b = (refl, beside_apart b)
place_apart no_place.NotUtf8 b = (refl, beside_apart b)

absence_apart : (applies : Bool) (reason : NoDay) (b : Beside)
    → AreApart (remarks_in ((applies, remark.NoDay reason) ∷ beside b))
absence_apart applies (none.Absent why.NotWithBothYears) b = (refl, beside_apart b)
absence_apart applies (none.Absent why.NotOfItsCalendar) b = (refl, beside_apart b)
absence_apart applies (none.Absent why.OffTheLine) b = (refl, beside_apart b)
absence_apart applies (none.Absent why.Skipped) b = (refl, beside_apart b)
absence_apart applies (none.Absent why.NotInThatYear) b = (refl, beside_apart b)
absence_apart applies (none.LastAbsent why.NotWithBothYears) b = (refl, beside_apart b)
absence_apart applies (none.LastAbsent why.NotOfItsCalendar) b = (refl, beside_apart b)
absence_apart applies (none.LastAbsent why.OffTheLine) b = (refl, beside_apart b)
absence_apart applies (none.LastAbsent why.Skipped) b = (refl, beside_apart b)
absence_apart applies (none.LastAbsent why.NotInThatYear) b = (refl, beside_apart b)
absence_apart applies none.OutOfOrder b = (refl, beside_apart b)
absence_apart applies none.OffTheLine b = (refl, beside_apart b)
absence_apart applies none.NoFeast b = (refl, beside_apart b)

several_apart : (one : Bool) (b : Beside)
    → AreApart ((if one then remark.ByItsWeekday else remark.SeveralDays)
    ∷ remark.WeekdayDiffers ∷ remark.NotCountedDouble ∷ remarks_in (beside b))
several_apart true b = (refl, (refl, (refl, beside_apart b)))
several_apart false b = (refl, (refl, (refl, beside_apart b)))

days_apart : (day : WrittenDate) (given : Option Weekday) (days : List DatedDay) (b : Beside)
    → AreApart (remarks_in (remarks_on_days day given days ++ beside b))
days_apart day given days b = several_apart (are_on_weekday 1 day given days) b

date_apart : (applies lacks malformed : Bool) (reason : NoPlace) (fault : DateFault)
    → AreApart (remarks_in ((applies, remark.NotRead fault) ∷ (lacks, remark.NoPlace reason)
    ∷ (malformed, remark.MalformedWeekday) ∷ []))
date_apart a l m no_place.Unknown faults.Malformed = (refl, (refl, (refl, tt)))
date_apart a l m no_place.Unknown faults.LaterYear = (refl, (refl, (refl, tt)))
date_apart a l m no_place.Unknown faults.Year = (refl, (refl, (refl, tt)))
date_apart a l m no_place.Unknown faults.Month = (refl, (refl, (refl, tt)))
date_apart a l m no_place.Unknown faults.Day = (refl, (refl, (refl, tt)))
date_apart a l m no_place.Unknown faults.NoDate = (refl, (refl, (refl, tt)))
date_apart a l m no_place.Unknown faults.NotOneDay = (refl, (refl, (refl, tt)))
date_apart a l m no_place.Unknown faults.Qualifier = (refl, (refl, (refl, tt)))
date_apart a l m no_place.Unknown faults.ShortYear = (refl, (refl, (refl, tt)))
date_apart a l m no_place.Unknown faults.OpenYear = (refl, (refl, (refl, tt)))
date_apart a l m no_place.Unknown faults.DayOrMonth = (refl, (refl, (refl, tt)))
date_apart a l m no_place.Unknown faults.BothCalendars = (refl, (refl, (refl, tt)))
date_apart a l m no_place.Unknown (faults.TwoDays old new written) = (refl, (refl, (refl, tt)))
date_apart a l m no_place.Unknown faults.NamedCalendar = (refl, (refl, (refl, tt)))
date_apart a l m no_place.Unknown faults.OpenPart = (refl, (refl, (refl, tt)))
date_apart a l m no_place.Unknown faults.Feast = (refl, (refl, (refl, tt)))
date_apart a l m no_place.Unknown faults.RomanNumeral = (refl, (refl, (refl, tt)))
date_apart a l m no_place.Ambiguous faults.Malformed = (refl, (refl, (refl, tt)))
date_apart a l m no_place.Ambiguous faults.LaterYear = (refl, (refl, (refl, tt)))
date_apart a l m no_place.Ambiguous faults.Year = (refl, (refl, (refl, tt)))
date_apart a l m no_place.Ambiguous faults.Month = (refl, (refl, (refl, tt)))
date_apart a l m no_place.Ambiguous faults.Day = (refl, (refl, (refl, tt)))
date_apart a l m no_place.Ambiguous faults.NoDate = (refl, (refl, (refl, tt)))
date_apart a l m no_place.Ambiguous faults.NotOneDay = (refl, (refl, (refl, tt)))
date_apart a l m no_place.Ambiguous faults.Qualifier = (refl, (refl, (refl, tt)))
date_apart a l m no_place.Ambiguous faults.ShortYear = (refl, (refl, (refl, tt)))
date_apart a l m no_place.Ambiguous faults.OpenYear = (refl, (refl, (refl, tt)))
date_apart a l m no_place.Ambiguous faults.DayOrMonth = (refl, (refl, (refl, tt)))
date_apart a l m no_place.Ambiguous faults.BothCalendars = (refl, (refl, (refl, tt)))
date_apart a l m no_place.Ambiguous (faults.TwoDays old new written) = (refl, (refl, (refl, tt)))
date_apart a l m no_place.Ambiguous faults.NamedCalendar = (refl, (refl, (refl, tt)))
date_apart a l m no_place.Ambiguous faults.OpenPart = (refl, (refl, (refl, tt)))
date_apart a l m no_place.Ambiguous faults.Feast = (refl, (refl, (refl, tt)))
date_apart a l m no_place.Ambiguous faults.RomanNumeral = (refl, (refl, (refl, tt)))
date_apart a l m no_place.NotUtf8 faults.Malformed = (refl, (refl, (refl, tt)))
date_apart a l m no_place.NotUtf8 faults.LaterYear = (refl, (refl, (refl, tt)))
date_apart a l m no_place.NotUtf8 faults.Year = (refl, (refl, (refl, tt)))
date_apart a l m no_place.NotUtf8 faults.Month = (refl, (refl, (refl, tt)))
date_apart a l m no_place.NotUtf8 faults.Day = (refl, (refl, (refl, tt)))
date_apart a l m no_place.NotUtf8 faults.NoDate = (refl, (refl, (refl, tt)))
date_apart a l m no_place.NotUtf8 faults.NotOneDay = (refl, (refl, (refl, tt)))
date_apart a l m no_place.NotUtf8 faults.Qualifier = (refl, (refl, (refl, tt)))
date_apart a l m no_place.NotUtf8 faults.ShortYear = (refl, (refl, (refl, tt)))
date_apart a l m no_place.NotUtf8 faults.OpenYear = (refl, (refl, (refl, tt)))
date_apart a l m no_place.NotUtf8 faults.DayOrMonth = (refl, (refl, (refl, tt)))
date_apart a l m no_place.NotUtf8 faults.BothCalendars = (refl, (refl, (refl, tt)))
date_apart a l m no_place.NotUtf8 (faults.TwoDays old new written) = (refl, (refl, (refl, tt)))
date_apart a l m no_place.NotUtf8 faults.NamedCalendar = (refl, (refl, (refl, tt)))
date_apart a l m no_place.NotUtf8 faults.OpenPart = (refl, (refl, (refl, tt)))
date_apart a l m no_place.NotUtf8 faults.Feast = (refl, (refl, (refl, tt)))
date_apart a l m no_place.NotUtf8 faults.RomanNumeral = (refl, (refl, (refl, tt)))

fault_apart : (t : Result TerritoryModel NoPlace) (malformed : Bool) (fault : DateFault)
    → AreApart (applying ((true, remark.NotRead fault) ∷ place_remark t
    ∷ (malformed, remark.MalformedWeekday) ∷ []))
fault_apart (Ok t) malformed fault =
    apart_those ((true, remark.NotRead fault) ∷ place_remark (Ok t)
    ∷ (malformed, remark.MalformedWeekday) ∷ [])
    (date_apart true false malformed no_place.Unknown fault)
fault_apart (Err reason) malformed fault =
    apart_those ((true, remark.NotRead fault) ∷ place_remark (Err reason)
    ∷ (malformed, remark.MalformedWeekday) ∷ []) (date_apart true true malformed reason fault)

text_apart : (t : Result TerritoryModel NoPlace) (malformed : Bool)
    → AreApart (applying ((true, remark.NotUtf8) ∷ place_remark_beside t
    ∷ (malformed, remark.MalformedWeekday) ∷ []))
text_apart (Ok t) malformed =
    apart_those ((true, remark.NotUtf8) ∷ place_remark_beside (Ok t)
    ∷ (malformed, remark.MalformedWeekday) ∷ []) (refl, (refl, (refl, tt)))
text_apart (Err no_place.Unknown) malformed =
    apart_those ((true, remark.NotUtf8) ∷ place_remark_beside (Err no_place.Unknown)
    ∷ (malformed, remark.MalformedWeekday) ∷ []) (refl, (refl, (refl, tt)))
text_apart (Err no_place.Ambiguous) malformed =
    apart_those ((true, remark.NotUtf8) ∷ place_remark_beside (Err no_place.Ambiguous)
    ∷ (malformed, remark.MalformedWeekday) ∷ []) (refl, (refl, (refl, tt)))
text_apart (Err no_place.NotUtf8) malformed =
    apart_those ((true, remark.NotUtf8) ∷ place_remark_beside (Err no_place.NotUtf8)
    ∷ (malformed, remark.MalformedWeekday) ∷ []) (refl, (refl, (refl, tt)))

-- ---- of a date in its territory

meaning_apart : (edition : ℕ) (w : AnyDate) (day : WrittenDate) (given : Option Weekday)
    (reason : NoDay) (b : Beside) (days : List DatedDay)
    → AreApart (fields_of_meaning edition w day given reason (beside b) days).remarks
meaning_apart edition w day given reason b [] =
    apart_those ((true, remark.NoDay reason) ∷ beside b) (absence_apart true reason b)
meaning_apart edition w day given reason b (first ∷ rest) =
    apart_those (remarks_on_days day given (first ∷ rest) ++ beside b)
    (days_apart day given (first ∷ rest) b)

single_apart : (single later : Bool) (b : Beside)
    → AreApart (remarks_in ((single, remark.NotCountedDouble) ∷ (later, remark.EndsInNextYear)
    ∷ beside b))
single_apart single later b = (refl, (refl, beside_apart b))

found_apart : (edition : ℕ) (w : AnyDate) (single later : Bool) (b : Beside)
    (r : Result (List Run) NoDay)
    → AreApart (fields_of_found edition w single later (beside b) r).remarks
found_apart edition w single later b (Ok runs) =
    apart_those ((single, remark.NotCountedDouble) ∷ (later, remark.EndsInNextYear) ∷ beside b)
    (single_apart single later b)
found_apart edition w single later b (Err reason) =
    apart_those ((true, remark.NoDay reason) ∷ beside b) (absence_apart true reason b)

either_apart : (p : Rules) (edition : ℕ) (own t : TerritoryModel) (w : AnyDate)
    (given : Option Weekday) (b : Beside) (one : Option WrittenDate)
    → AreApart (fields_of_either p edition own t w given (beside b) one).remarks
either_apart p edition own t w given b (Some day) =
    meaning_apart edition w day given (none.Absent (absence p t day)) b
    (dated_by p own (meaning p t day given))
either_apart p edition own t w given b None =
    found_apart edition w (is_extent_not_counted_double p own t w.extent)
    (ends_in_next_year p t w.extent) b (extent_meant p t w.extent)

-- ---- of a set of dates

abbrev beside_set : Option Weekday × Bool → List (Bool × Remark)
beside_set (given, malformed) = remarks_beside_set given malformed

set_apart : (b : Option Weekday × Bool) → AreApart (remarks_in (beside_set b))
set_apart b = (refl, (refl, tt))

no_set_apart : (reason : NoDay) (b : Option Weekday × Bool)
    → AreApart (remarks_in ((true, remark.NoDay reason) ∷ beside_set b))
no_set_apart (none.Absent why.NotWithBothYears) b = (refl, set_apart b)
no_set_apart (none.Absent why.NotOfItsCalendar) b = (refl, set_apart b)
no_set_apart (none.Absent why.OffTheLine) b = (refl, set_apart b)
no_set_apart (none.Absent why.Skipped) b = (refl, set_apart b)
no_set_apart (none.Absent why.NotInThatYear) b = (refl, set_apart b)
no_set_apart (none.LastAbsent why.NotWithBothYears) b = (refl, set_apart b)
no_set_apart (none.LastAbsent why.NotOfItsCalendar) b = (refl, set_apart b)
no_set_apart (none.LastAbsent why.OffTheLine) b = (refl, set_apart b)
no_set_apart (none.LastAbsent why.Skipped) b = (refl, set_apart b)
no_set_apart (none.LastAbsent why.NotInThatYear) b = (refl, set_apart b)
no_set_apart none.OutOfOrder b = (refl, set_apart b)
no_set_apart none.OffTheLine b = (refl, set_apart b)
no_set_apart none.NoFeast b = (refl, set_apart b)

found_set_apart : (edition : ℕ) (ws : List AnyDate) (b : Option Weekday × Bool)
    (r : Result (List Run) AbsentMember)
    → AreApart (fields_of_found_set edition ws (beside_set b) r).remarks
found_set_apart edition ws b (Ok runs) = apart_those (beside_set b) (set_apart b)
found_set_apart edition ws b (Err absent) =
    apart_those ((true, remark.NoDay absent.reason) ∷ beside_set b) (no_set_apart absent.reason b)

no_place_apart : (reason : NoPlace) (b : Option Weekday × Bool)
    → AreApart (remarks_in ((true, remark.NoPlace reason) ∷ beside_set b))
no_place_apart no_place.Unknown b = (refl, set_apart b)
no_place_apart no_place.Ambiguous b = (refl, set_apart b)
no_place_apart no_place.NotUtf8 b = (refl, set_apart b)

members_apart : (p : Rules) (edition : ℕ) (t : Result TerritoryModel NoPlace) (ws : List AnyDate)
    (b : Option Weekday × Bool)
    → AreApart (fields_of_members p edition t ws (beside_set b)).remarks
members_apart p edition (Ok t) ws b = found_set_apart edition ws b (set_meant p t ws)
members_apart p edition (Err reason) ws b =
    apart_those ((true, remark.NoPlace reason) ∷ beside_set b) (no_place_apart reason b)

reading_apart : (p : Rules) (edition : ℕ) (t : Result TerritoryModel NoPlace)
    (named : Option (List ℕ)) (ws : List AnyDate) (is_read : Bool)
    (r : Result TextReading DateFault)
    → AreApart (fields_of_reading p edition t named ws is_read r).remarks
reading_apart p edition (Ok t) named ws is_read (Ok (written.Date w)) =
    either_apart p edition t (with_reckoning t w.reckoning) w (weekday_in named)
    (w, weekday_in named, is_by_other_calendar p t w, is_malformed_weekday named) (one_day w)
reading_apart p edition (Err reason) named ws is_read (Ok (written.Date w)) =
    let b : Beside = (w, weekday_in named, false, is_malformed_weekday named) in
    apart_those ((true, remark.NoPlace reason) ∷ beside b) (place_apart reason b)
reading_apart p edition t named ws is_read (Ok written.Set) =
    members_apart p edition t ws (weekday_in named, is_malformed_weekday named)
reading_apart p edition t named ws is_read (Ok written.NoDate) =
    fault_apart t (is_malformed_weekday named) faults.NoDate
reading_apart p edition t named ws true (Err fault) =
    fault_apart t (is_malformed_weekday named) fault
reading_apart p edition t named ws false (Err fault) = text_apart t (is_malformed_weekday named)

-- ---- of the rows of a table

row_apart : (s : TableBasis) (columns : Columns) (record_fields : List (List ℕ))
    → AreApart (letter_of s columns record_fields).remarks
row_apart s columns record_fields =
    reading_apart s.rules s.edition
    (territory_in s.territories s.places (place_in s.names columns record_fields))
    (option_map (λ n. get_or record_fields n []) columns.weekday)
    (members_in (date_in columns.date record_fields)) (is_text (date_in columns.date record_fields))
    (date_of_field s.order (date_in columns.date record_fields))

flaw_apart : (s : TableBasis) (columns : Columns) (record_fields : List (List ℕ))
    (flaw : Option RecordFlaw) → AreApart (remarks_of s columns record_fields flaw)
flaw_apart s columns record_fields None = row_apart s columns record_fields
flaw_apart s columns record_fields (Some flaw) = (refl, tt)

more_apart : (s : TableBasis) (columns : Columns) (width : ℕ) (flaw : Option RecordFlaw)
    (r : Result (List (List ℕ)) LettersFault) (more : List (List Remark)) → AreAllApart more
    → AreAllApart (remarks_by s columns width flaw r more)
more_apart s columns width flaw (Ok record_fields) more apart =
    (flaw_apart s columns record_fields (row_flaw width flaw record_fields), apart)
more_apart s columns width flaw (Err fault) more apart = apart

rows_apart : (s : TableBasis) (columns : Columns) (width : ℕ) (records : List PlacedRecord)
    → AreAllApart (rows_remarks s columns width records)
rows_apart s columns width [] = tt
rows_apart s columns width (r ∷ rest) =
    more_apart s columns width r.flaw r.fields (rows_remarks s columns width rest)
    (rows_apart s columns width rest)

header_apart : (s : TableBasis) (r : Result Columns LettersFault) (width : ℕ)
    (rest : List PlacedRecord) → AreAllApart (header_remarks s r width rest)
header_apart s (Ok columns) width rest = rows_apart s columns width rest
header_apart s (Err fault) width rest = tt

first_apart : (s : TableBasis) (line : ℕ) (r : Result (List (List ℕ)) LettersFault)
    (rest : List PlacedRecord) → AreAllApart (first_remarks s line r rest)
first_apart s line (Ok header) rest =
    header_apart s (columns_of s.names line (own_header s.names header)) (length header) rest
first_apart s line (Err fault) rest = tt

table_apart : (s : TableBasis) (records : List PlacedRecord) → AreAllApart (table_remarks s records)
table_apart s [] = tt
table_apart s (r ∷ rest) = first_apart s r.line r.fields rest

-- ---- the tally

-- the tally that comes of the rows, one after the other, is that of the table
pub tally_of_rows : (s : TableBasis) (input : Option (List ℕ)) (tally : TallyModel)
    → IfSome input (λ text. letters_tally s text ≡ tally)
    → IfSome input (λ text. IsTallyOf s text tally)
tally_of_rows s None tally is = tt
tally_of_rows s (Some text) tally is =
    subst (IsTally (letters_remarks s text)) is
    (rows_tallied [] (letters_remarks s text) no_rows
    (table_apart s (records_of s.keeps_going s.separator text)) none_tallied)
