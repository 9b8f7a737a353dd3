-- What a command has written of a table of letters when it ends.
use Rattle.std.specs.Prelude.{◌≡◌, ◌==◌, ◌⊎◌, ◌≤◌, ◌++◌, ◌&&◌, ℕ, Bool, true, false}
use Rattle.std.specs.Prelude.{if◌then◌else◌, nat_eq}
use Rattle.std.specs.Prelude.{List, [], ◌∷◌, length, codes}
use Rattle.std.specs.Prelude.{Option, Some, None, IfSome, option_map, unwrap_or}
use Rattle.std.specs.Option.{MatchOption}
use Rattle.std.specs.Fmt.{decimal}
use Rattle.std.specs.List.{list_any, starts_with}
use Rattle.osn_days.specs.Rules.{newest_rules}
use Rattle.osn_grammar.specs.declared.text_reading.DateOrder.{DateOrder}
use Rattle.osn_register.specs.declared.limits.Limits.{Limits}
use Rattle.osn_core.specs.Sequential.{ObjectState}
use Rattle.osn_core.specs.Edition.{EditionModel}
use Rattle.osn_page_commands.specs.Editions.{OnEdition}
use Rattle.osn_page_commands.specs.PlaceOfAll.{place_fault, place_fault_lines}
use Rattle.osn_lines.specs.Streams.{Input, Output}
use Rattle.osn_files.specs.declared.fault.FileFault.{FileFault}
use Rattle.osn_files.specs.declared.fault.FileFault.TheVariants as file_faults
use Rattle.osn_letters.specs.AddedColumns.{added_name}
use Rattle.osn_letters.specs.Columns.{DateTexts, OneText, PartTexts, NameTexts, names_of}
use Rattle.osn_letters.specs.PlaceEntries.{PlaceEntry}
use Rattle.osn_letters.specs.Faults.{EndsStream, is_read_fault, is_write_fault}
use Rattle.osn_letters.specs.Table.{TableBasis, Written, letters_written, IsWhole}
use Rattle.osn_letters.specs.Table.{EndsEarly, EndsRead, IsLong}
use Rattle.osn_letters.specs.RowRemarks.{IsTallyOf}
use Rattle.osn_letters.specs.Tally.{TallyModel, has_remarks, tally_text}
use Rattle.osn_letters.specs.declared.added_column.AddedColumn.{AddedColumn}
use Rattle.osn_letters.specs.declared.fault.Column.{Column}
use Rattle.osn_letters.specs.declared.fault.Column.TheVariants as column
use Rattle.osn_letters.specs.declared.fault.LettersFault.{LettersFault}
use Rattle.osn_letters.specs.declared.fault.LettersFault.TheVariants as ends
use Rattle.osn_letters.specs.declared.separator.Separator.{Separator}
use Rattle.osn_letters.specs.declared.settings.TableSettings.{TableSettings}
use Rattle.osn_page_commands.specs.declared.letters.TableRules.{TableRules}
use Rattle.osn_report.specs.Journal.{MakesObject, MakesNoObject}
use Rattle.osn_lines.specs.Escape.{escaped_text}
use Rattle.osn_report.specs.Printing.{EndsUnwritten, PrintsNoneAt}
use Rattle.osn_report.specs.Messages.{EndsBy, Reports, ReportsIfMade, ReportsNothing}
use Rattle.osn_report.specs.declared.fault.CommandFault.TheVariants.{File, NoMemory}
use Rattle.osn_report.specs.declared.status.Status.{Status}
use Rattle.osn_report.specs.declared.status.Status.TheVariants as statuses

-- how a table is read: the names of its columns, what separates its fields, if that is named, the
-- order of a date's three numbers, the entries of places, and whether the table goes on after a
-- record that has a flaw
pub record SettingsModel : Type 0 where
  pub names : NameTexts
  pub separator : Option Separator
  pub order : DateOrder
  pub places : List PlaceEntry
  pub keeps_going : Bool

-- what settings say of that
abbrev pub settings_model : TableSettings → SettingsModel
settings_model settings = record {
  names = names_of settings.names;
  separator = settings.separator;
  order = settings.order;
  places = unwrap_or (option_map (λ places. places.now) settings.places) [];
  keeps_going = settings.keeps_going;
}

-- ---- what is printed about a table that ends early

-- the line on a record
abbrev pub record_line : ℕ → List ℕ → List ℕ
record_line line text =
    codes "oldstyle: letters line " ++ (decimal line ++ (codes ": " ++ (text ++ codes "\n")))

-- the line on a record whose number of fields is not that of the header, with both numbers
abbrev pub fields_line : ℕ → ℕ → ℕ → List ℕ
fields_line line fields width = codes "oldstyle: letters line "
    ++ (decimal line
    ++ (codes ": a different number of fields than the header: "
    ++ (decimal fields ++ (codes " instead of " ++ (decimal width ++ codes "\n")))))

-- the name by which a column of the date was looked for, if one was
abbrev pub date_name_of : DateTexts → Column → List ℕ
date_name_of (OneText name) column.Date = name
date_name_of (PartTexts year month day) column.Year = year
date_name_of (PartTexts year month day) column.Month = unwrap_or month []
date_name_of (PartTexts year month day) column.Day = unwrap_or day []
date_name_of dates other = []

-- the name by which a column was looked for, and the option that names it
abbrev pub name_of : NameTexts → Column → List ℕ
name_of names column.Place = unwrap_or names.place []
name_of names column.Weekday = names.weekday
name_of names other = date_name_of names.date other

abbrev pub option_of : Column → List ℕ
option_of column.Place = codes "--place, or the place of all rows with --in"
option_of column.Date = codes "--date"
option_of column.Year = codes "--year"
option_of column.Month = codes "--month"
option_of column.Day = codes "--day"
option_of column.Weekday = codes "--weekday"

-- a header has a zero byte, as in UTF-16
abbrev pub is_wide : List ℕ → Bool
is_wide = list_any (λ byte. byte == 0)

-- the text on a table in UTF-16
abbrev pub wide_text : List ℕ
wide_text = codes "the table is in UTF-16: save it as CSV in UTF-8"

-- a workbook of a spreadsheet is a zip archive, which begins with this mark
abbrev pub is_workbook : List ℕ → Bool
is_workbook header = starts_with nat_eq header (0x50 ∷ 0x4B ∷ 3 ∷ 4 ∷ [])

abbrev pub workbook_text : List ℕ
workbook_text = codes "the table is a workbook (.xlsx, .ods): save it as CSV in UTF-8"

-- the line on the column that may be meant, if one is near
abbrev pub nearest_line : Option (List ℕ) → List ℕ
nearest_line None = []
nearest_line (Some name) = codes "help: did you mean " ++ (escaped_text name ++ codes "?\n")

-- the line on a header that lacks a column and has these
abbrev pub columns_line : NameTexts → Column → ℕ → List ℕ → List ℕ
columns_line names missing line found = codes "oldstyle: letters line "
    ++ (decimal line
    ++ (codes ": no column "
    ++ (escaped_text (name_of names missing)
    ++ (codes ": the columns are "
    ++ (escaped_text found ++ (codes ": name yours with " ++ (option_of missing ++ codes "\n")))))))

-- the lines on a header that lacks a column, and has one that may be meant or not
abbrev pub lacks_lines : NameTexts → Column → ℕ → List ℕ → Option (List ℕ) → List ℕ
lacks_lines names missing line found nearest =
    if is_workbook found then record_line line workbook_text
    else if is_wide found then record_line line wide_text
    else columns_line names missing line found ++ nearest_line nearest

-- the line on a column of a header
abbrev pub column_line : ℕ → List ℕ → List ℕ → List ℕ
column_line line name text = codes "oldstyle: letters line "
    ++ (decimal line
    ++ (codes ": the column " ++ (name ++ (codes " " ++ (text ++ codes "\n")))))

-- the line on a header that has one of the added columns already
abbrev pub has_line : ℕ → AddedColumn → List ℕ
has_line line added =
    column_line line (added_name added) (codes
    "is already there: remove it, rename it, or replace all twelve with --replace")

-- it was reported why the table ended early; nothing is reported about an output that failed
abbrev pub ReportsTable : NameTexts → Output → LettersFault → Status → Type 0
ReportsTable names e ends.NoHeader status = ReportsIfMade e statuses.Refused
    (record_line 1 (codes "no header: the first line has the names of the columns")) status
ReportsTable names e (ends.LacksColumn missing line found nearest) status =
    ReportsIfMade e statuses.Refused (lacks_lines names missing line found nearest) status
ReportsTable names e (ends.HasColumn line added) status =
    ReportsIfMade e statuses.Refused (has_line line added) status
ReportsTable names e (ends.BadRecord line fields width) status =
    ReportsIfMade e statuses.Refused (fields_line line fields width) status
ReportsTable names e (ends.TooLong line) status = ReportsIfMade e statuses.Refused
    (record_line line (codes "a record of more than 65536 bytes")) status
ReportsTable names e (ends.OpenQuote line) status = ReportsIfMade e statuses.Refused
    (record_line line (codes "a quote that opens in this record is never closed")) status
ReportsTable names e (ends.TextAfterQuote line) status = ReportsIfMade e statuses.Refused
    (record_line line (codes "text follows a closing quote")) status
ReportsTable names e ends.ReadFault status = Reports e (File file_faults.ReadFault) status
ReportsTable names e ends.WriteFault status = EndsUnwritten e status
ReportsTable names e ends.NoMemory status = EndsBy e NoMemory status

-- ---- what was written

-- what a table is made by, of an edition
abbrev pub basis_of : EditionModel → SettingsModel → TableBasis
basis_of s settings = record {
  rules = newest_rules;
  territories = s.territories;
  edition = s.number;
  names = settings.names;
  separator = settings.separator;
  order = settings.order;
  places = settings.places;
  keeps_going = settings.keeps_going;
}

-- the table that is written of a text
abbrev pub table_of : EditionModel → SettingsModel → List ℕ → Written
table_of s settings = letters_written (basis_of s settings)

-- a beginning of the table was written by the time of this end, and all that comes before a record
-- that ended it
abbrev pub EndsTable : (List ℕ → Written) → Input → Output → LettersFault → Type 0
EndsTable table i o ended = IfSome i.bytes (λ text. EndsEarly o.old o.new (table text) ended)

-- if a read fault says so, the input failed or gave no end, and all was written of what was read.
-- If a write fault says so, the output failed, or the table may take more writes than are made
abbrev pub IsReason : (List ℕ → Written) → Input → Output → LettersFault → Type 0
IsReason table i o ended =
    EndsStream (is_read_fault ended) i.unread_before i.unread
    (IfSome i.bytes (λ text. 4294967295 ≤ length text))
    × (is_read_fault ended ≡ true → EndsRead i.bytes i.rest o.old o.new table)
    × EndsStream (is_write_fault ended) o.unwritten_before o.unwritten
    (IfSome i.bytes (λ text. IsLong (table text)))

-- the status if all was written: a remark is a refusal, if that is asked for
abbrev pub status_by : Bool → Bool → Status
status_by is_strict has_remarks =
    if is_strict && has_remarks then statuses.Refused else statuses.Done

-- this text was written to standard error if it was asked for, or else nothing; and the status is
-- this one
abbrev pub ReportsIfSummary : Bool → List ℕ → Output → Status → Status → Type 0
ReportsIfSummary false text e given status = (status ≡ given) × ReportsNothing e
ReportsIfSummary true text e given status = ReportsIfMade e given text status

-- a table with this tally was written whole, and the tally was reported if that is asked for. The
-- status says whether a row has a remark, if that is asked for
abbrev pub ReportsEnd : TableRules → TallyModel → Output → Status → Type 0
ReportsEnd rules tally e status =
    ReportsIfSummary rules.summary (tally_text (codes "oldstyle: letters: ") tally) e
    (status_by rules.strict (has_remarks tally)) status

-- all was written, and the end reported
abbrev pub EndsWhole : EditionModel → SettingsModel → TableRules → Input → Output → Output → Status
    → Type 0
EndsWhole s settings rules i o e status =
    (tally : TallyModel) × ReportsEnd rules tally e status
    × IfSome i.bytes (λ text. IsWhole o.old o.new (table_of s settings text))
    × IfSome i.bytes (λ text. IsTallyOf (basis_of s settings) text tally)

-- what was written and reported, by an edition: the table whole; or a part of it, and why it ended
-- there
abbrev pub WritesTable : EditionModel → SettingsModel → TableRules → Input → Output → Output
    → Status → Type 0
WritesTable s settings rules i o e status =
    EndsWhole s settings rules i o e status
    ⊎ ((ended : LettersFault) × ReportsTable settings.names e ended status
    × EndsTable (table_of s settings) i o ended × IsReason (table_of s settings) i o ended)

-- what was written and reported, by an edition of the journal of a path: the place of all rows has
-- no territory, which was reported, and nothing was written; or else that. Memory may run out
-- before a place of all rows is known, which was reported too
abbrev pub WritesLetters : List ℕ → EditionModel → SettingsModel → TableRules → Input → Output
    → Output → Status → Type 0
WritesLetters path s settings rules i o e status =
    ((o.new ≡ o.old) × EndsBy e NoMemory status)
    ⊎ MatchOption (place_fault s.territories settings.places settings.names)
    (WritesTable s settings rules i o e status)
    (λ reason. (o.new ≡ o.old) × ReportsIfMade e statuses.Refused
    (place_fault_lines path settings.names.place_of_all reason s.territories) status)

-- how the command ends: the journal of a path is refused, and nothing was written; or it makes an
-- object, and the letters were written by its edition that the rules ask for
abbrev pub PrintsLetters : Limits → List ℕ → Input → SettingsModel → TableRules → Input → Output
    → Output → Status → Type 0
PrintsLetters limits path journal settings rules i o e status =
    ((fault : FileFault) × MakesNoObject limits journal fault
    × PrintsNoneAt path (File fault) o e status)
    ⊎ ((s : ObjectState) × MakesObject limits journal.bytes s
    × OnEdition rules.edition s
    (λ edition. WritesLetters path edition settings rules i o e status) o e status)
