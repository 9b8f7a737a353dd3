-- Why a table of places was not read, and how that is reported. This project's profile.
use Rattle.std.specs.Prelude.{◌≡◌, ◌≤◌, ℕ, true, if◌then◌else◌, List, ◌++◌, length, IfSome}
use Rattle.std.specs.Prelude.{Err, codes}
use Rattle.std.specs.Fmt.{decimal}
use Rattle.osn_folder.specs.declared.fault.OpenFailed.TheVariants.{Other}
use Rattle.osn_letters.specs.Faults.{EndsStream}
use Rattle.osn_letters.specs.Places.{places_in}
use Rattle.osn_letters.specs.PlacesFaults.{column_name, is_of_table, is_read_fault}
use Rattle.osn_letters.specs.declared.places_fault.PlacesColumn.{PlacesColumn}
use Rattle.osn_letters.specs.declared.places_fault.PlacesFault.{PlacesFault}
use Rattle.osn_letters.specs.declared.places_fault.PlacesFault.TheVariants as faults
use Rattle.osn_lines.specs.Streams.{Input, Output}
use Rattle.osn_page_commands.specs.Letters.{is_wide, is_workbook, wide_text, workbook_text}
use Rattle.osn_report.specs.Messages.{EndsBy, ReportsIfMade}
use Rattle.osn_report.specs.OpenFailure.{open_failure_line}
use Rattle.osn_lines.specs.Escape.{escaped_text}
use Rattle.osn_report.specs.declared.fault.CommandFault.TheVariants.{NoMemory}
use Rattle.osn_report.specs.declared.status.Status.{Status}
use Rattle.osn_report.specs.declared.status.Status.TheVariants as statuses

-- a table was not read, by this fault: its own, which is its first one, or one of the input, which
-- failed or gave no end
abbrev pub IsPlacesFault : Input → PlacesFault → Type 0
IsPlacesFault table fault =
    IfSome table.bytes (λ text. is_of_table fault ≡ true → places_in text ≡ Err fault)
    × EndsStream (is_read_fault fault) table.unread_before table.unread
    (IfSome table.bytes (λ text. 4294967295 ≤ length text))

-- the line on a line of the table of a path
abbrev pub places_line : List ℕ → ℕ → List ℕ → List ℕ
places_line path line text = codes "oldstyle: "
    ++ (escaped_text path ++ (codes " line " ++ (decimal line ++ (codes ": " ++ (text
    ++ codes "\n")))))

-- the line on a header that lacks a column and has these
abbrev pub columns_line : List ℕ → PlacesColumn → ℕ → List ℕ → List ℕ
columns_line path missing line found = codes "oldstyle: "
    ++ (escaped_text path
    ++ (codes " line "
    ++ (decimal line
    ++ (codes ": no column "
    ++ (column_name missing
    ++ (codes ": the columns are "
    ++ (escaped_text found ++ (codes ": name one " ++ (column_name missing ++ codes "\n")))))))))

-- the line on a header that lacks a column
abbrev pub lacks_line : List ℕ → PlacesColumn → ℕ → List ℕ → List ℕ
lacks_line path missing line found =
    if is_workbook found then places_line path line workbook_text
    else if is_wide found then places_line path line wide_text
    else columns_line path missing line found

-- the line on a record whose number of fields is not that of the header, with both numbers
abbrev pub fields_line : List ℕ → ℕ → ℕ → ℕ → List ℕ
fields_line path line fields width = codes "oldstyle: "
    ++ (escaped_text path
    ++ (codes " line "
    ++ (decimal line
    ++ (codes ": a different number of fields than the header: "
    ++ (decimal fields
    ++ (codes " instead of " ++ (decimal width ++ codes ": give each row as many\n")))))))

-- the line on a place that has two codes
abbrev pub codes_line : List ℕ → ℕ → List ℕ → List ℕ
codes_line path line place = codes "oldstyle: "
    ++ (escaped_text path
    ++ (codes " line "
    ++ (decimal line
    ++ (codes ": the place "
    ++ (escaped_text place ++ codes " has another code already: remove one of the two rows\n")))))

-- it was reported why the table of a path was not read
abbrev pub ReportsPlaces : List ℕ → Output → PlacesFault → Status → Type 0
ReportsPlaces path e faults.NoHeader status = ReportsIfMade e statuses.Refused
    (places_line path 1 (codes "no header: the first line names the columns place and code")) status
ReportsPlaces path e (faults.LacksColumn missing line found) status =
    ReportsIfMade e statuses.Refused (lacks_line path missing line found) status
ReportsPlaces path e (faults.TwoCodes line place) status =
    ReportsIfMade e statuses.Refused (codes_line path line place) status
ReportsPlaces path e (faults.BadRecord line fields width) status =
    ReportsIfMade e statuses.Refused (fields_line path line fields width) status
ReportsPlaces path e (faults.TooLong line) status = ReportsIfMade e statuses.Refused (places_line
    path line (codes "a record of more than 65536 bytes: look for a quote that is not closed"))
    status
ReportsPlaces path e (faults.OpenQuote line) status = ReportsIfMade e statuses.Refused (places_line
    path line (codes "a quote that opens in this record is never closed: close it")) status
ReportsPlaces path e (faults.TextAfterQuote line) status =
    ReportsIfMade e statuses.Refused (places_line
    path line (codes "text follows a closing quote: write each quote of a field twice")) status
ReportsPlaces path e (faults.NotUtf8 line) status = ReportsIfMade e statuses.Refused (places_line
    path line (codes "a place or a code is not UTF-8: save the table as UTF-8")) status
ReportsPlaces path e faults.ReadFault status =
    ReportsIfMade e statuses.ReadFault (open_failure_line path Other) status
ReportsPlaces path e faults.NoMemory status = EndsBy e NoMemory status
