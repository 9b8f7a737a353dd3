-- The columns of a header that are read: this project's profile.
use Rattle.std.specs.Prelude.{ℕ, Bool, true, false, ◌&&◌, if◌then◌else◌, List, [], ◌∷◌}
use Rattle.std.specs.Prelude.{◌++◌, length, get_or, Option, Some, None, option_map, is_none}
use Rattle.std.specs.Prelude.{◌-◌, is_some, ok_or, Result, Ok, Err, codes, take}
use Rattle.std.specs.List.{find, flat_map, list_all, range_with_len}
use Rattle.std.specs.Option.{option_map_or, option_or}
use Rattle.std.specs.Str.{bytes_eq, str_eq_ignore_ascii_case}
use Rattle.std.specs.Str.Lossy.{utf8_lossy}
use Rattle.osn_letters.specs.declared.added_column.AddedColumn.{AddedColumn}
use Rattle.osn_letters.specs.declared.columns.ColumnNames.{ColumnNames}
use Rattle.osn_letters.specs.declared.columns.Columns.{Columns}
use Rattle.osn_letters.specs.declared.columns.DateColumns.{DateColumns}
use Rattle.osn_letters.specs.declared.columns.DateColumns.TheVariants.{Whole, Apart}
use Rattle.osn_letters.specs.declared.columns.DateNames.{DateNames}
use Rattle.osn_letters.specs.declared.columns.DateNames.TheVariants as names
use Rattle.osn_letters.specs.declared.columns.WeekdayName.{WeekdayName}
use Rattle.osn_letters.specs.declared.columns.WeekdayName.TheVariants.{Required, Optional}
use Rattle.osn_letters.specs.declared.fault.Column.{Column}
use Rattle.osn_letters.specs.declared.fault.Column.TheVariants as column
use Rattle.osn_letters.specs.declared.fault.LettersFault.{LettersFault}
use Rattle.osn_letters.specs.declared.fault.LettersFault.TheVariants.{LacksColumn, HasColumn}
use Rattle.osn_letters.specs.AddedColumns.{added_columns, added_name}
use Rattle.osn_letters.specs.NearColumn.{nearest_column}
use Rattle.osn_letters.specs.RowFields.{trimmed}
use Rattle.osn_grammar.specs.Simple.{◌>>=◌}

-- the name of the column of the weekdays, and whether it has to be there
abbrev pub weekday_name : WeekdayName → List ℕ
weekday_name (Required name) = name.now
weekday_name (Optional name) = name.now

abbrev pub is_required : WeekdayName → Bool
is_required (Required name) = true
is_required (Optional name) = false

-- the names of the columns that say the date: of one that has it all, or of its year, and perhaps
-- of its month and of its day
pub data DateTexts : Type 0 where
  OneText : List ℕ → DateTexts
  PartTexts : List ℕ → Option (List ℕ) → Option (List ℕ) → DateTexts

abbrev pub dates_of : DateNames → DateTexts
dates_of (names.Whole name) = OneText name.now
dates_of (names.Apart year month day) =
    PartTexts year.now (option_map (λ name. name.now) month) (option_map (λ name. name.now) day)

-- the names of the columns that are read. If no column has places, all rows have one place. Added
-- columns that the table has already may be replaced
pub record NameTexts : Type 0 where
  pub place : Option (List ℕ)
  pub place_of_all : List ℕ
  pub date : DateTexts
  pub weekday : List ℕ
  pub needs_weekday : Bool
  pub replaces : Bool

abbrev pub names_of : ColumnNames → NameTexts
names_of n = record {
  place = option_map (λ name. name.now) n.place;
  place_of_all = n.place_of_all.now;
  date = dates_of n.date;
  weekday = weekday_name n.weekday;
  needs_weekday = is_required n.weekday;
  replaces = n.replaces;
}

-- the field of the index is the name
abbrev pub is_at : List ℕ → List (List ℕ) → ℕ → Bool
is_at name fields index = bytes_eq (get_or fields index []) name

-- the index of the first field that equals the name
abbrev pub index_of : List ℕ → List (List ℕ) → Option ℕ
index_of name fields = find (is_at name fields) (range_with_len 0 (length fields))

-- the field of the index is the name, in capital or small letters, and with white space around it
-- or not
abbrev pub is_like : List ℕ → List (List ℕ) → ℕ → Bool
is_like name fields index = str_eq_ignore_ascii_case (trimmed (get_or fields index [])) name

-- the index of the first such field
abbrev pub index_like : List ℕ → List (List ℕ) → Option ℕ
index_like name fields = find (is_like name fields) (range_with_len 0 (length fields))

-- the index of the column of a name: the first field that equals it, or else the first one like it
abbrev pub column_named : List ℕ → List (List ℕ) → Option ℕ
column_named name fields = option_or (index_of name fields) (index_like name fields)

-- the names of a header, with a comma and a space between two
abbrev pub after_comma : List ℕ → List ℕ
after_comma name = codes ", " ++ name

abbrev pub names_text : List (List ℕ) → List ℕ
names_text [] = []
names_text (name ∷ names) = name ++ flat_map after_comma names

-- a header on that line lacks a column of that name
abbrev pub lacks : ℕ → List (List ℕ) → Column → List ℕ → LettersFault
lacks line header column name =
    LacksColumn column line (utf8_lossy (names_text header)) (nearest_column name header)

-- the index of a column in a header on that line, which must have it
abbrev pub column_in : ℕ → List (List ℕ) → Column → List ℕ → Result ℕ LettersFault
column_in line header column name =
    ok_or (column_named name header) (lacks line header column name)

-- the index of a column that may not be named, in a header on that line
abbrev pub part_column_in : ℕ → List (List ℕ) → Column → Option (List ℕ)
    → Result (Option ℕ) LettersFault
part_column_in line header column None = Ok None
part_column_in line header column (Some name) =
    column_in line header column name >>= λ index. Ok (Some index)

-- the columns of the date
abbrev pub date_columns_in : ℕ → List (List ℕ) → DateTexts → Result DateColumns LettersFault
date_columns_in line header (OneText name) =
    column_in line header column.Date name >>= λ index. Ok (Whole index)
date_columns_in line header (PartTexts year month day) =
    column_in line header column.Year year
    >>= λ year. part_column_in line header column.Month month
    >>= λ month. part_column_in line header column.Day day
    >>= λ day. Ok (Apart year month day)

-- the index of the column of the weekdays, which must be there if it is needed
abbrev pub weekday_at : ℕ → List (List ℕ) → Bool → List ℕ → Option ℕ
    → Result (Option ℕ) LettersFault
weekday_at line header needs_weekday name index =
    if needs_weekday && is_none index then Err (lacks line header column.Weekday name)
    else Ok index

-- the columns of these names in a header on that line
abbrev pub columns_at : NameTexts → ℕ → List (List ℕ) → Result Columns LettersFault
columns_at names line header =
    part_column_in line header column.Place names.place
    >>= λ place. date_columns_in line header names.date
    >>= λ date. weekday_at line header names.needs_weekday names.weekday
    (column_named names.weekday header)
    >>= λ weekday. Ok (record {
      place = place;
      date = date;
      weekday = weekday;
      own = length header;
    })

-- the place of a record: its field in the column of places, or else that of all rows
abbrev pub place_in : NameTexts → Columns → List (List ℕ) → List ℕ
place_in names columns fields =
    option_map_or (λ index. get_or fields index []) columns.place names.place_of_all

-- a header has a column of that name
abbrev pub has_column : List (List ℕ) → AddedColumn → Bool
has_column header column = is_some (index_of (added_name column) header)

-- a header with all added columns has the others before them: if these are replaced, the last
-- twelve fields are not its own
abbrev pub own_width : Bool → List (List ℕ) → ℕ
own_width replaces header =
    if replaces && list_all (has_column header) added_columns then length header - 12
    else length header

-- the fields of a header that are not replaced
abbrev pub own_header : NameTexts → List (List ℕ) → List (List ℕ)
own_header names header = take (own_width names.replaces header) header

-- the columns, unless the header on that line has one of those that are added
abbrev pub columns_without : ℕ → Option AddedColumn → Result Columns LettersFault
    → Result Columns LettersFault
columns_without line None columns = columns
columns_without line (Some column) columns = Err (HasColumn line column)

-- the columns of these names in a header on that line, unless it has one of those that are added
abbrev pub columns_of : NameTexts → ℕ → List (List ℕ) → Result Columns LettersFault
columns_of names line header =
    columns_without line (find (has_column header) added_columns) (columns_at names line header)
