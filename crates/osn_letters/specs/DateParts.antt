-- The text of a date whose year, month and day have columns of their own. This project's profile.
use Rattle.std.specs.Prelude.{ℕ, Bool, not, ◌&&◌, ◌==◌, if◌then◌else◌}
use Rattle.std.specs.Prelude.{List, [], ◌++◌, length, get_or}
use Rattle.std.specs.Prelude.{Option, Some, None, codes}
use Rattle.std.specs.Char.{is_ascii_digit}
use Rattle.std.specs.List.{list_all}
use Rattle.osn_letters.specs.declared.columns.DateColumns.{DateColumns}
use Rattle.osn_letters.specs.declared.columns.DateColumns.TheVariants.{Whole, Apart}
use Rattle.osn_letters.specs.RowFields.{trimmed}

-- a month is written in digits only
abbrev pub is_in_digits : List ℕ → Bool
is_in_digits month = not (length month == 0) && list_all is_ascii_digit month

-- a month or a day that is one digit has a zero before it
abbrev pub two_digits : List ℕ → List ℕ
two_digits digits =
    if length digits == 1 && list_all is_ascii_digit digits then codes "0" ++ digits else digits

-- a month or a day after a hyphen, unless it is empty
abbrev pub after_hyphen : List ℕ → List ℕ
after_hyphen digits = if length digits == 0 then [] else codes "-" ++ two_digits digits

-- a day or a month before a blank, unless it is empty
abbrev pub before_blank : List ℕ → List ℕ
before_blank word = if length word == 0 then [] else word ++ codes " "

-- a year, a month and a day, of which each may be empty: 1731/32-02-11 if the month is written in
-- digits, otherwise 11 February 1731/32
abbrev pub date_of_parts : List ℕ → List ℕ → List ℕ → List ℕ
date_of_parts year month day =
    if is_in_digits month then year ++ (after_hyphen month ++ after_hyphen day)
    else before_blank day ++ (before_blank month ++ year)

-- the field of a column without the white space around it. A column that is not named has an empty
-- one
abbrev pub part_in : List (List ℕ) → Option ℕ → List ℕ
part_in fields None = []
part_in fields (Some index) = trimmed (get_or fields index [])

-- the text of a row's date
abbrev pub date_in : DateColumns → List (List ℕ) → List ℕ
date_in (Whole index) fields = get_or fields index []
date_in (Apart year month day) fields =
    date_of_parts (part_in fields (Some year)) (part_in fields month) (part_in fields day)
