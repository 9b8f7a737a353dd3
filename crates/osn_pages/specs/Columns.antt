-- Lines about a day, in columns: this project's profile. Each width is said here alone.
use Rattle.std.specs.Prelude.{ℕ, ◌-◌, List, ◌++◌, length, replicate, codes}
use Rattle.std.specs.Fmt.{char_count, decimal}
use Rattle.osn_days.specs.Line.{weekday}
use Rattle.osn_days.specs.Weekday.{weekday_name, weekday_numbered}

-- a text, and as many spaces as bring it to the width
abbrev pub left_in : ℕ → List ℕ → List ℕ
left_in width text = text ++ replicate (width - char_count text) 32

-- a number's digits, after as many spaces as bring them to the width
abbrev pub right_in : ℕ → ℕ → List ℕ
right_in width n = replicate (width - length (decimal n)) 32 ++ decimal n

abbrev pub name_column : List ℕ → List ℕ
name_column = left_in 13

abbrev pub weekday_column : ℕ → List ℕ
weekday_column d = left_in 9 (weekday_name (weekday_numbered (weekday d)))

abbrev pub day_column : ℕ → List ℕ
day_column = right_in 7

-- the name of a day, its weekday and its number, which its date follows
unfoldable pub day_columns : List ℕ → ℕ → List ℕ
day_columns name d =
    name_column name
    ++ (codes " " ++ (weekday_column d ++ (codes " " ++ (day_column d ++ codes " "))))

-- the line of a name that no day has, with a remark
unfoldable pub absent_line : List ℕ → List ℕ → List ℕ
absent_line name remark = name_column name ++ (codes " " ++ (remark ++ codes "\n"))
