-- The parts of a text, its numbers and its weekdays, whose letters may be capital or small. This
-- project's profile.
use Rattle.std.specs.Prelude.{ℕ, Bool, ◌&&◌, nat_le, ◌==◌, if◌then◌else◌, List, [], ◌∷◌, length}
use Rattle.std.specs.Prelude.{find, ◌++◌, codes}
use Rattle.std.specs.Prelude.{Option, Some, None, option_map}
use Rattle.std.specs.Fmt.{decimal}
use Rattle.std.specs.List.{range_with_len}
use Rattle.std.specs.Str.{all_ascii_digits, str_eq_ignore_ascii_case}
use Rattle.std.specs.Str.Parse.{digits_value}
use Rattle.osn_days.specs.declared.weekday.Weekday.{Weekday}
use Rattle.osn_days.specs.Month.{month_name}
use Rattle.osn_days.specs.Weekday.{weekday_name, weekday_numbered}
use Rattle.osn_written.specs.declared.written_date.MonthDay.{MonthDay}

-- a day of a month in words: 3 June
abbrev pub month_day_words : MonthDay → List ℕ
month_day_words d = decimal d.day ++ (codes " " ++ month_name d.month)

-- parts with one more byte at the beginning of the first
abbrev pub with_first : ℕ → List ℕ × List ℕ → List ℕ × List ℕ
with_first c parts = (c ∷ parts.0, parts.1)

-- the parts of a text before and after the first such byte, if it has one
abbrev pub parts_at : ℕ → List ℕ → Option (List ℕ × List ℕ)
parts_at c [] = None
parts_at c (b ∷ rest) =
    if b == c then Some ([], rest) else option_map (with_first b) (parts_at c rest)

-- a number: 1 to 9 digits and nothing else
abbrev pub number_of : List ℕ → Option ℕ
number_of part =
    if nat_le 1 (length part) && (nat_le (length part) 9 && all_ascii_digits part) then
    Some (digits_value 10 part)
    else None

-- the weekday has the name
abbrev pub has_name : List ℕ → Weekday → Bool
has_name name weekday = str_eq_ignore_ascii_case (weekday_name weekday) name

-- the weekday of a name
abbrev pub weekday_named : List ℕ → Option Weekday
weekday_named name = option_map weekday_numbered
    (find (λ n. has_name name (weekday_numbered n)) (range_with_len 0 7))
