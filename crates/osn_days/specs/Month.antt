-- The names of months.
use Rattle.std.specs.Prelude.{ℕ, Bool, ◌==◌, if◌then◌else◌, List, codes, Option, find}
use Rattle.std.specs.List.{range_with_len}
use Rattle.std.specs.Str.{str_eq_ignore_ascii_case}

-- the English name of a month
abbrev pub month_name : ℕ → List ℕ
month_name m =
    if m == 1 then codes "January"
    else (if m == 2 then codes "February"
    else (if m == 3 then codes "March"
    else (if m == 4 then codes "April"
    else (if m == 5 then codes "May"
    else (if m == 6 then codes "June"
    else (if m == 7 then codes "July"
    else (if m == 8 then codes "August"
    else (if m == 9 then codes "September"
    else (if m == 10 then codes "October"
    else (if m == 11 then codes "November"
    else codes "December"))))))))))

-- the month has the name, whose letters may be capital or small
abbrev pub has_name : List ℕ → ℕ → Bool
has_name name m = str_eq_ignore_ascii_case (month_name m) name

-- the month of a name, 1 to 12
abbrev pub month_named : List ℕ → Option ℕ
month_named name = find (has_name name) (range_with_len 1 12)
