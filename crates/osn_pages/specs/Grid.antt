-- Days of a month in grids, in the form of the program `cal` of BSD and Debian. This project's
-- profile.
use Rattle.std.specs.Prelude.{ℕ, Bool, not, ◌==◌, if◌then◌else◌, ◌+◌, ◌-◌, ◌*◌, ◌/◌}
use Rattle.std.specs.Prelude.{List, [], ◌∷◌, ◌++◌, length, replicate, codes}
use Rattle.std.specs.Fmt.{decimal}
use Rattle.std.specs.List.{flat_map}
use Rattle.osn_days.specs.Line.{weekday}
use Rattle.osn_days.specs.Month.{month_name}
use Rattle.osn_territory.specs.declared.dating.DatedDay.{DatedDay}
use Rattle.osn_territory.specs.Dating.{years_text}

-- ---- days in pieces

-- a day more at the beginning of the first piece
abbrev pub in_first_piece : DatedDay → List (List DatedDay) → List (List DatedDay)
in_first_piece x [] = []
in_first_piece x (piece ∷ pieces) = (x ∷ piece) ∷ pieces

-- days cut into pieces, wherever a day does not go on from the day before it
abbrev pub pieces_of : (DatedDay → DatedDay → Bool) → List DatedDay → List (List DatedDay)
pieces_of goes_on [] = []
pieces_of goes_on (x ∷ []) = (x ∷ []) ∷ []
pieces_of goes_on (x ∷ y ∷ days) =
    if goes_on x y then in_first_piece x (pieces_of goes_on (y ∷ days))
    else (x ∷ []) ∷ pieces_of goes_on (y ∷ days)

-- the day is the next one on the line
abbrev pub is_next : DatedDay → DatedDay → Bool
is_next before after = after.day == before.day + 1

-- a week begins on Sunday
abbrev pub begins_week : DatedDay → Bool
begins_week x = weekday x.day == 0

-- the day is of the week of the day before it
abbrev pub is_in_week : DatedDay → DatedDay → Bool
is_in_week before after = not (begins_week after)

-- days cut into runs of days that follow one another
unfoldable pub runs_of : List DatedDay → List (List DatedDay)
runs_of = pieces_of is_next

-- a run of days cut into weeks
unfoldable pub weeks_of : List DatedDay → List (List DatedDay)
weeks_of = pieces_of is_in_week

-- ---- a grid

-- the month and year of a day: March 1731/2
unfoldable pub month_year : DatedDay → List ℕ
month_year x = month_name x.label.month ++ (codes " " ++ years_text x)

-- a title of ASCII, centred in the 20 characters of a grid as `cal` does. Half of the remaining
-- spaces, rounded down, are before it. A longer title has none before it.
unfoldable pub title_row : List ℕ → List ℕ
title_row title = replicate ((20 - length title) / 2) 32 ++ (title ++ codes "\n")

-- the title of a run of days: the month and year of its first day
abbrev pub title_line : List DatedDay → List ℕ
title_line [] = []
title_line (first ∷ days) = title_row (month_year first)

-- a number's digits, after as many spaces as bring them to two places
abbrev pub in_two_places : ℕ → List ℕ
in_two_places n = replicate (2 - length (decimal n)) 32 ++ decimal n

-- the day's number in its month
unfoldable pub cell : DatedDay → List ℕ
cell x = in_two_places x.label.day

-- the day's number in its month, with a space before it, after another cell
unfoldable pub next_cell : DatedDay → List ℕ
next_cell x = codes " " ++ cell x

-- a week: three spaces for each weekday before its first day, and the cells of its days
abbrev pub week_line : List DatedDay → List ℕ
week_line [] = []
week_line (first ∷ days) =
    replicate (3 * weekday first.day) 32
    ++ (cell first ++ (flat_map next_cell days ++ codes "\n"))

-- the weekdays, Sunday first
unfoldable pub weekdays_line : List ℕ
weekdays_line = codes "Su Mo Tu We Th Fr Sa\n"

-- a run of days: its title, the weekdays, and a line for each week
unfoldable pub grid : List DatedDay → List ℕ
grid run = title_line run ++ (weekdays_line ++ flat_map week_line (weeks_of run))

-- a grid for each run of days, or that there is no such month if there is no day
abbrev pub grids : List DatedDay → List ℕ
grids [] = codes "no such month\n"
grids (day ∷ days) = flat_map grid (runs_of (day ∷ days))
