-- What changes at the start of a period: how many dates are left out or come twice, and what part
-- of the reckoning is another than before. This project's profile.
use Rattle.std.specs.Prelude.{ℕ, ◌-◌, ◌==◌, nat_lt, if◌then◌else◌, List, [], ◌∷◌, ◌++◌, codes}
use Rattle.std.specs.Fmt.{decimal}

-- how many dates are left out
unfoldable pub left_out_words : ℕ → List ℕ
left_out_words dates =
    if dates == 1 then codes ": 1 date left out"
    else codes ": " ++ (decimal dates ++ codes " dates left out")

-- how many dates come twice, if any do
unfoldable pub twice_words : ℕ → List ℕ
twice_words dates =
    if dates == 0 then []
    else (if dates == 1 then codes ": 1 date comes twice"
    else codes ": " ++ (decimal dates ++ codes " dates come twice"))

-- A date that the calendar before has on a later day: those of the days up to it are left out. On
-- an earlier day: those of the days from it on come twice.
abbrev pub gap_words : List ℕ → ℕ → List ℕ
gap_words [] first = codes ": by the calendar before, no day has that date"
gap_words (same ∷ others) first =
    if nat_lt first same then left_out_words (same - first) else twice_words (first - same)

-- the line that a part of the reckoning is another from then on, with the words of both
unfoldable pub turned_line : List ℕ → List ℕ → List ℕ → List ℕ
turned_line part old new =
    part
    ++ (codes " changed: until then "
    ++ (old ++ (codes ", from then on " ++ (new ++ codes "\n"))))
