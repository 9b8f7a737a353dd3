-- What the line of an edit says it changes, by the words of each thing. This project's profile.
use Rattle.std.specs.Prelude.{ℕ, ℤ, List, ◌++◌, codes}
use Rattle.std.specs.Fmt.{signed_decimal}

-- GB: new territory Great Britain: julian calendar, years from 25 March, julian rule
unfoldable pub territory_words : List ℕ → List ℕ → List ℕ → List ℕ
territory_words code name regime =
    code ++ (codes ": new territory " ++ (name ++ (codes ": " ++ regime)))

-- GB: from Thursday 14 September 1752 (day 639797): gregorian calendar, gregorian rule
unfoldable pub change_words : List ℕ → List ℕ → List ℕ → List ℕ
change_words code day regime =
    code ++ (codes ": from " ++ (day ++ (codes ": " ++ regime)))

-- GB: opening: years from 25 December
unfoldable pub opening_words : List ℕ → List ℕ → List ℕ
opening_words code regime = code ++ (codes ": opening: " ++ regime)

-- GB: no longer a change on Thursday 14 September 1752 (day 639797)
unfoldable pub drop_words : List ℕ → List ℕ → List ℕ
drop_words code day = code ++ (codes ": no longer a change on " ++ day)

-- SE: Easter of 1802 on Sunday 25 April 1802 (day 657916)
unfoldable pub easter_words : List ℕ → ℤ → List ℕ → List ℕ
easter_words code year day =
    code ++ (codes ": Easter of " ++ (signed_decimal year ++ (codes " on " ++ day)))

-- SE: no longer a listed Easter of 1802
unfoldable pub no_easter_words : List ℕ → ℤ → List ℕ
no_easter_words code year =
    code ++ (codes ": no longer a listed Easter of " ++ signed_decimal year)
