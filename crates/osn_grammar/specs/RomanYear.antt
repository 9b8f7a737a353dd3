-- A year in Roman numerals, such as MDCCXXXI. This project's profile.
use Rattle.std.specs.Prelude.{ℕ, Bool, false, not, ◌&&◌, ◌||◌, nat_le, nat_lt, ◌==◌, ◌+◌, ◌-◌}
use Rattle.std.specs.Prelude.{if◌then◌else◌, List, [], ◌∷◌, length, Option, Some, None}

-- the value of a letter: i and j, v, x, l, c, d, m
abbrev pub letter_value : ℕ → ℕ
letter_value b =
    if b == 105 || b == 106 then 1
    else (if b == 118 then 5
    else (if b == 120 then 10
    else (if b == 108 then 50
    else (if b == 99 then 100
    else (if b == 100 then 500
    else (if b == 109 then 1000
    else 0))))))

-- i is before v and x, x before l and c, and c before d and m
abbrev pub is_less_before : ℕ → ℕ → Bool
is_less_before letter next =
    if letter == 1 then next == 5 || next == 10
    else (if letter == 10 then next == 50 || next == 100
    else (if letter == 100 then next == 500 || next == 1000
    else false))

-- a letter is added to those after it, or subtracted if it is less than the next one. A numeral
-- ends at 5000
abbrev pub with_letter : ℕ → ℕ → ℕ → Option ℕ
with_letter letter next rest =
    if letter == 0 || (nat_lt 1000 letter || nat_lt 4000 rest) then None
    else (if nat_le next letter then Some (rest + letter)
    else (if is_less_before letter next && nat_le letter rest then Some (rest - letter)
    else None))

abbrev pub first_value : List ℕ → ℕ
first_value [] = 0
first_value (c ∷ rest) = letter_value c

abbrev pub sum_with : ℕ → List ℕ → Option ℕ → Option ℕ
sum_with c rest None = None
sum_with c rest (Some n) = with_letter (letter_value c) (first_value rest) n

-- the value of a numeral
abbrev pub roman_value : List ℕ → Option ℕ
roman_value [] = Some 0
roman_value (c ∷ rest) = sum_with c rest (roman_value rest)

abbrev pub year_within : Option ℕ → Option ℕ
year_within None = None
year_within (Some n) = if nat_lt 1400 n && nat_lt n 2100 then Some n else None

-- a year has three letters or more, begins with m, and is 1401 to 2099: MD and MM are other words,
-- too
abbrev pub roman_year : List ℕ → Option ℕ
roman_year word =
    if nat_lt (length word) 3 || not (first_value word == 1000) then None
    else year_within (roman_value word)
