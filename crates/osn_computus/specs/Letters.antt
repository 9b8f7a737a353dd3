-- The Sunday letters, by the third canon of Inter gravissimas (1582) and the calendar of the
-- canons, in which each day of the year has one of the letters A to G.
use Rattle.std.specs.Prelude.{◌≡◌, ℕ, zero, suc, ◌-◌, ◌==◌, ◌&&◌, nat_lt, nat_le, pos, codes}
use Rattle.std.specs.Prelude.{Bool, true, false, if◌then◌else◌, Option, None, List}
use Rattle.std.specs.List.{find}
use Rattle.std.specs.Option.{option_map, option_and_then}
use Rattle.std.specs.Ordering.{int_eq}
use Rattle.osn_days.specs.declared.date.Date.{Date}
use Rattle.osn_days.specs.declared.calendar.Calendar.{Calendar}
use Rattle.osn_days.specs.declared.calendar.Calendar.TheVariants.{Julian, Gregorian, Swedish}
use Rattle.osn_days.specs.Rules.{Rules}
use Rattle.osn_days.specs.Line.{line, weekday, IsDay}
use Rattle.osn_days.specs.Chain.{first_date, chain, date_of}
use Rattle.osn_computus.specs.declared.letter.Letter.{Letter}
use Rattle.osn_computus.specs.declared.letter.Letter.TheVariants.{A, B, C, D, E, F, G}
use Rattle.osn_computus.specs.declared.letters.Letters.{Letters}

abbrev pub letter_name : Letter → List ℕ
letter_name A = codes "A"
letter_name B = codes "B"
letter_name C = codes "C"
letter_name D = codes "D"
letter_name E = codes "E"
letter_name F = codes "F"
letter_name G = codes "G"

-- the places from A
abbrev pub letter_number : Letter → ℕ
letter_number A = 0
letter_number B = 1
letter_number C = 2
letter_number D = 3
letter_number E = 4
letter_number F = 5
letter_number G = 6

abbrev pub next_letter : Letter → Letter
next_letter A = B
next_letter B = C
next_letter C = D
next_letter D = E
next_letter E = F
next_letter F = G
next_letter G = A

abbrev pub is_new_year : Date → Bool
is_new_year d = (d.month == 1) && (d.day == 1)

abbrev pub is_leap_day : Date → Bool
is_leap_day d = (d.month == 2) && (d.day == 29)

-- each year the letters begin again with A, and 29 February is skipped
abbrev pub letter_after : Date → Letter → Letter
letter_after d l = if is_new_year d then A else (if is_leap_day d then l else next_letter l)

-- whether the letters are stated for the calendar: they are for the Julian and the Gregorian one
abbrev pub has_letters : Calendar → Bool
has_letters Julian = true
has_letters Gregorian = true
has_letters Swedish = false

-- the letter of the day this many days after 1 January
abbrev pub letter_in_january : ℕ → Letter
letter_in_january zero = A
letter_in_january (suc n) = next_letter (letter_in_january n)

-- the letter of day 1, which is a day of January
abbrev pub first_letter : Calendar → Letter
first_letter c = letter_in_january ((first_date c).day - 1)

-- the letter of the day this many days after day 1. On 29 February, which has none, it is that of
-- the day before
unfoldable pub letter_at : Calendar → ℕ → Letter
letter_at c zero = first_letter c
letter_at c (suc n) = letter_after (chain c (suc n)) (letter_at c n)

-- the letter of a day
abbrev pub letter_of : Calendar → ℕ → Letter
letter_of c d = letter_at c (d - 1)

-- a Sunday in the months of the year from one to another
abbrev pub is_sunday_of : Calendar → ℕ → ℕ → ℕ → ℕ → Bool
is_sunday_of c y low high d =
    let date = date_of c d in
    (weekday d == 0)
    && (int_eq date.year (pos y) && (nat_le low date.month && nat_le date.month high))

-- the letter of the first of those Sundays
unfoldable pub letter_of_sundays : Rules → Calendar → ℕ → ℕ → ℕ → Option Letter
letter_of_sundays p c y low high =
    option_map (letter_of c) (find (is_sunday_of c y low high) (line p))

-- the letter of the Sundays of January, and of the Sundays from March to December, in a calendar
-- that has letters
unfoldable pub letters_of : Rules → Calendar → ℕ → Option Letters
letters_of p c y =
    if has_letters c then
    option_and_then
    (λ january.
    option_map (λ march. record { january = january; march = march })
    (letter_of_sundays p c y 3 12))
    (letter_of_sundays p c y 1 1)
    else None

-- each Sunday of the year has the letter, save a 29 February
abbrev pub AreSundayLetters : Rules → Calendar → ℕ → Letters → Type 0
AreSundayLetters p c y letters =
    (d : ℕ) → IsDay p d → (date_of c d).year ≡ pos y → weekday d ≡ 0
    → is_leap_day (date_of c d) ≡ false
    → letter_of c d ≡ (if nat_lt (date_of c d).month 3 then letters.january else letters.march)
