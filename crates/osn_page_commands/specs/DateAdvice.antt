-- What is said of a text that is almost a date: what is missing, too much, or in another order.
use Rattle.std.specs.Prelude.{ℕ, ◌==◌, Bool, true, false, ◌&&◌, if◌then◌else◌, codes, List, []}
use Rattle.std.specs.Prelude.{◌++◌, length, Option, Some, None, is_some, Result, Ok, Err}
use Rattle.std.specs.Char.{is_ascii_digit}
use Rattle.std.specs.List.{list_any}
use Rattle.std.specs.Result.{is_ok}
use Rattle.osn_grammar.specs.ReadDate.{written_date}
use Rattle.osn_grammar.specs.Reading.{read_date}
use Rattle.osn_grammar.specs.declared.text_reading.DateOrder.TheVariants.{Unknown, DayMonth}
use Rattle.osn_grammar.specs.declared.text_reading.DateOrder.TheVariants.{MonthDay}
use Rattle.osn_grammar.specs.declared.text_reading.TextReading.{TextReading}
use Rattle.osn_grammar.specs.declared.text_reading.TextReading.TheVariants as say
use Rattle.osn_lines.specs.Escape.{escaped_text}
use Rattle.osn_written.specs.WrittenDate.{month_day_words, number_of, parts_at}
use Rattle.osn_written.specs.declared.any_date.Extent.{Extent}
use Rattle.osn_written.specs.declared.any_date.Extent.TheVariants as extents
use Rattle.osn_written.specs.declared.any_date.PartialDate.TheVariants as partial
use Rattle.osn_written.specs.declared.written_date.DateFault.{DateFault}
use Rattle.osn_written.specs.declared.written_date.DateFault.TheVariants as faults
use Rattle.osn_written.specs.declared.written_date.MonthDay as days
use Rattle.osn_page_commands.specs.MonthWord.{month_in_date}
use Rattle.osn_page_commands.specs.Place.{first_or}

-- ---- the year is missing

-- the text with a year after it is a day
abbrev pub lacks_year : List ℕ → Bool
lacks_year text = is_ok (written_date (text ++ codes " 1752"))

-- ---- a time is behind the date

-- a text is a date, by some order of its numbers
abbrev pub is_dated : Result TextReading DateFault → Bool
is_dated (Ok read) = true
is_dated (Err faults.DayOrMonth) = true
is_dated (Err fault) = false

-- the first of these two parts of a text, if it is a date and a colon is in the second
abbrev pub dated_part : Option (List ℕ × List ℕ) → Option (List ℕ)
dated_part None = None
dated_part (Some parts) =
    if is_some (parts_at 58 parts.1) && is_dated (read_date Unknown parts.0) then Some parts.0
    else None

-- the date before a time: up to a space, or to the letter T
abbrev pub date_before_time : List ℕ → Option (List ℕ)
date_before_time text =
    first_or (dated_part (parts_at 32 text)) (dated_part (parts_at 84 text))

-- ---- no number is in the text

abbrev pub number_help : List ℕ → List ℕ
number_help text =
    if list_any is_ascii_digit text then []
    else codes "help: a date has at least a year, such as 1731\n"

-- ---- a text that is not a date

abbrev pub time_or_number : Option (List ℕ) → List ℕ → List ℕ
time_or_number None text = number_help text
time_or_number (Some date) text =
    codes "help: leave out the time: " ++ (escaped_text date ++ codes "\n")

abbrev pub form_help : List ℕ → List ℕ
form_help text =
    if lacks_year text then codes "help: if the year is missing, write it too, as in "
    ++ (escaped_text text ++ codes " 1752\n")
    else time_or_number (date_before_time text) text

-- ---- its numbers are in another order

-- the day and month of a date of one day
abbrev pub day_of_extent : Extent → Option days.MonthDay
day_of_extent (extents.On (partial.Day year month day)) =
    Some (record { month = month; day = day })
day_of_extent other = None

abbrev pub day_of_read : Result TextReading DateFault → Option days.MonthDay
day_of_read (Ok (say.Date date)) = day_of_extent date.extent
day_of_read read = None

-- the line on the day of a text by both orders
abbrev pub order_line : Option days.MonthDay → Option days.MonthDay → List ℕ
order_line None None = []
order_line (Some first) None = codes "help: with the day first it is "
    ++ (month_day_words first ++ codes ": write the month by its name\n")
order_line None (Some later) = codes "help: with the month first it is "
    ++ (month_day_words later ++ codes ": write the month by its name\n")
order_line (Some first) (Some later) =
    codes "help: with the day first it is "
    ++ (month_day_words first
    ++ (codes ", with the month first " ++ (month_day_words later ++ codes "\n")))

abbrev pub order_help : List ℕ → List ℕ
order_help text =
    order_line (day_of_read (read_date DayMonth text)) (day_of_read (read_date MonthDay text))

-- ---- a year or a month

-- a number with this count of digits
abbrev pub has_digits : List ℕ → ℕ → Bool
has_digits text digits = length text == digits && is_some (number_of text)

-- a year of four digits, a hyphen and two digits
abbrev pub is_short_range : Option (List ℕ × List ℕ) → Bool
is_short_range None = false
is_short_range (Some parts) = has_digits parts.0 4 && has_digits parts.1 2

-- the line on a text that has no month from 1 to 12
abbrev pub month_help : List ℕ → List ℕ
month_help text =
    if is_short_range (parts_at 45 text)
    then codes "help: in a range of years write the later year in full, such as 1640-1645\n"
    else order_help text

-- the line on a month in the place of a year
abbrev pub swapped_help : List ℕ → List ℕ
swapped_help text =
    if is_some (month_in_date text)
    then codes "help: write the year before the month " ++ (escaped_text text ++ codes "\n") else []

-- the line on two years with a slash between, or on a month, in the place of one year
abbrev pub year_help : Option (List ℕ × List ℕ) → List ℕ → List ℕ
year_help None text = swapped_help text
year_help (Some parts) text =
    if is_some (number_of parts.0)
    then codes "help: write the first of the two years alone: " ++ (parts.0 ++ codes "\n") else []

-- the line on a text that says that there is no date, if it is empty
abbrev pub empty_help : List ℕ → List ℕ
empty_help text =
    if length text == 0 then codes "help: the argument of the date is empty\n" else []
