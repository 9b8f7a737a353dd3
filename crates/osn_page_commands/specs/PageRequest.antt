-- What the words of a command line ask for, or which word is wrong.
use Rattle.std.specs.Prelude.{ℕ, pos, Bool, true, false, nat_le, if◌then◌else◌, codes, List}
use Rattle.std.specs.Prelude.{[], ◌∷◌, Option, Some, None, Result, Ok, Err}
use Rattle.std.specs.Option.{ok_or}
use Rattle.std.specs.Str.{bytes_eq}
use Rattle.osn_days.specs.CalendarWords.{calendar_named}
use Rattle.osn_days.specs.Rules.{newest_rules}
use Rattle.osn_days.specs.Weekday.{weekday_name}
use Rattle.osn_days.specs.declared.calendar.Calendar.{Calendar}
use Rattle.osn_days.specs.declared.calendar.Calendar.TheVariants.{Gregorian}
use Rattle.osn_days.specs.declared.weekday.Weekday.{Weekday}
use Rattle.osn_grammar.specs.declared.text_reading.TextReading.{TextReading}
use Rattle.osn_grammar.specs.declared.text_reading.TextReading.TheVariants as say
use Rattle.osn_written.specs.declared.any_date.AnyDate.{AnyDate}
use Rattle.osn_pages.specs.Conversion.{days_of_written}
use Rattle.osn_pages.specs.declared.page.Page.{Page}
use Rattle.osn_pages.specs.declared.page.Page.TheVariants as pages
use Rattle.osn_grammar.specs.ReadDate.{written_date}
use Rattle.osn_grammar.specs.Reading.{read_date}
use Rattle.osn_register.specs.Plain.{is_off_years}
use Rattle.osn_written.specs.WrittenDate.{number_of, weekday_named}
use Rattle.osn_written.specs.declared.written_date.DateFault.{DateFault}
use Rattle.osn_written.specs.declared.written_date.DateFault.TheVariants as faults
use Rattle.osn_written.specs.declared.written_date.WrittenDate.{WrittenDate}
use Rattle.osn_invocation.specs.Invocation.{PageRequestModel, almanac_words, reading_words}
use Rattle.osn_invocation.specs.Invocation.{day_words, month_words, year_words, territory_words}
use Rattle.osn_page_commands.specs.DayNumber.{day_by_number, day_by_julian, is_julian_word}
use Rattle.osn_page_commands.specs.MonthWord.{month_of_word, month_takes_memory}
use Rattle.osn_page_commands.specs.Order.{order_of_word}
use Rattle.osn_page_commands.specs.declared.page_request.Form.{Form}
use Rattle.osn_page_commands.specs.declared.page_request.Topic.{Topic}
use Rattle.osn_page_commands.specs.declared.page_request.Topic.TheVariants.{Almanac, Year}
use Rattle.osn_page_commands.specs.declared.page_request.Topic.TheVariants.{Territory, Set, Dates}
use Rattle.osn_page_commands.specs.declared.page_request.Topic.TheVariants.{Territories}
use Rattle.osn_report.specs.declared.misuse.Misuse.{Misuse}
use Rattle.osn_report.specs.declared.misuse.Misuse.TheVariants as misuses

-- one word after another, if the first one is right
infixl 10 ◌>>=◌
abbrev pub ◌>>=◌ : {A B : Type 0} → Result A Misuse → (A → Result B Misuse) → Result B Misuse
(Ok x) >>= f = f x
(Err e) >>= f = Err e

-- ---- a date and a weekday

-- a date
abbrev pub date_or_misuse : Result WrittenDate DateFault → Result WrittenDate Misuse
date_or_misuse (Ok date) = Ok date
date_or_misuse (Err fault) = Err (misuses.Date fault)

abbrev pub date_of_word : List ℕ → Result WrittenDate Misuse
date_of_word text = date_or_misuse (written_date text)

-- a date with all that is written of it, which is required, and not a set. For one that may begin
-- with its day or its month, an order may be given
abbrev pub any_date_or_misuse : Result TextReading DateFault → Result AnyDate Misuse
any_date_or_misuse (Ok (say.Date date)) = Ok date
any_date_or_misuse (Ok say.Set) = Err (misuses.Date faults.NotOneDay)
any_date_or_misuse (Ok say.NoDate) = Err (misuses.Date faults.NoDate)
any_date_or_misuse (Err faults.DayOrMonth) = Err misuses.OpenOrder
any_date_or_misuse (Err fault) = Err (misuses.Date fault)

-- a weekday by its name, if any
abbrev pub weekday_of_word : Option (List ℕ) → Result (Option Weekday) Misuse
weekday_of_word None = Ok None
weekday_of_word (Some name) = do
  weekday ← ok_or (weekday_named name) misuses.Weekday
  Ok (Some weekday)

-- the weekday that is given beside a date, which must be the one that the date names, if it names
-- one
abbrev pub weekday_beside : Option Weekday → Option Weekday → Result (Option Weekday) Misuse
weekday_beside None weekday = Ok weekday
weekday_beside (Some date_weekday) None = Ok None
weekday_beside (Some date_weekday) (Some weekday) =
    if bytes_eq (weekday_name date_weekday) (weekday_name weekday) then Ok (Some weekday)
    else Err (misuses.OtherWeekday date_weekday)

-- the reading of a date that was asked for
abbrev pub reading_of : Result AnyDate Misuse → Option (List ℕ) → Result Page Misuse
reading_of date_result name = do
  date ← date_result
  weekday ← weekday_of_word name
  beside ← weekday_beside date.weekday weekday
  Ok (pages.Reading date beside)

-- the page on what a date means, by the weekday that is given, if any
abbrev pub reading_beside : Result AnyDate Misuse → Option Weekday → Result Page Misuse
reading_beside date_result weekday = do
  date ← date_result
  beside ← weekday_beside date.weekday weekday
  Ok (pages.Reading date beside)

-- a page on a territory, as what is asked for
abbrev pub territory_topic : Result Page Misuse → Form → Result Topic Misuse
territory_topic page_result form = do
  page ← page_result
  Ok (Territory page form)

-- the page on a set of dates
abbrev pub topic_of_set : Option (List ℕ) → Form → Result Topic Misuse
topic_of_set name form = do
  weekday ← weekday_of_word name
  Ok (Set weekday form)

-- the page on what a text says
abbrev pub topic_of_read : Result TextReading DateFault → Option (List ℕ) → Form
    → Result Topic Misuse
topic_of_read (Ok say.Set) name form = topic_of_set name form
topic_of_read date name form = territory_topic (reading_of (any_date_or_misuse date) name) form

-- the page on what a text says, which is read by the word of the order of its numbers, if there is
-- one
abbrev pub topic_of_reading : List ℕ → Option (List ℕ) → Option (List ℕ) → Form
    → Result Topic Misuse
topic_of_reading text name word form = do
  order ← order_of_word word
  topic_of_read (read_date order text) name form

-- the dates of an input, a date a line, all by the same words
abbrev pub topic_of_lines : Option (List ℕ) → Option (List ℕ) → Form → Result Topic Misuse
topic_of_lines name word form = do
  order ← order_of_word word
  weekday ← weekday_of_word name
  Ok (Dates (record { order = order; weekday = weekday; form = form }))

-- a date, or `-` for those of the input
abbrev pub topic_of_date : List ℕ → Option (List ℕ) → Option (List ℕ) → Form → Result Topic Misuse
topic_of_date text name word form =
    if bytes_eq text (codes "-") then topic_of_lines name word form
    else topic_of_reading text name word form

-- ---- a day

-- the first of the days that have a date, if there is one
abbrev pub one_day : Calendar → List ℕ → Result ℕ Misuse
one_day c [] = Err (misuses.NoSuchDate c)
one_day c (d ∷ ds) = Ok d

-- the day of a date in a calendar. A double date is that of a territory
abbrev pub day_of_date : Calendar → WrittenDate → Result ℕ Misuse
day_of_date c date =
    if date.is_double then Err misuses.DoubleDate
    else one_day c (days_of_written newest_rules c date)

-- a day by a number, which names no weekday
abbrev pub without_weekday : Result ℕ Misuse → Result (ℕ × Option Weekday) Misuse
without_weekday day_result = do
  day ← day_result
  Ok (day, None)

-- a day by a date that was asked for in a calendar, and the weekday that the date names
abbrev pub day_and_weekday : Calendar → Result WrittenDate Misuse
    → Result (ℕ × Option Weekday) Misuse
day_and_weekday calendar date_result = do
  date ← date_result
  day ← day_of_date calendar date
  Ok (day, date.weekday)

-- the page on a day by a number, or else by its Gregorian date
abbrev pub page_of_day : Result (ℕ × Option Weekday) Misuse → Result Page Misuse
page_of_day day_result = do
  day ← day_result
  Ok (pages.OfDay day.0 day.1)

abbrev pub page_of_date : Result WrittenDate Misuse → Result Page Misuse
page_of_date date_result = page_of_day (day_and_weekday Gregorian date_result)

abbrev pub day_page_of : Option (Result ℕ Misuse) → List ℕ → Result Page Misuse
day_page_of (Some day) text = page_of_day (without_weekday day)
day_page_of None text = page_of_date (date_of_word text)

-- ---- a conversion: its day, and the weekday that the date names, if any

-- the misuse as `convert` reports it: for a number that may be either, it asks which is meant
abbrev pub on_conversion : Misuse → Misuse
on_conversion (misuses.WhichDayNumber number) = misuses.WhichConversion number
on_conversion misuse = misuse

-- the day of a conversion by a number
abbrev pub conversion_by_number : Option (Result ℕ Misuse) → Result (ℕ × Option Weekday) Misuse
conversion_by_number None = Err misuses.DayNumber
conversion_by_number (Some (Ok day)) = Ok (day, None)
conversion_by_number (Some (Err misuse)) = Err (on_conversion misuse)

-- the day of a conversion by a date in the calendar of a word
abbrev pub day_by_date : List ℕ → List ℕ → Result (ℕ × Option Weekday) Misuse
day_by_date word text = do
  calendar ← ok_or (calendar_named word) misuses.Calendar
  day_and_weekday calendar (date_of_word text)

abbrev pub conversion_of_words : List ℕ → List ℕ → Result (ℕ × Option Weekday) Misuse
conversion_of_words word text =
    if bytes_eq word (codes "day") then conversion_by_number (day_by_number text)
    else (if is_julian_word word then without_weekday (day_by_julian text)
    else day_by_date word text)

-- the word that is wrong
abbrev pub wrong_word_of_conversion : List ℕ → List ℕ → Misuse → List ℕ
wrong_word_of_conversion calendar date misuses.Calendar = calendar
wrong_word_of_conversion calendar date misuse = date

-- ---- a month

-- a year, 0 to 10000
abbrev pub year_in : Option ℕ → Result ℕ Misuse
year_in None = Err (misuses.Date faults.Year)
year_in (Some year) = if nat_le year 10000 then Ok year else Err (misuses.Date faults.Year)

abbrev pub year_of_word : List ℕ → Result ℕ Misuse
year_of_word text = year_in (number_of text)

-- the page on a month
abbrev pub month_page_of : List ℕ → List ℕ → Result Page Misuse
month_page_of year month = do
  year ← year_of_word year
  number ← month_of_word (number_of month) month
  Ok (pages.Month year number)

-- ---- a year

-- one that has figures
abbrev pub year_numbered : Option ℕ → Result ℕ Misuse
year_numbered None = Err misuses.Year
year_numbered (Some year) =
    if is_off_years newest_rules (pos year) then Err misuses.Year else Ok year

abbrev pub year_topic_of : List ℕ → Bool → Result Topic Misuse
year_topic_of text is_json = do
  year ← year_numbered (number_of text)
  Ok (Year year is_json)

-- ---- a page

-- the form of an answer: whether a date without a day is a refusal, and whether it is in JSON
abbrev pub form_of : Bool → Bool → Form
form_of is_strict is_json = record { is_strict = is_strict; is_json = is_json }

abbrev pub topic_of_words : PageRequestModel → Result Topic Misuse
topic_of_words (almanac_words code year) = Ok (Almanac year)
topic_of_words (reading_words code date weekday order strict json) =
    topic_of_date date weekday order (form_of strict json)
topic_of_words (day_words code date json) =
    territory_topic (day_page_of (day_by_number date) date) (form_of false json)
topic_of_words (month_words code year month json) =
    territory_topic (month_page_of year month) (form_of false json)
topic_of_words (year_words code year json) = year_topic_of year json
topic_of_words (territory_words None json) = Ok (Territories json)
topic_of_words (territory_words (Some code) json) =
    Ok (Territory pages.Periods (form_of false json))

-- words take memory if they name a date, or a month by a name
abbrev pub day_takes_memory : Option (Result ℕ Misuse) → Bool
day_takes_memory (Some day) = false
day_takes_memory None = true

abbrev pub takes_memory : PageRequestModel → Bool
takes_memory (almanac_words code year) = false
takes_memory (reading_words code date weekday order strict json) = true
takes_memory (day_words code date json) = day_takes_memory (day_by_number date)
takes_memory (month_words code year month json) = month_takes_memory (number_of month)
takes_memory (year_words code year json) = false
takes_memory (territory_words code json) = false

-- the text of the date that is named, if any
abbrev pub date_text_of : PageRequestModel → List ℕ
date_text_of (reading_words code date weekday order strict json) = date
date_text_of (almanac_words code year) = []
date_text_of (day_words code date json) = []
date_text_of (month_words code year month json) = []
date_text_of (year_words code year json) = []
date_text_of (territory_words code json) = []

-- the word that names the territory, if there is one
abbrev pub territory_word : PageRequestModel → List ℕ
territory_word (almanac_words code year) = code
territory_word (reading_words code date weekday order strict json) = code
territory_word (day_words code date json) = code
territory_word (month_words code year month json) = code
territory_word (year_words code year json) = code
territory_word (territory_words None json) = []
territory_word (territory_words (Some code) json) = code

-- the word that is wrong
abbrev pub wrong_word_of_reading : List ℕ → Option (List ℕ) → Option (List ℕ) → Misuse → List ℕ
wrong_word_of_reading date (Some weekday) order misuses.Weekday = weekday
wrong_word_of_reading date (Some weekday) order (misuses.OtherWeekday date_weekday) = weekday
wrong_word_of_reading date weekday (Some order) misuses.Order = order
wrong_word_of_reading date weekday order misuse = date

abbrev pub wrong_word : PageRequestModel → Misuse → List ℕ
wrong_word (reading_words code date weekday order strict json) misuse =
    wrong_word_of_reading date weekday order misuse
wrong_word (day_words code date json) misuse = date
wrong_word (month_words code year month json) misuses.Month = month
wrong_word (month_words code year month json) misuse = year
wrong_word (year_words code year json) misuse = year
wrong_word (almanac_words code year) misuse = []
wrong_word (territory_words code json) misuse = []
