-- What the words of a command line ask for a table of letters, or which of them is wrong.
use Rattle.std.specs.Prelude.{ℕ, Bool, if◌then◌else◌, List, [], codes, Option, Some, None, Result}
use Rattle.std.specs.Prelude.{Ok, Err, is_some, unwrap_or}
use Rattle.std.specs.Str.{bytes_eq}
use Rattle.osn_grammar.specs.Simple.{◌>>=◌}
use Rattle.osn_grammar.specs.declared.text_reading.DateOrder.{DateOrder}
use Rattle.osn_invocation.specs.Invocation.{DateModel, LettersModel}
use Rattle.osn_letters.specs.Columns.{DateTexts, OneText, PartTexts, NameTexts}
use Rattle.osn_letters.specs.declared.separator.Separator.{Separator}
use Rattle.osn_letters.specs.declared.separator.Separator.TheVariants.{Comma, Semicolon, Tab}
use Rattle.osn_page_commands.specs.Letters.{SettingsModel}
use Rattle.osn_page_commands.specs.Order.{order_of_word}
use Rattle.osn_report.specs.declared.misuse.Misuse.{Misuse}
use Rattle.osn_report.specs.declared.misuse.Misuse.TheVariants as misuses

-- what separates the fields, by its word, if there is one
abbrev pub separator_of_word : Option (List ℕ) → Result (Option Separator) Misuse
separator_of_word None = Ok None
separator_of_word (Some word) =
    if bytes_eq word (codes "comma") then Ok (Some Comma)
    else (if bytes_eq word (codes "semicolon") then Ok (Some Semicolon)
    else (if bytes_eq word (codes "tab") then Ok (Some Tab)
    else Err misuses.Separator))

-- the name of the column of weekdays, which is required if it is named
abbrev pub weekday_column : Option (List ℕ) → List ℕ
weekday_column name = unwrap_or name (codes "weekday")

-- the names of the columns of the date, by those that are named: that of whole dates, or those of
-- years, months and days. The first can't be used with the others; a month requires a year, and a
-- day requires both. Otherwise it says what is wrong, and with which option. If no column is named,
-- one column has the date
abbrev pub dates_named : Option (List ℕ) → Option (List ℕ) → Option (List ℕ) → Option (List ℕ)
    → Result DateTexts (Misuse × List ℕ)
dates_named None None None None = Ok (OneText (codes "date"))
dates_named (Some date) None None None = Ok (OneText date)
dates_named (Some date) year month day = Err (misuses.DateAndParts, codes "--date")
dates_named None None (Some month) day = Err (misuses.PartWithoutYear, codes "--month")
dates_named None None None (Some day) = Err (misuses.PartWithoutYear, codes "--day")
dates_named None (Some year) None (Some day) = Err (misuses.DayWithoutMonth, codes "--day")
dates_named None (Some year) month day = Ok (PartTexts year month day)

abbrev pub dates_of_options : DateModel → Result DateTexts (Misuse × List ℕ)
dates_of_options named = dates_named named.date named.year named.month named.day

-- the name of the column of places, unless one place of all rows is named. Both can't be named
abbrev pub place_named : Option (List ℕ) → Option (List ℕ)
    → Result (Option (List ℕ)) (Misuse × List ℕ)
place_named None name = Ok (Some (unwrap_or name (codes "place")))
place_named (Some place_of_all) None = Ok None
place_named (Some place_of_all) (Some name) = Err (misuses.PlaceAndColumn, codes "--in")

-- the names of all columns, the place of all rows, and whether added columns are replaced
abbrev pub names_with : Bool → Option (List ℕ) → List ℕ → Option (List ℕ) → DateTexts → NameTexts
names_with replaces place place_of_all weekday dates = record {
  replaces = replaces;
  place = place;
  place_of_all = place_of_all;
  date = dates;
  weekday = weekday_column weekday;
  needs_weekday = is_some weekday;
}

-- what a word asks for, or what is wrong with it, and the word as it was typed
abbrev pub or_typed : {T : Type 0} → Option (List ℕ) → Result T Misuse
    → Result T (Misuse × List ℕ)
or_typed word (Ok value) = Ok value
or_typed word (Err misuse) = Err (misuse, unwrap_or word [])

-- what the words ask for besides the place, or the first that is wrong: of the date's columns, the
-- separator's or the order's
abbrev pub settings_with : Bool → (DateTexts → NameTexts) → Result DateTexts (Misuse × List ℕ)
    → Result (Option Separator) (Misuse × List ℕ) → Result DateOrder (Misuse × List ℕ)
    → Result SettingsModel (Misuse × List ℕ)
settings_with keeps_going names (Err wrong) separator order = Err wrong
settings_with keeps_going names (Ok dates) (Err wrong) order = Err wrong
settings_with keeps_going names (Ok dates) (Ok separator) (Err wrong) = Err wrong
settings_with keeps_going names (Ok dates) (Ok separator) (Ok order) = Ok (record {
  names = names dates;
  separator = separator;
  order = order;
  places = [];
  keeps_going = keeps_going;
})

abbrev pub settings_at : LettersModel → Option (List ℕ) → Result SettingsModel (Misuse × List ℕ)
settings_at options place =
    settings_with options.keep_going
    (names_with options.replace place (unwrap_or options.place_of_all []) options.weekday)
    (dates_of_options options.date)
    (or_typed options.separator (separator_of_word options.separator))
    (or_typed options.order (order_of_word options.order))

-- what all the words ask for, or the first that is wrong: that of the place comes first
abbrev pub settings_of_options : LettersModel → Result SettingsModel (Misuse × List ℕ)
settings_of_options options =
    place_named options.place_of_all options.place >>= λ place. settings_at options place
