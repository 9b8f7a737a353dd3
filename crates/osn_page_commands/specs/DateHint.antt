-- What is said of a word that may be a mistyped name of a month or a weekday.
use Rattle.std.specs.Prelude.{ℕ, Bool, ◌||◌, if◌then◌else◌, codes, List, [], ◌∷◌, ◌++◌, find}
use Rattle.std.specs.Prelude.{Option, Some, None, is_some}
use Rattle.std.specs.Result.{is_ok}
use Rattle.osn_grammar.specs.ReadDate.{written_date}
use Rattle.osn_lines.specs.Near.{is_near}
use Rattle.osn_lines.specs.Escape.{escaped_text}
use Rattle.osn_written.specs.WrittenDate.{parts_at}
use Rattle.osn_written.specs.declared.written_date.DateFault.TheVariants as faults
use Rattle.osn_page_commands.specs.DateAdvice.{empty_help, form_help, month_help, order_help}
use Rattle.osn_page_commands.specs.DateAdvice.{year_help}
use Rattle.osn_page_commands.specs.MonthWord.{month_in_date}
use Rattle.osn_page_commands.specs.Pieces.{pieces}
use Rattle.osn_page_commands.specs.Place.{first_or}
use Rattle.osn_report.specs.Misuse.{misuse_line}
use Rattle.osn_report.specs.Messages.{ReportsIfMade}
use Rattle.osn_report.specs.declared.misuse.Misuse.{Misuse}
use Rattle.osn_report.specs.declared.misuse.Misuse.TheVariants as misuses
use Rattle.osn_report.specs.declared.status.Status.{Status}
use Rattle.osn_report.specs.declared.status.Status.TheVariants as statuses
use Rattle.osn_lines.specs.Streams.{Output}

-- the names that are suggested
unfoldable pub date_names : List (List ℕ)
date_names =
    codes "January" ∷ codes "February" ∷ codes "March" ∷ codes "April" ∷ codes "May" ∷ codes "June"
    ∷ codes "July" ∷ codes "August" ∷ codes "September" ∷ codes "October" ∷ codes "November"
    ∷ codes "December" ∷ codes "Sunday" ∷ codes "Monday" ∷ codes "Tuesday" ∷ codes "Wednesday"
    ∷ codes "Thursday" ∷ codes "Friday" ∷ codes "Saturday" ∷ []

-- a date may have the word in the place of its month or its weekday
abbrev pub is_date_word : List ℕ → Bool
is_date_word word =
    is_some (month_in_date word) || is_ok (written_date (word ++ codes " 1 January 2000"))

-- the nearest name of a word that no date has: the first that is one step away, or else the first
-- that is two steps away
unfoldable pub nearest_name : List ℕ → Option (List ℕ)
nearest_name word =
    if is_date_word word then None
    else first_or (find (is_near 1 word) date_names) (find (is_near 2 word) date_names)

-- a word with its nearest name, or else another one
abbrev pub hint_or : List ℕ → Option (List ℕ) → Option (List ℕ × List ℕ)
    → Option (List ℕ × List ℕ)
hint_or word (Some name) other = Some (word, name)
hint_or word None other = other

-- the first of these words that has a nearest name, with that name
abbrev pub first_hint : List (List ℕ) → Option (List ℕ × List ℕ)
first_hint [] = None
first_hint (word ∷ words) = hint_or word (nearest_name word) (first_hint words)

-- the line on a word and the name that is nearest to it
abbrev pub hint_line : Option (List ℕ × List ℕ) → List ℕ
hint_line None = []
hint_line (Some hint) = codes "help: "
    ++ (escaped_text hint.0 ++ (codes ": did you mean " ++ (hint.1 ++ codes "?\n")))

-- the line on the first word of a text that has a nearest name. Words are between spaces
abbrev pub name_help : List ℕ → List ℕ
name_help text = hint_line (first_hint (pieces 32 text))

-- the line of help on a word, or else on what is missing or too much in a text that is almost a
-- date
abbrev pub hint_or_form : Option (List ℕ × List ℕ) → List ℕ → List ℕ
hint_or_form None text = form_help text
hint_or_form (Some hint) text = hint_line (Some hint)

abbrev pub date_help : List ℕ → List ℕ
date_help text = hint_or_form (first_hint (pieces 32 text)) text

-- ---- a word of a short list

-- the words that an argument may be
abbrev pub calendar_words : List (List ℕ)
calendar_words = codes "gregorian" ∷ codes "julian" ∷ codes "swedish" ∷ codes "day" ∷ codes "jdn"
    ∷ []

abbrev pub order_words : List (List ℕ)
order_words = codes "dmy" ∷ codes "mdy" ∷ []

abbrev pub separator_words : List (List ℕ)
separator_words = codes "comma" ∷ codes "semicolon" ∷ codes "tab" ∷ []

-- the nearest of these: the one that differs in capital and small letters alone, or else the first
-- that is one step away, or else the first that is two steps away
abbrev pub nearest_other : List (List ℕ) → List ℕ → Option (List ℕ)
nearest_other names word =
    first_or (find (is_near 1 word) names) (find (is_near 2 word) names)

abbrev pub nearest_of : List (List ℕ) → List ℕ → Option (List ℕ)
nearest_of names word = first_or (find (is_near 0 word) names) (nearest_other names word)

-- the line on a word that is not one of these
abbrev pub with_name : List ℕ → Option (List ℕ) → Option (List ℕ × List ℕ)
with_name word None = None
with_name word (Some name) = Some (word, name)

abbrev pub word_help : List (List ℕ) → List ℕ → List ℕ
word_help names word = hint_line (with_name word (nearest_of names word))

-- ---- all arguments

-- the lines on a wrong argument: what is allowed there, and what may be meant
abbrev pub misuse_help : Misuse → List ℕ → List ℕ
misuse_help (misuses.Date faults.Malformed) argument = date_help argument
misuse_help (misuses.Date faults.ShortYear) argument = date_help argument
misuse_help (misuses.Date faults.Month) argument = month_help argument
misuse_help (misuses.Date faults.DayOrMonth) argument = order_help argument
misuse_help misuses.OpenOrder argument = order_help argument
misuse_help (misuses.Date faults.Year) argument = year_help (parts_at 47 argument) argument
misuse_help (misuses.Date faults.NoDate) argument = empty_help argument
misuse_help misuses.Weekday argument = name_help argument
misuse_help misuses.Month argument = name_help argument
misuse_help misuses.Calendar argument = word_help calendar_words argument
misuse_help misuses.Order argument = word_help order_words argument
misuse_help misuses.Separator argument = word_help separator_words argument
misuse_help misuse argument = []

abbrev pub misuse_lines : Misuse → List ℕ → List ℕ
misuse_lines misuse argument = misuse_line misuse argument ++ misuse_help misuse argument

-- the lines on an argument of a place were written
abbrev pub ReportsWord : Output → Misuse → List ℕ → Status → Type 0
ReportsWord e misuse argument status =
    ReportsIfMade e statuses.Misused (misuse_lines misuse argument) status
