-- The text of a page, or its answer in JSON, and whether the date of a page means no day.
use Rattle.std.specs.Prelude.{◌≡◌, ◌⊎◌, ℕ, List, Option, None, Some, Result, Ok, Err}
use Rattle.std.specs.Prelude.{Bool, true, false, ◌&&◌, if◌then◌else◌}
use Rattle.std.specs.List.{flat_map, list_any}
use Rattle.std.specs.Result.{is_err}
use Rattle.std.specs.Str.Lines.{lines}
use Rattle.osn_days.specs.Rules.{newest_rules}
use Rattle.osn_days.specs.declared.weekday.Weekday.{Weekday}
use Rattle.osn_written.specs.SetsMeant.{set_meant}
use Rattle.osn_written.specs.declared.any_date.AnyDate.{AnyDate}
use Rattle.osn_written.specs.declared.written_date.DateFault.{DateFault}
use Rattle.osn_grammar.specs.Reading.{members, read_date}
use Rattle.osn_grammar.specs.declared.text_reading.TextReading.{TextReading}
use Rattle.osn_grammar.specs.declared.text_reading.TextReading.TheVariants as say
use Rattle.osn_territory.specs.Territory.{TerritoryModel}
use Rattle.osn_register.specs.NamedTerritories.{named_of}
use Rattle.osn_register.specs.Plain.{EntryModel}
use Rattle.osn_register.specs.declared.query.Query.TheVariants as queries
use Rattle.osn_register.specs.declared.refusal.Refusal.{Refusal}
use Rattle.osn_register.specs.declared.refusal.Refusal.TheVariants.{NoMemory}
use Rattle.osn_core.specs.Edition.{EditionModel}
use Rattle.osn_pages.specs.DateLines.{has_no_day}
use Rattle.osn_pages.specs.Page.{page_text}
use Rattle.osn_pages.specs.SetPage.{set_page_text}
use Rattle.osn_pages.specs.Territory.{territories_page}
use Rattle.osn_pages.specs.YearPage.{year_page}
use Rattle.osn_pages.specs.declared.page.Page.{Page}
use Rattle.osn_pages.specs.declared.page.Page.TheVariants as pages
use Rattle.osn_pages.specs.declared.page.Publication.{Publication}
use Rattle.osn_page_commands.specs.AnswerLine.{query_line, query_lines, query_of_page}
use Rattle.osn_page_commands.specs.AnswerLine.{query_of_read, query_of_set, queries_of_year}
use Rattle.osn_page_commands.specs.DateHint.{misuse_lines}
use Rattle.osn_page_commands.specs.PageRequest.{any_date_or_misuse, reading_beside}
use Rattle.osn_page_commands.specs.declared.page_request.LineRules.{LineRules}
use Rattle.osn_report.specs.declared.misuse.Misuse.{Misuse}

-- what the heading and the end of a page say of an edition
abbrev pub heading_of : EditionModel → Publication
heading_of edition = record { edition = edition.number; pending = edition.pending }

-- ---- the page

-- a page on a territory, or its answer as a line of JSON. This is the text of its date
abbrev pub entry_text : EditionModel → List ℕ → List ℕ → Page → Bool → List ℕ
entry_text s code date page is_json =
    if is_json then query_line s (query_of_page code date page)
    else page_text newest_rules s.territories code (heading_of s) page

-- the page of a year, or its answers as lines of JSON
abbrev pub year_text : EditionModel → List ℕ → List ℕ → ℕ → Bool → List ℕ
year_text s code date year is_json =
    if is_json then query_lines s (queries_of_year code date year)
    else year_page newest_rules s.territories code (heading_of s) year

-- the page on a set of dates, or its answer as a line of JSON
abbrev pub set_text : EditionModel → List ℕ → List ℕ → Option Weekday → Bool → List ℕ
set_text s code date given is_json =
    if is_json then query_line s (query_of_set code date given)
    else set_page_text newest_rules s.territories code (heading_of s) date given

-- the page on all territories, or its answer as a line of JSON
abbrev pub territories_text : EditionModel → Bool → List ℕ
territories_text s is_json =
    if is_json then query_line s queries.Lands
    else territories_page s.territories s.number s.pending

-- ---- dates, a date a line

-- the page on the date of a line, or what standard error says of an argument that is not one
abbrev pub page_or_reason : EditionModel → List ℕ → List ℕ → Result Page Misuse → List ℕ
page_or_reason s code text (Ok page) = entry_text s code text page false
page_or_reason s code text (Err misuse) = misuse_lines misuse text

-- the page on what was read from the line, by the weekday that is given, if any
abbrev pub page_of_read : EditionModel → List ℕ → List ℕ → Option Weekday
    → Result TextReading DateFault → List ℕ
page_of_read s code text given (Ok say.Set) = set_text s code text given false
page_of_read s code text given read =
    page_or_reason s code text (reading_beside (any_date_or_misuse read) given)

-- why a line has no text: the refusal, or NoMemory, which may come before it
abbrev pub IsRefusalOrLack : Option Refusal → Refusal → Type 0
IsRefusalOrLack refused f = (refused ≡ Some f) ⊎ (f ≡ NoMemory)

-- what is printed for a line: its page, or in JSON the answer, which says why there is no date
abbrev pub line_text : EditionModel → List ℕ → LineRules → List ℕ → List ℕ
line_text s code rules text =
    if rules.form.is_json
    then query_line s (query_of_read code text (read_date rules.order text) rules.weekday)
    else page_of_read s code text rules.weekday (read_date rules.order text)

-- for all lines of a text, in order
abbrev pub dates_text : EditionModel → List ℕ → LineRules → List ℕ → List ℕ
dates_text s code rules text = flat_map (line_text s code rules) (lines text)

-- ---- a day that is wanted

-- the date means no day in a territory
abbrev pub is_without_day : Option (List ℕ × TerritoryModel) → AnyDate → Bool
is_without_day None date = false
is_without_day (Some named) date = has_no_day newest_rules named.1 date

-- the date of a page means no day in the territory of the code. Other pages have no date
abbrev pub lacks_day : List EntryModel → List ℕ → Page → Bool
lacks_day territories code (pages.Reading date given) =
    is_without_day (named_of code territories) date
lacks_day territories code (pages.OfDay day weekday) = false
lacks_day territories code (pages.Month year month) = false
lacks_day territories code pages.Periods = false

-- a date of a set means no day in the territory of the code
abbrev pub is_set_without_day : Option (List ℕ × TerritoryModel) → List ℕ → Bool
is_set_without_day None date = false
is_set_without_day (Some named) date =
    is_err (set_meant newest_rules named.1 (members date))

abbrev pub lacks_set : List EntryModel → List ℕ → List ℕ → Bool
lacks_set territories code date = is_set_without_day (named_of code territories) date

-- a line is not a date, or its date means no day and that is a refusal
abbrev pub page_fails : List EntryModel → List ℕ → Bool → Result Page Misuse → Bool
page_fails territories code is_strict (Ok page) = is_strict && lacks_day territories code page
page_fails territories code is_strict (Err misuse) = true

abbrev pub read_fails : List EntryModel → List ℕ → LineRules → List ℕ → Result TextReading DateFault
    → Bool
read_fails territories code rules text (Ok say.Set) =
    rules.form.is_strict && lacks_set territories code text
read_fails territories code rules text read = page_fails territories code rules.form.is_strict
    (reading_beside (any_date_or_misuse read) rules.weekday)

abbrev pub line_fails : List EntryModel → List ℕ → LineRules → List ℕ → Bool
line_fails territories code rules text =
    read_fails territories code rules text (read_date rules.order text)

-- some line of a text fails
abbrev pub some_line_fails : List EntryModel → List ℕ → LineRules → List ℕ → Bool
some_line_fails territories code rules text =
    list_any (line_fails territories code rules) (lines text)
