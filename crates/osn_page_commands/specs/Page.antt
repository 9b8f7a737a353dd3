-- The page that a command prints, or why it prints none.
use Rattle.std.specs.Prelude.{◌≡◌, ◌⊎◌, ◌++◌, ℕ, pos, List, [], ◌∷◌, map, codes, Option}
use Rattle.std.specs.Prelude.{None, IfSome, IsUtf8}
use Rattle.std.specs.Prelude.{Bool, true, false, ◌&&◌, if◌then◌else◌, MatchResult}
use Rattle.std.specs.Option.{MatchOption}
use Rattle.std.specs.Fmt.{decimal}
use Rattle.osn_pages.specs.Almanac.{almanac, almanac_refusal}
use Rattle.osn_days.specs.Rules.{newest_rules}
use Rattle.osn_register.specs.Answer.{land_of}
use Rattle.osn_register.specs.Plain.{EntryModel, code_refusal}
use Rattle.osn_register.specs.declared.limits.Limits.{Limits}
use Rattle.osn_register.specs.declared.refusal.Refusal.{Refusal}
use Rattle.osn_register.specs.declared.refusal.Refusal.TheVariants.{BadCode, UnknownLand}
use Rattle.osn_register.specs.declared.refusal.Refusal.TheVariants.{YearOffRange}
use Rattle.osn_core.specs.Sequential.{ObjectState}
use Rattle.osn_core.specs.Edition.{EditionModel, edition_of_word}
use Rattle.osn_page_commands.specs.Editions.{OnEdition, ReportsEditionWord}
use Rattle.osn_lines.specs.Streams.{Input, Output}
use Rattle.osn_lines.specs.Whole.{WhyNotRead}
use Rattle.osn_lines.specs.declared.whole.ReadAllFault.{ReadAllFault}
use Rattle.osn_files.specs.declared.fault.FileFault.{FileFault}
use Rattle.osn_folder.specs.Folder.{IsOpenFailure}
use Rattle.osn_folder.specs.declared.fault.OpenFailed.{OpenFailed}
use Rattle.osn_invocation.specs.Invocation.{PageRequestModel, almanac_words}
use Rattle.osn_page_commands.specs.DateHint.{ReportsWord}
use Rattle.osn_page_commands.specs.PageRequest.{topic_of_words, takes_memory, territory_word}
use Rattle.osn_page_commands.specs.PageRequest.{date_text_of, wrong_word}
use Rattle.osn_page_commands.specs.PageText.{dates_text, entry_text, lacks_day, lacks_set}
use Rattle.osn_page_commands.specs.PageText.{set_text, some_line_fails, territories_text}
use Rattle.osn_page_commands.specs.PageText.{year_text}
use Rattle.osn_page_commands.specs.Place.{place_named, place_lines}
use Rattle.osn_page_commands.specs.declared.page_request.Topic.{Topic}
use Rattle.osn_page_commands.specs.declared.page_request.Topic.TheVariants.{Almanac, Year}
use Rattle.osn_page_commands.specs.declared.page_request.Topic.TheVariants.{Territory, Set, Dates}
use Rattle.osn_page_commands.specs.declared.page_request.Topic.TheVariants.{Territories}
use Rattle.osn_page_commands.specs.declared.place.Place.{Place}
use Rattle.osn_page_commands.specs.declared.place.Place.TheVariants.{One, NotOne}
use Rattle.osn_report.specs.Fault.{by_read, numbered_line}
use Rattle.osn_report.specs.Folders.{Folders, ReadsOne}
use Rattle.osn_report.specs.Journal.{MakesObject, MakesNoObject}
use Rattle.osn_lines.specs.Escape.{escaped_text}
use Rattle.osn_report.specs.Printing.{PrintsIfMade, PrintsNone, PrintsOrReports}
use Rattle.osn_report.specs.Messages.{EndsBy, ReportsIfMade, ReportsLine}
use Rattle.osn_report.specs.declared.fault.CommandFault.{CommandFault}
use Rattle.osn_report.specs.declared.fault.CommandFault.TheVariants.{File, NoMemory, NotOpened}
use Rattle.osn_report.specs.declared.fault.CommandFault.TheVariants.{ReadFault}
use Rattle.osn_report.specs.declared.status.Status.{Status}
use Rattle.osn_report.specs.declared.status.Status.TheVariants as statuses

-- ---- the page

-- the text of what was asked for, of an edition, if this is the text of its date or of its dates
abbrev pub topic_text : EditionModel → List ℕ → List ℕ → Topic → List ℕ
topic_text s code date (Almanac year) = almanac newest_rules s.territories code (pos year)
topic_text s code date (Year year is_json) = year_text s code date year is_json
topic_text s code date (Territory page form) = entry_text s code date page form.is_json
topic_text s code date (Set given form) = set_text s code date given form.is_json
topic_text s code date (Dates rules) = dates_text s code rules date
topic_text s code date (Territories is_json) = territories_text s is_json

-- why it is refused
abbrev pub topic_refusal : List EntryModel → List ℕ → Topic → Option Refusal
topic_refusal territories code (Almanac year) =
    almanac_refusal newest_rules territories code (pos year)
topic_refusal territories code (Year year is_json) = code_refusal territories code
topic_refusal territories code (Territory page form) = code_refusal territories code
topic_refusal territories code (Set given form) = code_refusal territories code
topic_refusal territories code (Dates rules) = code_refusal territories code
topic_refusal territories code (Territories is_json) = None

-- whether the date means no day, if the words ask for a day
abbrev pub lacks_strict_day : List EntryModel → List ℕ → List ℕ → Topic → Bool
lacks_strict_day territories code date (Almanac year) = false
lacks_strict_day territories code date (Year year is_json) = false
lacks_strict_day territories code date (Territory page form) = form.is_strict
    && lacks_day territories code page
lacks_strict_day territories code date (Set given form) = form.is_strict
    && lacks_set territories code date
lacks_strict_day territories code date (Dates rules) = some_line_fails territories code rules date
lacks_strict_day territories code date (Territories is_json) = false

-- the status of a page that was printed: that of a refusal, if a day that was asked for is missing
abbrev pub page_status : Bool → Status → Status
page_status lacks statuses.Done = if lacks then statuses.Refused else statuses.Done
page_status lacks status = status

-- ---- what is printed about a refusal

-- the words that a word can't be a code, and what a code is
abbrev pub no_code : List ℕ → List ℕ
no_code code =
    escaped_text code ++ codes ": a code is 2 to 8 capital letters or digits, the first a letter"

-- the words that no territory of a journal has the code, and which command lists the codes
abbrev pub no_territory : List ℕ → List ℕ → List ℕ
no_territory path code =
    codes "no territory has the code "
    ++ (escaped_text code ++ (codes ": see oldstyle territory " ++ escaped_text path))

-- the line on a refusal of a page on a territory: what was typed, and what to do
abbrev pub territory_refusal_line : List ℕ → List ℕ → Refusal → List ℕ
territory_refusal_line path code BadCode = codes "oldstyle: " ++ (no_code code ++ codes "\n")
territory_refusal_line path code UnknownLand =
    codes "oldstyle: " ++ (no_territory path code ++ codes "\n")
territory_refusal_line path code refusal = numbered_line refusal

-- the help on a refused almanac, which says what is allowed. The line before it has the number and
-- the name of the refusal
abbrev pub almanac_help : List ℕ → List ℕ → ℕ → Refusal → List ℕ
almanac_help path code year BadCode = codes "help: " ++ (no_code code ++ codes "\n")
almanac_help path code year UnknownLand = codes "help: " ++ (no_territory path code ++ codes "\n")
almanac_help path code year YearOffRange =
    codes "help: " ++ (decimal year ++ codes ": a year is 1 to 9999\n")
almanac_help path code year refusal = []

abbrev pub almanac_refusal_lines : List ℕ → List ℕ → ℕ → Refusal → List ℕ
almanac_refusal_lines path code year refusal =
    numbered_line refusal ++ almanac_help path code year refusal

-- what is printed about a refusal
abbrev pub refusal_line : List ℕ → List ℕ → Topic → Refusal → List ℕ
refusal_line path code (Almanac year) refusal =
    almanac_refusal_lines path code year refusal
refusal_line path code (Year year is_json) refusal = territory_refusal_line path code refusal
refusal_line path code (Territory page form) refusal = territory_refusal_line path code refusal
refusal_line path code (Set given form) refusal = territory_refusal_line path code refusal
refusal_line path code (Dates rules) refusal = territory_refusal_line path code refusal
refusal_line path code (Territories is_json) refusal = numbered_line refusal

-- ---- how the command ends

-- nothing was written, and the refusal was reported
abbrev pub IsRefused : List ℕ → List ℕ → Topic → Refusal → Output → Output → Status → Type 0
IsRefused path code topic refusal o e status =
    (o.new ≡ o.old) × ReportsIfMade e statuses.Refused (refusal_line path code topic refusal) status

-- the text of a page was printed. If an almanac could not be written, that was reported
abbrev pub PrintsTopicText : Topic → List ℕ → Output → Output → Status → Type 0
PrintsTopicText (Almanac year) text o e status = PrintsOrReports text o e status
PrintsTopicText (Year year is_json) text o e status = PrintsIfMade text o e status
PrintsTopicText (Territory page form) text o e status = PrintsIfMade text o e status
PrintsTopicText (Set given form) text o e status = PrintsIfMade text o e status
PrintsTopicText (Dates rules) text o e status = PrintsIfMade text o e status
PrintsTopicText (Territories is_json) text o e status = PrintsIfMade text o e status

-- the text of a page was printed, with its status
abbrev pub PrintsPageText : Topic → List ℕ → Bool → Output → Output → Status → Type 0
PrintsPageText topic text lacks o e status =
    (own : Status) × PrintsTopicText topic text o e own × (status ≡ page_status lacks own)

-- how a page of an edition ends: the page was printed, unless what was asked for is refused, or
-- memory ran out
abbrev pub PrintsPageOf : EditionModel → List ℕ → List ℕ → List ℕ → Topic → Output → Output
    → Status → Type 0
PrintsPageOf s path code date topic o e status =
    MatchOption (topic_refusal s.territories code topic)
    (PrintsPageText topic (topic_text s code date topic)
    (lacks_strict_day s.territories code date topic) o e status)
    (λ refusal. IsRefused path code topic refusal o e status)

-- the page was printed on the territory that a word names; or the word names none or several, which
-- was reported
abbrev pub PrintsPageOn : EditionModel → List ℕ → List ℕ → List ℕ → Topic → Place → Output → Output
    → Status → Type 0
PrintsPageOn s path word date topic (One code) o e status =
    PrintsPageOf s path code date topic o e status
PrintsPageOn s path word date topic (NotOne named) o e status =
    (o.new ≡ o.old)
    × ReportsIfMade e statuses.Refused (place_lines path word named (map land_of s.territories))
    status

-- what the word names: for an almanac it is a code, and the page of all territories is on none
abbrev pub place_of : Topic → List ℕ → List EntryModel → Place
place_of (Almanac year) word territories = One word
place_of (Year year is_json) word territories = place_named word territories
place_of (Territory page form) word territories = place_named word territories
place_of (Set given form) word territories = place_named word territories
place_of (Dates rules) word territories = place_named word territories
place_of (Territories is_json) word territories = One word

-- ---- the input

-- the line that standard input is not UTF-8
abbrev pub not_utf8 : List ℕ
not_utf8 = codes "oldstyle: standard input is not UTF-8\n"

-- how the bytes of an input are answered: the pages on its dates were printed; or the bytes are not
-- UTF-8, which was reported
abbrev pub PrintsBytes : EditionModel → List ℕ → List ℕ → Topic → List ℕ → Output → Output → Status
    → Type 0
PrintsBytes s path word topic bytes o e status =
    (IsUtf8 bytes
    × PrintsPageOn s path word bytes topic (place_of topic word s.territories) o e status)
    ⊎ ((¬ IsUtf8 bytes) × (o.new ≡ o.old) × ReportsLine e statuses.Refused not_utf8 status)

-- how dates of an input are printed. The input was not read, which was reported; or it was read,
-- and what was asked of its bytes was printed
abbrev pub PrintsDates : EditionModel → List ℕ → List ℕ → Topic → Input → Output → Output → Status
    → Type 0
PrintsDates s path word topic i o e status =
    ((why : ReadAllFault) × WhyNotRead why i.unread_before i.unread i.bytes
    × PrintsNone (by_read why) o e status)
    ⊎ IfSome i.bytes (λ bytes. PrintsBytes s path word topic bytes o e status)

-- what was asked for was printed: on dates of the input, or on the date of the words
abbrev pub PrintsAsked : EditionModel → List ℕ → List ℕ → List ℕ → Topic → Input → Output → Output
    → Status → Type 0
PrintsAsked s path word date (Dates rules) i o e status =
    PrintsDates s path word (Dates rules) i o e status
PrintsAsked s path word date (Almanac year) i o e status = PrintsPageOn s path word date
    (Almanac year) (place_of (Almanac year) word s.territories) o e status
PrintsAsked s path word date (Year year is_json) i o e status = PrintsPageOn s path word date
    (Year year is_json) (place_of (Year year is_json) word s.territories) o e status
PrintsAsked s path word date (Territory page form) i o e status = PrintsPageOn s path word date
    (Territory page form) (place_of (Territory page form) word s.territories) o e status
PrintsAsked s path word date (Set given form) i o e status = PrintsPageOn s path word date
    (Set given form) (place_of (Set given form) word s.territories) o e status
PrintsAsked s path word date (Territories is_json) i o e status = PrintsPageOn s path word date
    (Territories is_json) (place_of (Territories is_json) word s.territories) o e status

-- how a page of a journal is printed: the journal makes an object, and what was asked for was
-- printed of its edition of a number, or of the newest one
abbrev pub PrintsTopic : Limits → List ℕ → Option ℕ → Input → List ℕ → List ℕ → Topic → Input
    → Output → Output → Status → Type 0
PrintsTopic limits path number journal word date topic i o e status =
    (s : ObjectState) × MakesObject limits journal.bytes s
    × OnEdition number s (λ edition. PrintsAsked edition path word date topic i o e status) o e
    status

-- by words: that, once the journal was opened; or a word is wrong, which was reported, and no file
-- was opened
abbrev pub RunsWords : Limits → List ℕ → Option ℕ → PageRequestModel → (Bool → Type 0) → Folders
    → Input → Output → Output → Status → Type 0
RunsWords limits path number words CanFail d i o e status = MatchResult (topic_of_words words)
    (λ topic. ReadsOne path CanFail d (λ file.
    PrintsTopic limits path number file (territory_word words) (date_text_of words) topic i o e
    status)) (λ misuse. (d.after ≡ d.before) × (o.new ≡ o.old)
    × ReportsWord e misuse (wrong_word words misuse) status)

-- there was no memory to read the words, which was reported, and no file was opened
abbrev pub LacksMemory : PageRequestModel → Folders → Output → Output → Status → Type 0
LacksMemory words d o e status =
    (takes_memory words ≡ true) × (d.after ≡ d.before) × (o.new ≡ o.old) × EndsBy e NoMemory status

-- by what it printed and reported: one of these
abbrev pub RunsNumbered : Limits → List ℕ → Option ℕ → PageRequestModel → (Bool → Type 0) → Folders
    → Input → Output → Output → Status → Type 0
RunsNumbered limits path number words CanFail d i o e status =
    LacksMemory words d o e status ⊎ RunsWords limits path number words CanFail d i o e status

-- how a page ends by the word of the edition, if there is one. If it is not the number of an
-- edition, this was reported, and no file was opened
abbrev pub RunsPage : Limits → List ℕ → Option (List ℕ) → PageRequestModel → (Bool → Type 0)
    → Folders → Input → Output → Output → Status → Type 0
RunsPage limits path edition words CanFail d i o e status = MatchResult (edition_of_word edition)
    (λ number. RunsNumbered limits path number words CanFail d i o e status)
    (λ word. (d.after ≡ d.before) × (o.new ≡ o.old) × ReportsEditionWord word e status)

-- ---- why it ended early

-- the fault of a page whose journal could not be opened: an almanac says that it is a read fault
abbrev pub open_failure : PageRequestModel → OpenFailed → CommandFault
open_failure (almanac_words code year) cause = ReadFault cause
open_failure words cause = NotOpened cause

-- the journal could not be opened; or it was, and makes no object
abbrev pub PageFails : Limits → List ℕ → PageRequestModel → (Bool → Type 0) → Folders → List ℕ
    → CommandFault → Type 0
PageFails limits journal words CanFail d path fault =
    ((cause : OpenFailed) × (fault ≡ open_failure words cause)
    × IsOpenFailure (journal ∷ []) path cause d.before d.after)
    ⊎ ((path ≡ journal) × ReadsOne journal CanFail d (λ file. (why : FileFault)
    × (fault ≡ File why) × MakesNoObject limits file why))
