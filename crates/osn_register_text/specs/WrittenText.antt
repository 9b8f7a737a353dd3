-- The text of a territory in TOML, and that of a register: this project's profile.
use Rattle.std.specs.Prelude.{ℕ, if◌then◌else◌, List, [], ◌∷◌, ◌++◌, codes}
use Rattle.std.specs.Prelude.{Option, Some, None}
use Rattle.std.specs.Fmt.{decimal}
use Rattle.std.specs.List.{flat_map}
use Rattle.std.specs.Str.{bytes_eq}
use Rattle.toml_writer.specs.Text.{string_text}
use Rattle.osn_computus.specs.RuleWords.{rule_word}
use Rattle.osn_days.specs.declared.calendar.Calendar.{Calendar}
use Rattle.osn_days.specs.CalendarWords.{calendar_word}
use Rattle.osn_days.specs.Chain.{date_of}
use Rattle.osn_days.specs.DateText.{text_of_date}
use Rattle.osn_days.specs.Rules.{Rules}
use Rattle.osn_territory.specs.declared.period.Period.{Period}
use Rattle.osn_territory.specs.declared.regime.Regime.{Regime}
use Rattle.osn_territory.specs.StyleWords.{style_word}
use Rattle.osn_territory.specs.Territory.{TerritoryModel, periods_of, regime_at}
use Rattle.osn_register.specs.Answer.{period_source, easter_source}
use Rattle.osn_register.specs.Plain.{EntryModel, entry_of}
use Rattle.osn_register.specs.Sources.{SourcesModel}

-- ---- parts of a line

-- a key with a word: calendar = "julian"
unfoldable pub word_line : List ℕ → List ℕ → List ℕ
word_line key word = key ++ (codes " = \"" ++ (word ++ codes "\"\n"))

-- a key with a word, if the word is not the one before
unfoldable pub changed_line : List ℕ → List ℕ → List ℕ → List ℕ
changed_line key before word = if bytes_eq before word then [] else word_line key word

-- a source, if one is given: source = "24 Geo. II c. 23"
unfoldable pub source_line : Option (List ℕ) → List ℕ
source_line None = []
source_line (Some source) = codes "source = " ++ (string_text source ++ codes "\n")

-- a day by its date in a calendar: { gregorian = "1752-09-14" }
unfoldable pub date_table : Calendar → ℕ → List ℕ
date_table calendar day =
    codes "{ "
    ++ (calendar_word calendar
    ++ (codes " = \"" ++ (text_of_date (date_of calendar day) ++ codes "\" }")))

-- ---- a territory

-- the header of a territory and its name
unfoldable pub name_text : List ℕ → List ℕ → List ℕ
name_text code name =
    codes "[" ++ (code ++ (codes "]\nname = " ++ (string_text name ++ codes "\n")))

-- a regime
unfoldable pub regime_text : Regime → List ℕ
regime_text regime =
    word_line (codes "calendar") (calendar_word regime.calendar)
    ++ (word_line (codes "style") (style_word regime.style)
    ++ word_line (codes "rule") (rule_word regime.rule))

-- what differs in a regime from the one before it
unfoldable pub changed_lines : Regime → Regime → List ℕ
changed_lines before regime =
    changed_line (codes "calendar") (calendar_word before.calendar) (calendar_word regime.calendar)
    ++ (changed_line (codes "style") (style_word before.style) (style_word regime.style)
    ++ changed_line (codes "rule") (rule_word before.rule) (rule_word regime.rule))

-- the header of the change with which a period begins, and its date by the calendar of that period
unfoldable pub beginning_text : List ℕ → Period → List ℕ
beginning_text code period =
    codes "\n[["
    ++ (code
    ++ (codes ".changes]]\nfrom = "
    ++ (date_table period.regime.calendar period.first ++ codes "\n")))

-- the change with which a period begins, after a period of that regime
unfoldable pub change_text : List ℕ → Option SourcesModel → Regime → Period → List ℕ
change_text code sources before period =
    beginning_text code period
    ++ (changed_lines before period.regime
    ++ source_line (period_source sources period.first))

-- the changes with which these periods begin, after one of that regime
unfoldable pub changes_text : List ℕ → Option SourcesModel → Regime → List Period → List ℕ
changes_text code sources before [] = []
changes_text code sources before (p ∷ ps) =
    change_text code sources before p ++ changes_text code sources p.regime ps

-- the name, the regime that it opens with and its source, and the changes after it
unfoldable pub periods_text : List ℕ → List ℕ → Option SourcesModel → List Period → List ℕ
periods_text code name sources [] = []
periods_text code name sources (p ∷ ps) =
    name_text code name
    ++ (regime_text p.regime
    ++ (source_line (period_source sources p.first) ++ changes_text code sources p.regime ps))

-- a year with its listed Easter, dated by the calendar in force on that day
unfoldable pub listing_text : List ℕ → TerritoryModel → ℕ × ℕ → List ℕ
listing_text code t listed =
    codes "\n[["
    ++ (code
    ++ (codes ".easters]]\nyear = "
    ++ (decimal listed.0
    ++ (codes "\ndate = "
    ++ (date_table (regime_at t listed.1).calendar listed.1 ++ codes "\n")))))

-- a listed Easter with its source
unfoldable pub easter_text : List ℕ → TerritoryModel → Option SourcesModel → ℕ × ℕ → List ℕ
easter_text code t sources listed =
    listing_text code t listed ++ source_line (easter_source sources listed.0)

-- a territory with its sources: its periods in order, then its listed Easters by their years
unfoldable pub territory_text : Rules → List ℕ → List ℕ → TerritoryModel → Option SourcesModel
    → List ℕ
territory_text p code name t sources =
    periods_text code name sources (periods_of p t)
    ++ flat_map (easter_text code t sources) t.exceptions

abbrev pub if_there : Option EntryModel → List EntryModel
if_there None = []
if_there (Some l) = l ∷ []

abbrev pub entry_text : Rules → EntryModel → List ℕ
entry_text p l = territory_text p l.code l.name l.territory (Some l.sources)

-- ---- a register

-- the edition that it is made of: edition = 3
unfoldable pub edition_line : ℕ → List ℕ
edition_line edition = codes "edition = " ++ (decimal edition ++ codes "\n")

-- territories, each after an empty line
unfoldable pub territories_text : Rules → List EntryModel → List ℕ
territories_text p [] = []
territories_text p (l ∷ ls) = codes "\n" ++ (entry_text p l ++ territories_text p ls)

-- the territories of a register, in the order in which they were added
unfoldable pub register_text : Rules → ℕ → List EntryModel → List ℕ
register_text p edition territories = edition_line edition ++ territories_text p territories

-- the text of a register's territory of a code alone, without territories if the code is unknown
abbrev pub text_of_code : Rules → ℕ → List ℕ → List EntryModel → List ℕ
text_of_code p edition code territories =
    register_text p edition (if_there (entry_of code territories))
