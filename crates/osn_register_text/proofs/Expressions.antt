-- What the lines of a territory's text define, in their order.
use Rattle.std.proofs.Common.{ℕ, pos, if◌then◌else◌, List, [], ◌∷◌, ◌++◌, map, codes, Option, Some}
use Rattle.std.proofs.Common.{None}
use Rattle.std.specs.Str.{bytes_eq}
use Rattle.toml_parser.specs.Strings.{Key}
use Rattle.toml.specs.Data.{Data, string, integer, table, no_members, member}
use Rattle.toml.specs.Tables.{Definition, key_value, std_table, array_table, Expression}
use Rattle.osn_computus.specs.RuleWords.{rule_word}
use Rattle.osn_days.specs.declared.calendar.Calendar.{Calendar}
use Rattle.osn_days.specs.CalendarWords.{calendar_word}
use Rattle.osn_days.specs.Chain.{date_of}
use Rattle.osn_days.specs.DateText.{text_of_date}
use Rattle.osn_days.specs.Rules.{Rules}
use Rattle.osn_territory.specs.declared.period.Period.{Period}
use Rattle.osn_territory.specs.declared.regime.Regime.{Regime}
use Rattle.osn_territory.specs.StyleWords.{style_word}
use Rattle.osn_territory.specs.Territory.{TerritoryModel, periods_of, regime_at}
use Rattle.osn_register.specs.Answer.{period_source, easter_source}
use Rattle.osn_register.specs.Plain.{EntryModel}
use Rattle.osn_register.specs.Sources.{SourcesModel}

-- a key and its value, in the table of the last header
abbrev pub pair : List ℕ → Data → Expression
pair key d = (([], key), key_value d)

-- the header of the next table in a list, without the code in front of it
abbrev pub next_in : List ℕ → Expression
next_in key = (([], key), array_table)

abbrev pub date_data : Calendar → ℕ → Data
date_data c day =
    table (member (calendar_word c) (string (text_of_date (date_of c day))) no_members)

abbrev pub regime_pairs : Regime → List Expression
regime_pairs r =
    pair (codes "calendar") (string (calendar_word r.calendar))
    ∷ pair (codes "style") (string (style_word r.style))
    ∷ pair (codes "rule") (string (rule_word r.rule))
    ∷ []

abbrev pub changed_pair : List ℕ → List ℕ → List ℕ → List Expression
changed_pair key before word = if bytes_eq before word then [] else pair key (string word) ∷ []

abbrev pub changed_pairs : Regime → Regime → List Expression
changed_pairs before r =
    changed_pair (codes "calendar") (calendar_word before.calendar) (calendar_word r.calendar)
    ++ (changed_pair (codes "style") (style_word before.style) (style_word r.style)
    ++ changed_pair (codes "rule") (rule_word before.rule) (rule_word r.rule))

-- a source, if one is given
abbrev pub source_pair : Option (List ℕ) → List Expression
source_pair None = []
source_pair (Some source) = pair (codes "source") (string source) ∷ []

abbrev pub change_pairs : Option SourcesModel → Regime → Period → List Expression
change_pairs cited before p =
    pair (codes "from") (date_data p.regime.calendar p.first)
    ∷ (changed_pairs before p.regime ++ source_pair (period_source cited p.first))

-- a change
abbrev pub change : Option SourcesModel → Regime → Period → List Expression
change cited before p = next_in (codes "changes") ∷ change_pairs cited before p

abbrev pub changes : Option SourcesModel → Regime → List Period → List Expression
changes cited before [] = []
changes cited before (p ∷ ps) = change cited before p ++ changes cited p.regime ps

abbrev pub easter_pairs : TerritoryModel → Option SourcesModel → ℕ × ℕ → List Expression
easter_pairs t cited e =
    pair (codes "year") (integer (pos e.0))
    ∷ pair (codes "date") (date_data (regime_at t e.1).calendar e.1)
    ∷ source_pair (easter_source cited e.0)

-- a listed Easter
abbrev pub easter : TerritoryModel → Option SourcesModel → ℕ × ℕ → List Expression
easter t cited e = next_in (codes "easters") ∷ easter_pairs t cited e

abbrev pub easters : TerritoryModel → Option SourcesModel → List (ℕ × ℕ) → List Expression
easters t cited [] = []
easters t cited (e ∷ es) = easter t cited e ++ easters t cited es

abbrev pub after_header : List ℕ → TerritoryModel → Option SourcesModel → List Period
    → List Expression
after_header name t cited [] = easters t cited t.exceptions
after_header name t cited (p ∷ ps) =
    pair (codes "name") (string name)
    ∷ (regime_pairs p.regime
    ++ (source_pair (period_source cited p.first)
    ++ (changes cited p.regime ps ++ easters t cited t.exceptions)))

-- an expression below the header of a code
abbrev pub under_as : List ℕ → Key → Definition → Expression
under_as code key (key_value d) = (key, key_value d)
under_as code key std_table = ((code ∷ key.0, key.1), std_table)
under_as code key array_table = ((code ∷ key.0, key.1), array_table)

abbrev pub under : List ℕ → Expression → Expression
under code e = under_as code e.0 e.1

abbrev pub territory : Rules → EntryModel → List Expression
territory p l =
    (([], l.code), std_table)
    ∷ map (under l.code)
    (after_header l.name l.territory (Some l.sources) (periods_of p l.territory))

abbrev pub territories : Rules → List EntryModel → List Expression
territories p [] = []
territories p (l ∷ ls) = territory p l ++ territories p ls

-- the edition that a text is made of
abbrev pub edition : ℕ → Expression
edition n = pair (codes "edition") (integer (pos n))

-- the edition that a text is made of, and the territories after it
abbrev pub register : Rules → ℕ → List EntryModel → List Expression
register p n ls = edition n ∷ territories p ls
