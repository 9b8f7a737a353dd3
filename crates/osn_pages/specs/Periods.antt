-- The lines of a period: the days from which and until which a regime is in force, how the regime
-- reckons, and the source that says so. This project's profile.
use Rattle.std.specs.Prelude.{ℕ, Bool, true, false, ◌==◌, List, ◌++◌, Option, codes}
use Rattle.osn_computus.specs.RuleWords.{rule_word}
use Rattle.osn_days.specs.CalendarWords.{calendar_word}
use Rattle.osn_days.specs.Rules.{Rules}
use Rattle.osn_territory.specs.declared.period.Period.{Period}
use Rattle.osn_territory.specs.Dating.{dated_day}
use Rattle.osn_territory.specs.StyleWords.{style_word, beginning_of_year}
use Rattle.osn_register.specs.Answer.{period_source}
use Rattle.osn_register.specs.Sources.{SourcesModel}
use Rattle.osn_pages.specs.SourceLine.{source_text}
use Rattle.osn_pages.specs.Words.{numbered_day}

-- ---- the days

-- from the first day until the last, of which nothing is said at an end of the line
abbrev pub span_text : Bool → Bool → List ℕ → List ℕ → List ℕ
span_text true true first last = codes "always"
span_text true false first last = codes "until " ++ last
span_text false true first last = codes "from " ++ first
span_text false false first last = codes "from " ++ (first ++ (codes " until " ++ last))

-- the period begins with the line, and it ends with the line
abbrev pub begins_line : Period → Bool
begins_line period = period.first == 1

unfoldable pub ends_line : Rules → Period → Bool
ends_line p period = period.last == p.high

-- the days of a period, as its own regime dates them
unfoldable pub span : Rules → Period → List ℕ
span p period =
    span_text (begins_line period) (ends_line p period)
    (numbered_day (dated_day p period.regime period.first))
    (numbered_day (dated_day p period.regime period.last))

-- ---- how a regime reckons

-- the line of a period
unfoldable pub period_line : Rules → Period → List ℕ
period_line p period =
    span p period
    ++ (codes ": "
    ++ (calendar_word period.regime.calendar
    ++ (codes " calendar, "
    ++ (style_word period.regime.style
    ++ (codes " style ("
    ++ (beginning_of_year period.regime.style
    ++ (codes "), " ++ (rule_word period.regime.rule ++ codes " rule\n"))))))))

-- the line of a period, and that of its source
unfoldable pub period_lines : Rules → Option SourcesModel → Period → List ℕ
period_lines p sources period =
    period_line p period ++ source_text (period_source sources period.first)
