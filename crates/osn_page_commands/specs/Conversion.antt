-- The conversion that a command prints, or why it prints none.
use Rattle.std.specs.Prelude.{◌≡◌, List, ℕ, MatchResult}
use Rattle.osn_lines.specs.Streams.{Output}
use Rattle.osn_pages.specs.Conversion.{conversion_page}
use Rattle.osn_page_commands.specs.PageRequest.{conversion_of_words, wrong_word_of_conversion}
use Rattle.osn_report.specs.Printing.{PrintsIfMade}
use Rattle.osn_page_commands.specs.DateHint.{ReportsWord}
use Rattle.osn_report.specs.declared.status.Status.{Status}

-- how the command ends: it printed the day that the words ask for, by the weekday that is given, if
-- any. Or it reported which argument is wrong
abbrev pub PrintsConversion : List ℕ → List ℕ → Output → Output → Status → Type 0
PrintsConversion calendar date o e status = MatchResult (conversion_of_words calendar date)
    (λ conversion. PrintsIfMade (conversion_page conversion.0 conversion.1) o e status)
    (λ misuse. (o.new ≡ o.old)
    × ReportsWord e misuse (wrong_word_of_conversion calendar date misuse) status)
