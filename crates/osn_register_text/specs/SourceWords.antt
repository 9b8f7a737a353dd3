-- What the line of an edit says of the source of what it changes. This project's profile.
use Rattle.std.specs.Prelude.{ℕ, ℤ, List, [], ◌++◌, codes, Option, Some, None, option_and_then}
use Rattle.osn_days.specs.Rules.{Rules}
use Rattle.osn_register.specs.declared.edit.Edit.{Edit}
use Rattle.osn_register.specs.declared.edit.Edit.TheVariants.{AlterChange}
use Rattle.osn_register.specs.Answer.{period_source}
use Rattle.osn_register.specs.Plain.{EntryModel, sources_of}
use Rattle.osn_register_text.specs.EditDay.{day_numbered}

-- the source of the period of a territory that starts on the day of a number
abbrev pub source_on : Rules → List EntryModel → List ℕ → ℤ → Option (List ℕ)
source_on p territories code number =
    option_and_then (period_source (sources_of code territories)) (day_numbered p number)

-- the present source of what an edit alters
abbrev pub source_before : Rules → List EntryModel → Edit → Option (List ℕ)
source_before p territories (AlterChange code day regime source) = source_on p territories code day
source_before p territories edit = None

-- a source: ; source: Calendar (New Style) Act 1750
unfoldable pub source_part : List ℕ → List ℕ
source_part source = codes "; source: " ++ source

-- the source that is given, or that there is no source any more
abbrev pub source_words : Option (List ℕ) → Option (List ℕ) → List ℕ
source_words (Some source) before = source_part source
source_words None (Some source) = codes "; source removed"
source_words None None = []
