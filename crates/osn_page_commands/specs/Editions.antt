-- What a command does with an edition of a journal, and what is reported if there is none. This
-- project's profile.
use Rattle.std.specs.Prelude.{◌≡◌, ◌⊎◌, ◌==◌, ℕ, true, if◌then◌else◌, List, ◌++◌, length, codes}
use Rattle.std.specs.Prelude.{Option, Some, None, is_some}
use Rattle.std.specs.Fmt.{decimal}
use Rattle.std.specs.Option.{MatchOption}
use Rattle.osn_core.specs.Sequential.{ObjectState}
use Rattle.osn_core.specs.Edition.{EditionModel, edition_of}
use Rattle.osn_core.specs.declared.edition.EditionFault.{EditionFault}
use Rattle.osn_core.specs.declared.edition.EditionFault.TheVariants.{TooLate, NoMemory}
use Rattle.osn_lines.specs.Streams.{Output}
use Rattle.osn_report.specs.Messages.{EndsBy, ReportsIfMade}
use Rattle.osn_report.specs.declared.fault.CommandFault.TheVariants as faults
use Rattle.osn_report.specs.declared.status.Status.{Status}
use Rattle.osn_report.specs.declared.status.Status.TheVariants as statuses
use Rattle.osn_lines.specs.Escape.{escaped_text}

-- the line on a word that is not the number of an edition
unfoldable pub word_line : List ℕ → List ℕ
word_line word = codes "oldstyle: "
    ++ (escaped_text word
    ++ codes ": an edition is a number, such as 3\n")

-- it was reported that a word is not the number of an edition
abbrev pub ReportsEditionWord : List ℕ → Output → Status → Type 0
ReportsEditionWord word e status = ReportsIfMade e statuses.Misused (word_line word) status

-- what to do about it
abbrev pub late_help : ℕ → List ℕ
late_help newest =
    if newest == 0 then codes "help: nothing is published in the journal yet\n"
    else codes "help: write a number from 0 to " ++ (decimal newest ++ codes "\n")

-- the lines on a number that a journal has no edition of, whose newest one is this
unfoldable pub late_lines : ℕ → ℕ → List ℕ
late_lines number newest = codes "oldstyle: edition "
    ++ (decimal number
    ++ (codes " is later than the newest edition, which is "
    ++ (decimal newest ++ (codes "\n" ++ late_help newest))))

-- it was reported why there is no such edition
abbrev pub ReportsEditionFault : EditionFault → Output → Status → Type 0
ReportsEditionFault (TooLate number newest) e status =
    ReportsIfMade e statuses.Refused (late_lines number newest) status
ReportsEditionFault NoMemory e status = EndsBy e faults.NoMemory status

-- a number was given that is greater than that of the newest edition, which was reported, and
-- nothing was written
abbrev pub IsLate : Option ℕ → ℕ → Output → Output → Status → Type 0
IsLate None newest o e status = ⊥
IsLate (Some number) newest o e status =
    (o.new ≡ o.old) × ReportsIfMade e statuses.Refused (late_lines number newest) status

-- This was done with the edition of a number, or with the newest one if no number is given; or the
-- object has no edition of the number. For a number, memory may run out first. Then that was
-- reported, and nothing was written.
abbrev pub OnEdition : Option ℕ → ObjectState → (EditionModel → Type 0) → Output → Output → Status
    → Type 0
OnEdition number s Does o e status =
    ((is_some number ≡ true) × (o.new ≡ o.old) × EndsBy e faults.NoMemory status)
    ⊎ MatchOption (edition_of number s) (IsLate number (length s.batches) o e status) Does
