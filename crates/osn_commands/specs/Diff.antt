-- What the command `diff` prints of two editions of a journal, or why it prints nothing.
use Rattle.std.specs.Prelude.{◌≡◌, ◌⊎◌, ◌++◌, ℕ, Bool, true, false, List, length, nat_lt}
use Rattle.std.specs.Prelude.{Option, Some, None, if◌then◌else◌, MatchResult, Result, Ok, Err}
use Rattle.osn_days.specs.Rules.{newest_rules}
use Rattle.osn_core.specs.Edition.{published_by}
use Rattle.osn_core.specs.Sequential.{ObjectState}
use Rattle.osn_core.specs.declared.edition.EditionFault.TheVariants.{TooLate}
use Rattle.osn_files.specs.declared.fault.FileFault.{FileFault}
use Rattle.osn_lines.specs.Streams.{Input, Output}
use Rattle.osn_page_commands.specs.Editions.{ReportsEditionFault, ReportsEditionWord}
use Rattle.osn_register.specs.Plain.{EntryModel}
use Rattle.osn_register.specs.declared.edit.Edit.{Edit}
use Rattle.osn_register.specs.declared.limits.Limits.{Limits}
use Rattle.osn_register_text.specs.Fault.{IsFault}
use Rattle.osn_register_text.specs.Plan.{IsPlan}
use Rattle.osn_register_text.specs.PlanPage.{plan_page}
use Rattle.osn_register_text.specs.declared.plan_fault.PlanFault.{PlanFault}
use Rattle.osn_report.specs.Folders.{Folders, ReadsOne}
use Rattle.osn_report.specs.Journal.{MakesObject, MakesNoObject}
use Rattle.osn_report.specs.Messages.{EndsBy}
use Rattle.osn_report.specs.Printing.{PrintsIfMade, PrintsNoneAt}
use Rattle.osn_report.specs.declared.fault.CommandFault.TheVariants.{File, NoMemory}
use Rattle.osn_report.specs.declared.status.Status.{Status}
use Rattle.osn_written.specs.WrittenDate.{number_of}
use Rattle.osn_commands.specs.DiffWords.{ReportsBackward, diff_end}
use Rattle.osn_commands.specs.PlanFault.{ReportsPlanFault}
use Rattle.osn_commands.specs.Text.{published}

-- the territories of the edition of a number: those of the first batches, as many as that number
abbrev pub territories_by : ℕ → ObjectState → List EntryModel
territories_by number s = published (published_by number s)

-- the lines of the edits from one edition to another
abbrev pub diff_text : List EntryModel → List EntryModel → List Edit → ℕ → ℕ → List ℕ
diff_text earlier later edits from to =
    plan_page newest_rules earlier later edits ++ diff_end (length edits) from to

-- the plan from the territories of one edition to those of another was printed; or there is no
-- plan, which was reported with the path of the journal
abbrev pub PrintsEdits : Limits → List EntryModel → List EntryModel → List ℕ → ℕ → ℕ → Output
    → Output → Status → Type 0
PrintsEdits limits earlier later path from to o e status =
    ((fault : PlanFault) × IsFault limits later earlier fault × (o.new ≡ o.old)
    × ReportsPlanFault path e fault status)
    ⊎ ((edits : List Edit) × IsPlan limits later earlier edits
    × PrintsIfMade (diff_text earlier later edits from to) o e status)

-- how the plan between two editions of an object is printed. Memory for their territories may run
-- out first, which is reported
abbrev pub PrintsBetween : ObjectState → List ℕ → ℕ → ℕ → Output → Output → Status → Type 0
PrintsBetween s path from to o e status =
    ((o.new ≡ o.old) × EndsBy e NoMemory status)
    ⊎ PrintsEdits s.limits (territories_by from s) (territories_by to s) path from to o e status

-- the first of two numbers that is not an edition of a journal with this many
abbrev pub missing_edition : ℕ → ℕ → ℕ → Option ℕ
missing_edition editions from to =
    if nat_lt editions from then Some from
    else (if nat_lt editions to then Some to else None)

-- the plan between two editions was printed, unless the object lacks the edition of a number, which
-- was reported
abbrev pub PrintsOrLacks : Option ℕ → ObjectState → List ℕ → ℕ → ℕ → Output → Output → Status
    → Type 0
PrintsOrLacks None s path from to o e status = PrintsBetween s path from to o e status
PrintsOrLacks (Some number) s path from to o e status =
    (o.new ≡ o.old) × ReportsEditionFault (TooLate number (length s.batches)) e status

-- how `diff` ends over a journal of this path. The journal is refused; or it makes an object, and
-- the plan between two of its editions was printed
abbrev pub PrintsDiff : Limits → List ℕ → Input → ℕ → ℕ → Output → Output → Status → Type 0
PrintsDiff limits path journal from to o e status =
    ((fault : FileFault) × MakesNoObject limits journal fault
    × PrintsNoneAt path (File fault) o e status)
    ⊎ ((s : ObjectState) × MakesObject limits journal.bytes s
    × PrintsOrLacks (missing_edition (length s.batches) from to) s path from to o e status)

-- ---- over the files of a folder

abbrev pub numbers_or_second : ℕ → List ℕ → Option ℕ → Result (ℕ × ℕ) (List ℕ)
numbers_or_second from second None = Err second
numbers_or_second from second (Some to) = Ok (from, to)

abbrev pub numbers_or_first : List ℕ → List ℕ → Option ℕ → Result (ℕ × ℕ) (List ℕ)
numbers_or_first first second None = Err first
numbers_or_first first second (Some from) = numbers_or_second from second (number_of second)

-- the numbers of two words, or the first word that is not a number
abbrev pub numbers_of : List ℕ → List ℕ → Result (ℕ × ℕ) (List ℕ)
numbers_of first second = numbers_or_first first second (number_of first)

-- how `diff` ends by the numbers of two editions. If the first one is later than the second, this
-- was reported, and no file was opened. Otherwise the journal was opened, and the plan between the
-- editions was printed
abbrev pub RunsInOrder : Bool → Limits → List ℕ → ℕ → ℕ → (Bool → Type 0) → Folders → Output
    → Output → Status → Type 0
RunsInOrder true limits journal from to CanFail d o e status =
    (d.after ≡ d.before) × (o.new ≡ o.old) × ReportsBackward from to e status
RunsInOrder false limits journal from to CanFail d o e status =
    ReadsOne journal CanFail d (λ file. PrintsDiff limits journal file from to o e status)

-- how `diff` ends by the words of two editions. If one of them is not a number, this was reported,
-- and no file was opened
abbrev pub RunsDiff : Limits → List ℕ → List ℕ → List ℕ → (Bool → Type 0) → Folders → Output
    → Output → Status → Type 0
RunsDiff limits journal first second CanFail d o e status = MatchResult (numbers_of first second)
    (λ numbers. RunsInOrder (nat_lt numbers.1 numbers.0) limits journal numbers.0 numbers.1 CanFail
    d o e status)
    (λ word. (d.after ≡ d.before) × (o.new ≡ o.old) × ReportsEditionWord word e status)
