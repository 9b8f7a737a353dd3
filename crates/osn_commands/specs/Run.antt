-- What a run of the program does, with the files of a folder.
use Rattle.std.specs.Prelude.{◌≡◌, ◌≢◌, ◌⊎◌, Bool, List, [], ◌∷◌, ◌++◌, ℕ}
use Rattle.std.specs.Prelude.{MatchResult, Option, unwrap_or}
use Rattle.clap.specs.Words.{Text, fault_of, IsAmong}
use Rattle.clap.specs.declared.error.kind.ErrorKind.{ErrorKind}
use Rattle.clap.specs.declared.error.kind.ErrorKind.TheVariants.{OutOfMemory, DisplayHelp}
use Rattle.clap.specs.declared.error.kind.ErrorKind.TheVariants.{DisplayVersion}
use Rattle.osn_register.specs.declared.limits.Limits.{Limits}
use Rattle.osn_folder.specs.Folder.{CannotOpen, IsCauseAt}
use Rattle.osn_folder.specs.declared.fault.OpenFailed.{OpenFailed}
use Rattle.osn_invocation.specs.Grammar.{command_line}
use Rattle.osn_invocation.specs.Invocation.{CommandModel, InvocationModel}
use Rattle.osn_invocation.specs.Invocation.{serving, replaying, working, printing}
use Rattle.osn_invocation.specs.Invocation.{auditing, converting, completing, reading_letters}
use Rattle.osn_invocation.specs.Invocation.{listing, comparing, checking, planning, publishing}
use Rattle.osn_invocation.specs.Invocation.{writing_text}
use Rattle.osn_invocation.specs.Invocation.{invocation_in}
use Rattle.osn_lines.specs.Streams.{Input, Output}
use Rattle.osn_file_commands.specs.Audit.{Audits, AuditFails}
use Rattle.osn_file_commands.specs.Replay.{Replays, ReplayFails}
use Rattle.osn_file_commands.specs.Transcript.{Transcribes, TranscribesNot}
use Rattle.osn_page_commands.specs.Conversion.{PrintsConversion}
use Rattle.osn_page_commands.specs.EditionList.{PrintsEditions}
use Rattle.osn_page_commands.specs.Page.{PageFails, RunsPage}
use Rattle.osn_report.specs.Folders.{Folders, ReadsOne, ReadsTwo}
use Rattle.osn_report.specs.Failure.{FailsOnOne, FailsOnTwo, IsNotRead}
use Rattle.osn_report.specs.Printing.{Prints, PrintsNoneAt, PrintsOrReports}
use Rattle.osn_report.specs.Messages.{EndsBy, ReportsLine, ReportsMisuse}
use Rattle.osn_report.specs.declared.fault.CommandFault.{CommandFault}
use Rattle.osn_report.specs.declared.fault.CommandFault.TheVariants.{NotOpened, NoMemory}
use Rattle.osn_report.specs.declared.status.Status.{Status}
use Rattle.osn_report.specs.declared.status.Status.TheVariants as statuses
use Rattle.osn_serve_commands.specs.InFolder.{RunsServing, opened_by}
use Rattle.osn_serve_commands.specs.Mode.{mode_by}
use Rattle.osn_commands.specs.Check.{PrintsCheck}
use Rattle.osn_commands.specs.CommandWords.{with_plain_help}
use Rattle.osn_commands.specs.Diff.{RunsDiff}
use Rattle.osn_commands.specs.InFolder.{PlansInFolder, RunsText}
use Rattle.osn_commands.specs.PublishFolder.{PublishesInFolder}
use Rattle.osn_commands.specs.Completions.{PrintsCompletions}
use Rattle.osn_commands.specs.Help.{help_on}
use Rattle.osn_commands.specs.Journal.{with_journal}
use Rattle.osn_commands.specs.LettersTable.{RunsTable}
use Rattle.osn_commands.specs.Limits.{limits_of_words}

-- ---- each command

-- a text like this was printed
abbrev pub PrintsSuch : (List ℕ → Type 0) → Output → Output → Status → Type 0
PrintsSuch IsText o e status = (text : List ℕ) × IsText text × PrintsOrReports text o e status

-- the command that is asked for was run under these limits, with the files that the arguments name.
-- This is what it wrote to standard output and to standard error, and its status. The facts say
-- whether a read can fail, and whether a file that is kept can stay uncut
abbrev pub Runs : Limits → CommandModel → (Bool → Type 0) → Type 0 → Folders → Input → Output
    → Output → Status → Type 0
Runs limits (serving journal save keep follow service) CanFail CanStay d i o e status =
    RunsServing limits journal save keep follow service CanFail d i o e status
Runs limits (replaying readers schedule) CanFail CanStay d i o e status =
    ReadsOne schedule CanFail d (λ file. PrintsSuch (Replays limits readers file) o e status)
Runs limits (working script questions) CanFail CanStay d i o e status =
    ReadsTwo script questions CanFail d
    (λ editor readers. PrintsSuch (Transcribes limits editor readers) o e status)
Runs limits (printing journal edition page) CanFail CanStay d i o e status =
    RunsPage limits journal edition page CanFail d i o e status
Runs limits (auditing journal transcript) CanFail CanStay d i o e status =
    ReadsTwo journal transcript CanFail d
    (λ edits answers. PrintsSuch (Audits limits edits answers) o e status)
Runs limits (converting calendar date) CanFail CanStay d i o e status =
    (d.after ≡ d.before) × PrintsConversion calendar date o e status
Runs limits (completing shell) CanFail CanStay d i o e status =
    (d.after ≡ d.before) × PrintsCompletions shell o e status
Runs limits (reading_letters journal table request) CanFail CanStay d i o e status =
    RunsTable limits journal table request CanFail d i o e status
Runs limits (listing journal) CanFail CanStay d i o e status =
    ReadsOne journal CanFail d (λ file. PrintsEditions limits journal file o e status)
Runs limits (comparing journal from to) CanFail CanStay d i o e status =
    RunsDiff limits journal from to CanFail d o e status
Runs limits (writing_text journal edition code) CanFail CanStay d i o e status =
    RunsText limits journal edition code CanFail d o e status
Runs limits (checking text) CanFail CanStay d i o e status =
    ReadsOne text CanFail d (λ file. PrintsCheck limits text file o e status)
Runs limits (planning journal text strict) CanFail CanStay d i o e status =
    PlansInFolder limits journal text strict CanFail d o e status
Runs limits (publishing journal text onto_newest) CanFail CanStay d i o e status =
    PublishesInFolder limits journal text onto_newest CanFail CanStay d o e status

-- ---- why a command ended early

-- the file of a path could not be opened, by this cause, which the line says with the path
abbrev pub IsOpenFailure : List ℕ → Folders → List ℕ → CommandFault → Type 0
IsOpenFailure file d path fault =
    (path ≡ file)
    × ((cause : OpenFailed) × (fault ≡ NotOpened cause) × IsCauseAt d.before file cause)
    × CannotOpen (file ∷ []) d.before d.after

-- why the command that is asked for ended early, by this fault at the file of this path: nothing
-- was printed, and nothing was reported yet
abbrev pub Fails : Limits → CommandModel → (Bool → Type 0) → Folders → List ℕ → CommandFault
    → Type 0
Fails limits (serving journal save kept followed service) CanFail d path fault =
    IsNotRead (opened_by (mode_by service.upgrade kept followed journal save)) d path fault
Fails limits (replaying readers schedule) CanFail d path fault =
    FailsOnOne schedule CanFail d (ReplayFails readers) path fault
Fails limits (working script questions) CanFail d path fault =
    FailsOnTwo script questions CanFail d (TranscribesNot limits) path fault
Fails limits (printing journal edition page) CanFail d path fault =
    PageFails limits journal page CanFail d path fault
Fails limits (auditing journal transcript) CanFail d path fault =
    FailsOnTwo journal transcript CanFail d (AuditFails limits) path fault
Fails limits (converting calendar date) CanFail d path fault = ⊥
Fails limits (completing shell) CanFail d path fault = ⊥
Fails limits (reading_letters journal table request) CanFail d path fault =
    IsOpenFailure journal d path fault
Fails limits (listing journal) CanFail d path fault = IsOpenFailure journal d path fault
Fails limits (comparing journal from to) CanFail d path fault = IsOpenFailure journal d path fault
Fails limits (writing_text journal edition code) CanFail d path fault =
    IsOpenFailure journal d path fault
Fails limits (checking text) CanFail d path fault = IsOpenFailure text d path fault
Fails limits (planning journal text strict) CanFail d path fault =
    IsOpenFailure journal d path fault
Fails limits (publishing journal text onto_newest) CanFail d path fault =
    IsOpenFailure text d path fault

-- ---- a run

abbrev pub IsHelp : ErrorKind → Type 0
IsHelp kind = (kind ≡ DisplayHelp) ⊎ (kind ≡ DisplayVersion)

-- nothing was written, since memory ran out, which was reported
abbrev pub HasNoMemory : Output → Output → Status → Type 0
HasNoMemory o e status = (o.new ≡ o.old) × EndsBy e NoMemory status

-- a text was shown in place of a command: help or the version on standard output, or on standard
-- error what is wrong with the arguments, with this help after it
abbrev pub Shows : ErrorKind → List ℕ → Output → Output → Status → Type 0
Shows kind help o e status =
    (text : List ℕ)
    × ((IsHelp kind × Prints text o e status)
    ⊎ ((IsHelp kind → ⊥) × (o.new ≡ o.old) × ReportsLine e statuses.Misused (text ++ help) status))

-- help or an error of the arguments was shown, or memory ran out first
abbrev pub ShowsOrEnds : ErrorKind → List ℕ → Output → Output → Status → Type 0
ShowsOrEnds kind help o e status =
    HasNoMemory o e status ⊎ ((kind ≢ OutOfMemory) × Shows kind help o e status)

-- what is asked for was done under its limits; or it ended early, and it was reported why and at
-- which file
abbrev pub RunsUnder : Limits → CommandModel → (Bool → Type 0) → Type 0 → Folders → Input → Output
    → Output → Status → Type 0
RunsUnder limits command CanFail CanStay d i o e status =
    Runs limits command CanFail CanStay d i o e status
    ⊎ ((path : Text) × (fault : CommandFault) × Fails limits command CanFail d path fault
    × PrintsNoneAt path fault o e status)

-- what is asked for was done, or ended early, or the words of the limits are not limits
abbrev pub RunsInvocation : InvocationModel → (Bool → Type 0) → Type 0 → Folders → Input → Output
    → Output → Status → Type 0
RunsInvocation request CanFail CanStay d i o e status = MatchResult (limits_of_words request.limits)
    (λ limits. RunsUnder limits request.command CanFail CanStay d i o e status)
    (λ misuse. (d.after ≡ d.before) × (o.new ≡ o.old)
    × ReportsMisuse e misuse (unwrap_or request.limits []) status)

-- what a run does with these words, which mean the typed ones. If the grammar takes them it does
-- what they ask for. Otherwise it shows what is wrong, with the help for a common mistake, or help
-- that was asked for, by a kind that the grammar gives
abbrev pub RunsWords : List Text → List Text → (Bool → Type 0) → Type 0 → Folders → Input → Output
    → Output → Status → Type 0
RunsWords arguments args CanFail CanStay d i o e status =
    ((fault_of command_line args ≡ [])
    × RunsInvocation (invocation_in args) CanFail CanStay d i o e status)
    ⊎ ((d.after ≡ d.before) × (HasNoMemory o e status
    ⊎ ((kind : ErrorKind) × IsAmong kind (fault_of command_line args)
    × Shows kind (help_on kind arguments) o e status)))

-- what it does with the typed words: they may leave out the file of the journal, if this is the
-- default, or name it by an option, and `help --help` is `--help`
abbrev pub RunsArguments : Option Text → List Text → (Bool → Type 0) → Type 0 → Folders → Input
    → Output → Output → Status → Type 0
RunsArguments default arguments CanFail CanStay d i o e status =
    RunsWords arguments (with_journal default (with_plain_help arguments)) CanFail CanStay d i o e
    status
