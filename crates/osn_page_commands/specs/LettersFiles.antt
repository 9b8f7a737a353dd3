-- What the command of letters has done over the files of a folder: the journal, and the table of
-- places.
use Rattle.std.specs.Prelude.{◌≡◌, ◌⊎◌, Bool, ℕ, List, [], ◌∷◌, Option, Some, None, IfSome, Ok}
use Rattle.std.specs.Prelude.{MatchResult}
use Rattle.osn_folder.specs.Folder.{CannotOpen, Changes, IsCauseAt, FolderModel, Opens}
use Rattle.osn_folder.specs.declared.fault.OpenFailed.{OpenFailed}
use Rattle.osn_invocation.specs.Invocation.{LettersModel}
use Rattle.osn_letters.specs.PlaceEntries.{PlaceEntry}
use Rattle.osn_letters.specs.Places.{places_in}
use Rattle.osn_letters.specs.declared.places_fault.PlacesFault.{PlacesFault}
use Rattle.osn_lines.specs.Streams.{Input, Output}
use Rattle.osn_register.specs.declared.limits.Limits.{Limits}
use Rattle.osn_page_commands.specs.Letters.{PrintsLetters, SettingsModel}
use Rattle.osn_page_commands.specs.Places.{IsPlacesFault, ReportsPlaces}
use Rattle.osn_page_commands.specs.TableWords.{settings_of_options}
use Rattle.osn_page_commands.specs.declared.letters.TableRules.{TableRules}
use Rattle.osn_report.specs.Folders.{Folders, IsReadOf, ReadsOne}
use Rattle.osn_core.specs.Edition.{edition_of_word}
use Rattle.osn_page_commands.specs.Editions.{ReportsEditionWord}
use Rattle.osn_page_commands.specs.DateHint.{ReportsWord}
use Rattle.osn_report.specs.Messages.{ReportsIfMade}
use Rattle.osn_report.specs.OpenFailure.{open_failure_line}
use Rattle.osn_report.specs.declared.status.Status.{Status}
use Rattle.osn_report.specs.declared.status.Status.TheVariants as statuses

-- what is asked for a table besides its columns, by the options and the number of the edition
abbrev pub rules_of : LettersModel → Option ℕ → TableRules
rules_of options number =
    record { edition = number; strict = options.strict; summary = options.summary }

-- the table of places of a path could not be opened, which was reported with the cause, and nothing
-- was written
abbrev pub MissesPlaces : List ℕ → Folders → Output → Output → Status → Type 0
MissesPlaces path d o e status =
    CannotOpen (path ∷ []) d.before d.after × (o.new ≡ o.old)
    × (cause : OpenFailed) × IsCauseAt d.before path cause
    × ReportsIfMade e statuses.ReadFault (open_failure_line path cause) status

-- it has a fault, which was reported, and nothing was written
abbrev pub RefusesPlaces : List ℕ → Input → Output → Output → Status → Type 0
RefusesPlaces path table o e status =
    (fault : PlacesFault) × IsPlacesFault table fault × (o.new ≡ o.old)
    × ReportsPlaces path e fault status

-- it has these entries, and letters were read by them
abbrev pub ReadsByEntries : Limits → Input → List ℕ → Input → SettingsModel → TableRules → Input
    → Output → Output → Status → Type 0
ReadsByEntries limits table name journal settings rules i o e status =
    (entries : List PlaceEntry) × IfSome table.bytes (λ text. places_in text ≡ Ok entries)
    × PrintsLetters limits name journal (record settings { places = entries }) rules i o e status

-- how the command with a table of places ends, once the journal was opened
abbrev pub PrintsByPlaces : Limits → List ℕ → Input → List ℕ → SettingsModel → TableRules
    → (Bool → Type 0) → Folders → Input → Output → Output → Status → Type 0
PrintsByPlaces limits name journal path settings rules CanFail d i o e status =
    MissesPlaces path d o e status
    ⊎ (Changes (Opens (path ∷ [])) d.before d.after
    × (table : Input) × IsReadOf d path CanFail table
    × (RefusesPlaces path table o e status
    ⊎ ReadsByEntries limits table name journal settings rules i o e status))

-- how the command ends, once the journal was opened, with a table of places or without
abbrev pub PrintsTable : Limits → List ℕ → Option (List ℕ) → SettingsModel → TableRules
    → (Bool → Type 0) → Folders → Input → Output → Output → Status → Type 0
PrintsTable limits journal None settings rules CanFail d i o e status = ReadsOne journal CanFail d
    (λ file. PrintsLetters limits journal file settings rules i o e status)
PrintsTable limits journal (Some path) settings rules CanFail d i o e status =
    (opened : Option FolderModel) × Changes (Opens (journal ∷ [])) d.before opened
    × (file : Input) × IsReadOf d journal CanFail file
    × PrintsByPlaces limits journal file path settings rules CanFail
    (record { before = opened; after = d.after }) i o e status

-- what the options ask for was done, by the edition of a number, or the newest one; or one of them
-- is wrong, which was reported, and no file was opened and nothing written
abbrev pub RunsNumbered : Limits → List ℕ → LettersModel → Option ℕ → (Bool → Type 0) → Folders
    → Input → Output → Output → Status → Type 0
RunsNumbered limits journal options number CanFail d i o e status = MatchResult
    (settings_of_options options)
    (λ settings. PrintsTable limits journal options.places settings (rules_of options number)
    CanFail d i o e status)
    (λ wrong. (d.after ≡ d.before) × (o.new ≡ o.old) × ReportsWord e wrong.0 wrong.1 status)

-- what the command has done, by the word of the edition, if there is one. If it is not the number
-- of an edition, this was reported, and no file was opened and nothing written
abbrev pub RunsLetters : Limits → List ℕ → LettersModel → (Bool → Type 0) → Folders → Input → Output
    → Output → Status → Type 0
RunsLetters limits journal options CanFail d i o e status = MatchResult
    (edition_of_word options.edition)
    (λ number. RunsNumbered limits journal options number CanFail d i o e status)
    (λ word. (d.after ≡ d.before) × (o.new ≡ o.old) × ReportsEditionWord word e status)
