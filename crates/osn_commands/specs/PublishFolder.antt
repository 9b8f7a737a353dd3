-- What the command `publish` has done over the files of a folder: the journal, and the text.
use Rattle.std.specs.Prelude.{◌≡◌, ◌⊎◌, Bool, List, [], ◌∷◌, ℕ, Option, None}
use Rattle.osn_folder.specs.Folder.{Changes, IsKeptAt, Keeps, FolderModel}
use Rattle.osn_folder.specs.Folder.{Leaves, Opens}
use Rattle.osn_journal.specs.KeptJournal.{FileState}
use Rattle.osn_lines.specs.Streams.{Input, Output}
use Rattle.osn_register.specs.Plain.{RegisterModel}
use Rattle.osn_register.specs.declared.limits.Limits.{Limits}
use Rattle.osn_report.specs.Folders.{Folders, IsReadOf}
use Rattle.osn_report.specs.Messages.{ReportsIfMade}
use Rattle.osn_report.specs.declared.status.Status.{Status}
use Rattle.osn_report.specs.declared.status.Status.TheVariants as statuses
use Rattle.osn_serve_commands.specs.Keep.{ReportsText, first_output, later_output}
use Rattle.osn_serve_commands.specs.Upgrade.{CannotSaveAnew, SavesAnew}
use Rattle.osn_commands.specs.HindranceCause.{CannotKeepBy, unkept_line}
use Rattle.osn_commands.specs.Plan.{RefusesText}
use Rattle.osn_commands.specs.Publish.{EndsPublish, IsRewriteNeeded, PrintsReport}
use Rattle.osn_commands.specs.Since.{RequestModel}
use Rattle.osn_commands.specs.declared.hindrance_cause.KeepCause.{KeepCause}
use Rattle.osn_commands.specs.TextFile.{Says}

-- ---- a journal that is saved with its edition

-- a text on a last line that was not finished was written to standard error first, if there is one,
-- and then the text of the edition printed
pub record ReportsAndPrints (cut : Option (List ℕ)) (text : List ℕ) (o e : Output) (status : Status)
    : Type 0 where
  pub between : Option (List ℕ)
  pub failed : Bool
  pub held_back : Bool
  pub reports : ReportsText (first_output e between failed held_back) cut
  pub prints : PrintsReport text o (later_output e between failed) status

-- a journal was saved in the file of this path, which held these bytes, whole, and then the text of
-- its edition printed; or it isn't sure that it is saved, and nothing was printed
abbrev pub SavesEdition : List ℕ → List ℕ → List ℕ → List ℕ → Option (List ℕ) → Folders → Output
    → Output → Status → Type 0
SavesEdition path content journal text cut d o e status =
    ((o.new ≡ o.old) × CannotSaveAnew path content journal d.before d.after e status)
    ⊎ (SavesAnew path content journal d.before d.after × ReportsAndPrints cut text o e status)

-- ---- a journal that is there

-- what was published in a file that was kept, of which a source gave this. The folder has then what
-- that left in the file; or the file was given back as it was, and the rewritten journal is in its
-- place, if its version lacks the sources of an edit
abbrev pub PublishesKept : Limits → RequestModel → RegisterModel → Type 0 → FileState → Input
    → Folders → Output → Output → Status → Type 0
PublishesKept limits request target CanStay initial input d o e status =
    ((file : FileState) × EndsPublish CanStay limits request target initial file input o e status
    × Changes (Leaves request.journal file.contents) d.before d.after)
    ⊎ ((bytes : List ℕ) × (journal : List ℕ) × (text : List ℕ) × (cut : Option (List ℕ))
    × IsRewriteNeeded limits request target input.bytes bytes journal text cut
    × (released : Option FolderModel) × Changes (Leaves request.journal initial.contents) d.before
    released
    × SavesEdition request.journal bytes journal text cut
    (record { before = released; after = d.after }) o e status)

-- the file of the journal could not be kept, which was reported; or it is, no change of it had
-- failed before, and what the text says was published there
abbrev pub KeepsAndPublishes : Limits → RequestModel → RegisterModel → (Bool → Type 0) → Type 0
    → Folders → Output → Output → Status → Type 0
KeepsAndPublishes limits request target CanFail CanStay d o e status =
    ((cause : KeepCause) × CannotKeepBy request.journal d.before d.after cause × (o.new ≡ o.old)
    × ReportsIfMade e statuses.ReadFault (unkept_line request.journal cause) status)
    ⊎ ((between : Option FolderModel) × Changes (Keeps request.journal) d.before between
    × (initial : FileState) × IsKeptAt d.before request.journal initial.contents
    × (initial.fault ≡ None)
    × (input : Input) × (input.bytes ≡ initial.contents) × CanFail input.unread
    × PublishesKept limits request target CanStay initial input
    (record { before = between; after = d.after }) o e status)

-- ---- the command

-- The text was opened. It says no register, and nothing else was done; or it says one, and the
-- register was published in the folder.
pub record PublishesInFolder (limits : Limits) (path text_path : List ℕ) (onto_newest : Bool)
    (CanFail : Bool → Type 0) (CanStay : Type 0) (d : Folders) (o e : Output) (status : Status)
    : Type 0 where
  pub opened : Option FolderModel
  pub opens : Changes (Opens (text_path ∷ [])) d.before opened
  pub text : Input
  pub reads : IsReadOf d text_path CanFail text
  pub ended : ((d.after ≡ opened) × RefusesText limits text_path text o e status)
      ⊎ ((edition : Option ℕ) × (target : RegisterModel) × Says limits text.bytes edition target
      × KeepsAndPublishes limits (record {
        journal = path;
        text = text_path;
        edition = edition;
        onto_newest = onto_newest;
      }) target CanFail CanStay
      (record { before = opened; after = d.after }) o e status)
