-- The file that is kept while lines are served. The lines of changes follow what it held, and up to
-- the last publish all of it is on the disk.
use Rattle.std.specs.Prelude.{◌≡◌, ⊤, ℕ, false, List, ◌++◌, take, Option, Some, IfSome, Result}
use Rattle.std.specs.Io.KnownBytes.{Appends}
use Rattle.osn_register.specs.declared.limits.Limits.{Limits}
use Rattle.osn_core.specs.Sequential.{ObjectState}
use Rattle.osn_lines.specs.declared.fault.EndedEarly.{EndedEarly}
use Rattle.osn_lines.specs.Lines.{lines}
use Rattle.osn_folder.specs.declared.fault.KeptFileFault.{KeptFileFault}
use Rattle.osn_request.specs.declared.version.Version.{Version}
use Rattle.osn_request.specs.declared.version.Version.TheVariants.{First, Second, Fourth}
use Rattle.osn_files.specs.JournalText.{journal_text_of, edits_text}
use Rattle.osn_files.specs.LoadedText.{HasEdits, IsJournalOf}
use Rattle.osn_service.specs.declared.fault.ServiceFault.{ServiceFault}
use Rattle.osn_service.specs.declared.rules.ServeRules.{ServeRules}
use Rattle.osn_service.specs.declared.service.Served.{Served}
use Rattle.osn_service.specs.Faults.{MatchService}
use Rattle.osn_service.specs.Served.{after_lines}

-- ---- what becomes of the file

-- The contents of a file are on the disk for sure, except some of its last bytes, which are the end
-- of the lines of an object's pending edits.
pub record IsOnDisk (s : ObjectState) (contents synced : Option (List ℕ)) : Type 0 where
  pub on_disk : List ℕ
  pub front : List ℕ
  pub rest : List ℕ
  pub disk : synced ≡ Some on_disk
  pub held : contents ≡ Some (on_disk ++ rest)
  pub pending : edits_text s.pending ≡ front ++ rest

-- The file was kept for an object that was s and is t.
pub record Keeps (s t : ObjectState) (old new old_synced new_synced : Option (List ℕ))
    : Type 0 where
  -- the lines of t's journal after those of s, under a head of the same version, were appended, if
  -- the old contents are known
  pub added : List ℕ
  pub grows : (version : Version) → journal_text_of version t ≡ journal_text_of version s ++ added
  pub journal : Appends old new added
  -- a text that is loaded as s is loaded as t with these lines, by a version that has the edits of
  -- t
  pub loads : (version : Version) (limits : Limits) (text : List ℕ) → HasEdits version t
      → IsJournalOf version limits s text → IsJournalOf version limits t (text ++ added)
  -- if all except lines of pending edits was on the disk, it still is
  pub disk : IsOnDisk s old old_synced → IsOnDisk t new new_synced

-- The file was kept for an object that was s and then u. It failed at the line of the change that
-- made it t, and a prefix of that line was appended. Up to u the file held `contents`.
pub record KeepsInPart (s u t : ObjectState) (old new old_synced new_synced : Option (List ℕ))
    : Type 0 where
  pub contents : Option (List ℕ)
  pub keeps : Keeps s u old contents old_synced new_synced
  pub line : List ℕ
  pub next : (version : Version) → journal_text_of version t ≡ journal_text_of version u ++ line
  pub bytes : ℕ
  pub journal : Appends contents new (take bytes line)

-- ---- which versions have the edits

-- a version has each edit that the rules take. The first lacks two styles, and the second each edit
-- that gives a source
abbrev pub HasWhatIsTaken : Version → ServeRules → Type 0
HasWhatIsTaken First rules = ⊥
HasWhatIsTaken Second rules = rules.takes_sources ≡ false
HasWhatIsTaken Fourth rules = ⊤

-- A version that has each edit that the rules take, and those of the object s, has those of t.
abbrev pub KeepsEdits : ServeRules → ObjectState → ObjectState → Type 0
KeepsEdits rules s t =
    (version : Version) → HasWhatIsTaken version rules → HasEdits version s → HasEdits version t

-- ---- whether the file failed

-- what is known of a file that is kept: its contents, what of them is on the disk for sure, and why
-- the last change that failed did so
pub record FileState : Type 0 where
  pub contents : Option (List ℕ)
  pub synced : Option (List ℕ)
  pub fault : Option KeptFileFault

-- what is known of a kept file, by its ghosts
abbrev pub file_of : {K : Type 0} → (K → Option (List ℕ)) → (K → Option (List ℕ))
    → (K → Option KeptFileFault) → K → FileState
file_of contents synced fault file = record {
  contents = contents file;
  synced = synced file;
  fault = fault file;
}

-- The file was kept for an object that was s and is t, and has not failed since.
pub record KeepsAll (s t : ObjectState) (old new : FileState) : Type 0 where
  pub keeps : Keeps s t old.contents new.contents old.synced new.synced
  pub sound : new.fault ≡ old.fault

-- The file was kept for an object that was s and then u, and failed for this reason at the change
-- that made it t.
pub record KeepsUntil (s u t : ObjectState) (old new : FileState) (why : KeptFileFault)
    : Type 0 where
  pub keeps : KeepsInPart s u t old.contents new.contents old.synced new.synced
  pub reason : new.fault ≡ Some why

-- ---- how it ends

-- The file was kept up to the first n lines, and failed at what the next one changed.
pub record KeepsFirst (rules : ServeRules) (s t : ObjectState) (input : Option (List ℕ))
    (old new : FileState) (n : ℕ) (why : KeptFileFault) : Type 0 where
  pub before : ObjectState
  pub stands : IfSome input (λ bytes. before ≡ after_lines rules s (take n (lines bytes)))
  pub keeps : KeepsUntil s before t old new why

-- The state of the kept file when answering lines ended.
abbrev pub KeepsFile : ServeRules → ObjectState → ObjectState → Option (List ℕ) → FileState
    → FileState → Result Served (EndedEarly (ServiceFault KeptFileFault)) → Type 0
KeepsFile rules s t input old new result =
    MatchService result (λ _. KeepsAll s t old new) (λ _. KeepsAll s t old new)
    (KeepsFirst rules s t input old new)
