-- The parts of a service that keeps a file did what their contracts say.
use Rattle.std.proofs.Common.{◌≡◌, ◌==◌, ◌≤◌, ℕ, Bool, false}
use Rattle.std.proofs.Common.{List, [], ◌∷◌, length, take, Option, Some, Result, Ok, Err}
use Rattle.std.proofs.Common.{IfErr, refl, sym, ap, subst, inl, inr, arith, length-take}
use Rattle.osn_days.specs.Rules.{newest_rules}
use Rattle.osn_register.specs.declared.limits.Limits.{Limits}
use Rattle.osn_core.specs.Sequential.{ObjectState}
use Rattle.osn_lines.specs.Bytes.{rest_of}
use Rattle.osn_lines.specs.Lines.{lines}
use Rattle.osn_lines.specs.Streams.{Input}
use Rattle.osn_lines.specs.Whole.{WhyNotRead}
use Rattle.osn_lines.specs.declared.bytes.Bytes.{Bytes}
use Rattle.osn_lines.specs.declared.whole.ReadAllFault.{ReadAllFault}
use Rattle.osn_lines.specs.declared.whole.ReadAllFault.TheVariants as read_faults
use Rattle.osn_files.specs.Files.{ReadsFile}
use Rattle.osn_folder.specs.declared.fault.KeptFileFault.{KeptFileFault}
use Rattle.osn_request.specs.declared.version.Version.{Version}
use Rattle.osn_files.specs.Journal.{load}
use Rattle.osn_files.specs.LoadedText.{IsOfVersion}
use Rattle.osn_lines.specs.LastLineFeed.{ended_length}
use Rattle.osn_lines.proofs.EndedLemmas.{ended-le}
use Rattle.osn_files.specs.CountedPrefix.{IsCountedPrefix, by_last, last_line_of}
use Rattle.osn_files.specs.CountedPrefix.{whole_bytes, whole_length}
use Rattle.osn_files.specs.declared.fault.FileFault.{FileFault}
use Rattle.osn_files.specs.declared.fault.FileFault.TheVariants as file_faults
use Rattle.osn_files.specs.declared.fault.LineFault.{LineFault}
use Rattle.osn_files.specs.declared.fault.Role.TheVariants.{Journal}
use Rattle.osn_files.specs.declared.last_line.LastLine.{LastLine}
use Rattle.osn_files.specs.declared.last_line.LastLine.TheVariants.{Ended, LacksFeed, Unfinished}
use Rattle.osn_files.specs.declared.whole_lines.CountedPrefix.{CountedPrefix}
use Rattle.osn_journal.specs.KeptJournal.{FileState}
use Rattle.osn_report.proofs.FileLemmas.{file_fault}
use Rattle.osn_report.specs.Fault.{by_read}
use Rattle.osn_report.specs.Journal.{MakesNoObject}
use Rattle.osn_report.specs.declared.fault.CommandFault.{CommandFault}
use Rattle.osn_report.specs.declared.fault.CommandFault.TheVariants.{File}
use Rattle.osn_serve_commands.specs.Keep.{object_of, SaysVersion, HoldsNoObject, IsUnread}
use Rattle.osn_serve_commands.specs.KeepInside.{AreReadOf, IsHeldIn}
use Rattle.osn_serve_commands.proofs.ResultLemmas.{known_bytes}

-- ---- the object

-- if there are some bytes, the object that they make, or the failure, is that of loading them
pub some_loaded : (limits : Limits) (read bytes : List ℕ)
    (r : Result ObjectState (ℕ × LineFault)) → read ≡ bytes → (length bytes == 0) ≡ false
    → load newest_rules limits (lines read) ≡ r → object_of limits bytes ≡ r
some_loaded limits read [] r is some h = absurd (cc)
some_loaded limits read (b ∷ bs) r is some h =
    subst (λ l. load newest_rules limits (lines l) ≡ r) is h

-- the version of some bytes is the one that they say
pub some_said : (version : Version) (read bytes : List ℕ) → read ≡ bytes
    → (length bytes == 0) ≡ false → IsOfVersion version (lines read) → SaysVersion version bytes
some_said version read [] is some h = absurd (cc)
some_said version read (b ∷ bs) is some h = subst (λ l. IsOfVersion version (lines l)) is h

-- a source of known bytes, read through, that has not failed
abbrev source_of : List ℕ → List ℕ → Input
source_of read rest = record {
  bytes = Some read;
  rest = Some rest;
  unread_before = false;
  unread = false;
}

-- no object was loaded from the lines that count
pub not_loaded : (limits : Limits) (read bytes content rest : List ℕ) (why : FileFault)
    → read ≡ bytes → (length bytes == 0) ≡ false → bytes ≡ whole_bytes content
    → MakesNoObject limits (source_of read rest) why
    → IsUnread limits content false why
not_loaded limits read bytes content rest (file_faults.BadLine role line why) is some whole h = (
  h.0,
  subst (λ l. object_of limits l ≡ Err (line, why)) whole
      (some_loaded limits read bytes (Err (line, why)) is some h.1),
)
not_loaded limits read bytes content rest file_faults.ReadFault is some whole (spared, inl h) =
    inl h
not_loaded limits read bytes content rest file_faults.ReadFault is some whole (spared, inr h) =
    inr (omega (
      arith,
      h,
      ap length is,
      ap length whole,
      length-take (whole_length content)
          content,
    ))
not_loaded limits read bytes content rest file_faults.NoMemory is some whole h = tt

-- if a reader of the whole lines of a file refuses them, the file makes no object, by that fault
pub object_refused : {T : Type 0} (limits : Limits) (lines : List ℕ) (view : T → ObjectState)
    (r : Result T FileFault) (old new : Bytes) → rest_of old ≡ lines → (length lines == 0) ≡ false
    → ReadsFile Journal (load newest_rules limits) view r (λ b. Some (rest_of b)) (λ _. false) old
    new
    → IfErr r (λ why. (content : List ℕ) → lines ≡ whole_bytes content
    → IsUnread limits content false why)
object_refused limits lines view (Ok x) old new is some h = tt
object_refused limits lines view (Err why) old new is some h = λ content whole.
    not_loaded limits (rest_of old) lines content (rest_of new) why is some whole (file_fault why h)

-- a file makes no object, whether a read of it failed or not
pub none_held : (limits : Limits) (content : List ℕ) (failed : Bool) (why : FileFault)
    → IsUnread limits content false why → IsUnread limits content failed why
none_held limits content failed (file_faults.BadLine role line why) h = h
none_held limits content failed file_faults.ReadFault (inl h) = absurd (cc)
none_held limits content failed file_faults.ReadFault (inr h) = inr h
none_held limits content failed file_faults.NoMemory h = h

-- the fault itself says so
pub reports_unread : (limits : Limits) (content : List ℕ) (failed : Bool) (why : FileFault)
    (fault : CommandFault) → fault ≡ File why → IsUnread limits content failed why
    → HoldsNoObject limits content failed fault
reports_unread limits content failed why fault is h = inl (why, is, h)

-- the file was not read
pub not_read : (limits : Limits) (content : List ℕ) (before failed : Bool)
    (why : ReadAllFault) (fault : CommandFault) → fault ≡ by_read why
    → WhyNotRead why before failed (Some content) → HoldsNoObject limits content failed fault
not_read limits content before failed read_faults.NoMemory fault is h = inr is
not_read limits content before failed read_faults.ReadFault fault is h =
    inl (file_faults.ReadFault, is, h)

-- the bytes of the lines that count, of the bytes that were read
pub whole_read : (part : CountedPrefix) (read content : List ℕ) → read ≡ content
    → IsCountedPrefix part read → take part.bytes read ≡ whole_bytes content
whole_read part read content is whole =
    subst (λ l. take part.bytes read ≡ whole_bytes l) is
    (ap (λ (n : ℕ). take n read) whole.bytes)

-- the bytes of the lines that count are no more than were read
by_last_within : (last : LastLine) (ended all : ℕ) → ended ≤ all → by_last last ended all ≤ all
by_last_within Ended ended all h = h
by_last_within LacksFeed ended all h = omega arith
by_last_within Unfinished ended all h = h

pub whole_within : (part : CountedPrefix) (read : List ℕ) → IsCountedPrefix part read
    → part.bytes ≤ length read
whole_within part read whole =
    subst (λ (n : ℕ). n ≤ length read) (sym whole.bytes)
    (by_last_within (last_line_of read) (ended_length read) (length read) (ended-le read))

-- a file contains what the bytes do that were read of it
pub held_as_read : (limits : Limits) (input : Option (List ℕ)) (content bytes : List ℕ)
    (part : CountedPrefix) (version : Version) (s : ObjectState) → input ≡ Some content
    → AreReadOf input bytes → IsHeldIn limits bytes part version s
    → IsHeldIn limits content part version s
held_as_read limits input content bytes part version s known read h =
    subst (λ l. IsHeldIn limits l part version s)
    (known_bytes input content (λ l. bytes ≡ l) known read) h

-- a file that was made ready is so
abbrev file_state : Option (List ℕ) → Option (List ℕ) → Option KeptFileFault → FileState
file_state contents synced fault = record { contents = contents; synced = synced; fault = fault }

pub is_ready : (contents synced known disk : Option (List ℕ)) (fault before : Option KeptFileFault)
    → contents ≡ known → synced ≡ disk → fault ≡ before
    → file_state contents synced fault ≡ file_state known disk before
is_ready contents synced known disk fault before a b c = rw (a, b, c) refl
