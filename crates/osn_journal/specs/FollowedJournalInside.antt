-- What the lines of a part make of a journal that is followed.
use Rattle.std.specs.Prelude.{◌+◌, ℕ, Some, min}
use Rattle.osn_files.specs.declared.fault.FileFault.{FileFault}
use Rattle.osn_files.specs.declared.fault.FileFault.TheVariants.{NoMemory, ReadFault, BadLine}
use Rattle.osn_files.specs.declared.journal.JournalPart.{JournalPart}
use Rattle.osn_journal.specs.declared.followed_journal.FollowedJournal.{FollowedJournal}

-- numbers are given up to this one
abbrev pub up_to_most : ℕ → ℕ
up_to_most n = min n 18446744073709551615

-- the fault of a line after this many others
abbrev pub later : FileFault → ℕ → FileFault
later NoMemory lines = NoMemory
later ReadFault lines = ReadFault
later (BadLine role line why) lines = BadLine role (up_to_most (lines + line)) why

-- the journal with the lines of a part
abbrev pub journal_after : FollowedJournal → JournalPart → FollowedJournal
journal_after old part = record {
  limits = old.limits;
  version = Some part.version;
  lines = up_to_most (old.lines + part.lines);
  object = part.object;
}
