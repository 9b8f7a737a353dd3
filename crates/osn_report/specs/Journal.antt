-- The object that a command begins with, and why it has no object to begin with.
use Rattle.std.specs.Prelude.{◌≡◌, ℕ, List, Option, Some, None}
use Rattle.osn_days.specs.Rules.{newest_rules}
use Rattle.osn_register.specs.declared.limits.Limits.{Limits}
use Rattle.osn_core.specs.Sequential.{ObjectState, empty_object}
use Rattle.osn_lines.specs.Streams.{Input}
use Rattle.osn_files.specs.Journal.{load}
use Rattle.osn_files.specs.declared.fault.FileFault.{FileFault}
use Rattle.osn_files.specs.declared.fault.Role.TheVariants.{Journal}
use Rattle.osn_report.specs.Files.{Makes, IsFileFault}

-- a journal makes this object under these limits, by the newest rules
abbrev pub MakesObject : Limits → Option (List ℕ) → ObjectState → Type 0
MakesObject limits = Makes (load newest_rules limits)

-- why a journal makes no object
abbrev pub MakesNoObject : Limits → Input → FileFault → Type 0
MakesNoObject limits = IsFileFault Journal (load newest_rules limits)

-- the object to begin with: that of the journal, if there is one, or else an empty one
abbrev pub Begins : Limits → Option Input → ObjectState → Type 0
Begins limits None s = s ≡ empty_object limits
Begins limits (Some journal) s = MakesObject limits journal.bytes s

-- why there is no object to begin with
abbrev pub BeginsNot : Limits → Option Input → FileFault → Type 0
BeginsNot limits None fault = ⊥
BeginsNot limits (Some journal) fault = MakesNoObject limits journal fault
