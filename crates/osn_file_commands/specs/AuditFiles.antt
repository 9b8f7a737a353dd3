-- What an audit of two files gives.
use Rattle.std.specs.Prelude.{◌≡◌, ◌⊎◌, ℕ, Bool, List, Option, Result, Ok, Err}
use Rattle.osn_days.specs.Rules.{newest_rules}
use Rattle.osn_register.specs.declared.limits.Limits.{Limits}
use Rattle.osn_core.specs.Sequential.{ObjectState}
use Rattle.osn_files.specs.declared.fault.FileFault.{FileFault}
use Rattle.osn_files.specs.declared.fault.Role.TheVariants.{Journal, Transcript}
use Rattle.osn_files.specs.Files.{ReadsFile}
use Rattle.osn_files.specs.Journal.{load}
use Rattle.osn_file_commands.specs.TranscriptAudit.{agreed_lines}

-- The journal is read first, as a call that loads it does. If that fails, its fault is the audit's,
-- and the transcript is not read. If it gives an object, the transcript is read up to the first
-- line that does not agree with it.
abbrev pub AuditsFiles : {R S : Type 0} → Limits → Result ℕ FileFault
    → (R → Option (List ℕ)) → (R → Bool) → R → R
    → (S → Option (List ℕ)) → (S → Bool) → S → S → Type 0
AuditsFiles limits result journal_remaining journal_failed journal_old journal_new
    transcript_remaining transcript_failed transcript_old transcript_new =
    ((fault : FileFault) × (result ≡ Err fault)
    × ReadsFile Journal (load newest_rules limits) (λ object. object) (Err fault)
    journal_remaining journal_failed journal_old journal_new
    × (transcript_new ≡ transcript_old))
    ⊎ ((object : ObjectState)
    × ReadsFile Journal (load newest_rules limits) (λ object. object) (Ok object)
    journal_remaining journal_failed journal_old journal_new
    × ReadsFile Transcript (agreed_lines object) (λ n. n) result
    transcript_remaining transcript_failed transcript_old transcript_new)
