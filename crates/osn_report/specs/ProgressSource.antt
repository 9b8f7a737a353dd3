-- The source that a `ProgressSource` watches.
use Rattle.osn_report.specs.declared.progress.ProgressSource.{ProgressSource}

-- the source that is watched
abbrev pub source_of : {S P : Type 0} → ProgressSource S P → S
source_of w = w.source
