-- The words on what changed between two editions, beside the lines of a plan. This project's
-- profile.
use Rattle.std.specs.Prelude.{ℕ, ◌==◌, if◌then◌else◌, List, ◌++◌, codes}
use Rattle.std.specs.Fmt.{decimal}
use Rattle.osn_lines.specs.Streams.{Output}
use Rattle.osn_report.specs.Messages.{ReportsIfMade}
use Rattle.osn_report.specs.declared.status.Status.{Status}
use Rattle.osn_report.specs.declared.status.Status.TheVariants as statuses

-- from edition 1 to edition 3
abbrev pub span_words : ℕ → ℕ → List ℕ
span_words from to = codes " from edition "
    ++ (decimal from ++ (codes " to edition " ++ (decimal to ++ codes "\n")))

-- the last line of this many changes from one edition to another
unfoldable pub diff_end : ℕ → ℕ → ℕ → List ℕ
diff_end edits from to =
    if edits == 0 then codes "nothing changed" ++ span_words from to
    else (if edits == 1 then codes "1 edit" ++ span_words from to
    else decimal edits ++ (codes " edits" ++ span_words from to))

-- the lines on an edition that is named first and is later than the second one
unfoldable pub backward_lines : ℕ → ℕ → List ℕ
backward_lines from to = codes "oldstyle: edition "
    ++ (decimal from
    ++ (codes " is later than edition "
    ++ (decimal to ++ codes "\nhelp: write the earlier edition first\n")))

-- it was reported that the edition which is named first is the later one
abbrev pub ReportsBackward : ℕ → ℕ → Output → Status → Type 0
ReportsBackward from to e status =
    ReportsIfMade e statuses.Misused (backward_lines from to) status
