-- The words on a plan and on its publish, beside the plan's own lines. This project's profile.
use Rattle.std.specs.Prelude.{◌==◌, if◌then◌else◌, ℕ, List, [], ◌++◌, codes}
use Rattle.std.specs.Fmt.{decimal}
use Rattle.osn_request.specs.Version.{version_number}
use Rattle.osn_request.specs.declared.version.Version.{Version}
use Rattle.osn_register.specs.Refusal.{refusal_name, refusal_number}
use Rattle.osn_register.specs.declared.refusal.Refusal.{Refusal}
use Rattle.osn_report.specs.Fault.{refusal_end}
use Rattle.osn_report.specs.Hint.{limit_hint}
use Rattle.osn_lines.specs.Escape.{escaped_text}

-- the last line of a plan of this many edits, the next edition having this number
abbrev pub plan_end : ℕ → ℕ → List ℕ
plan_end edits next =
    if edits == 0 then codes "nothing to change\n"
    else (if edits == 1
    then codes "1 edit: publish makes it edition " ++ (decimal next ++ codes "\n")
    else decimal edits
    ++ (codes " edits: publish makes them edition " ++ (decimal next ++ codes "\n")))

-- the line that the journal of a path is new
unfoldable pub new_line : List ℕ → List ℕ
new_line path = codes "note: " ++ (escaped_text path ++ codes " is a new journal\n")

-- the line that a journal is new, if it has no edition
abbrev pub new_journal_line : List ℕ → ℕ → List ℕ
new_journal_line path editions = if editions == 0 then new_line path else []

-- the last line of edits that were published as the edition of this number
abbrev pub published_line : ℕ → List ℕ
published_line edition = codes "published as edition " ++ (decimal edition ++ codes "\n")

-- the line on a publish of no edits, after this many editions
abbrev pub no_change_line : ℕ → List ℕ
no_change_line editions =
    codes "nothing to change: edition " ++ (decimal editions ++ codes " is the newest\n")

-- ---- what is written to standard error

abbrev pub edits_word : ℕ → List ℕ
edits_word edits = if edits == 1 then codes "edit" else codes "edits"

-- what to do with pending edits
abbrev pub advice : List ℕ
advice = codes ": publish what is pending with serve --keep and the line {\"op\":\"publish\"}, "
    ++ codes "or remove the lines after the last publish from the journal\n"

-- the line on a journal with this many pending edits, which this word names
unfoldable pub pending_text : ℕ → List ℕ → List ℕ → List ℕ
pending_text pending edits advice = codes "oldstyle: publish refuses a journal with "
    ++ (decimal pending ++ (codes " pending " ++ (edits ++ advice)))

-- the line on a journal with this many pending edits, with the advice above
abbrev pub pending_line : ℕ → List ℕ
pending_line pending = pending_text pending (edits_word pending) advice

-- the line on edits that a publish refuses
abbrev pub refused_edits_line : Refusal → List ℕ
refused_edits_line refusal = codes "oldstyle: publish refuses the edits: "
    ++ refusal_end (refusal_number refusal) (refusal_name refusal ++ limit_hint refusal)

-- the line on a journal of this version that a publish rewrites
abbrev pub anew_line : Version → List ℕ
anew_line version = codes "oldstyle: the journal is of version "
    ++ (decimal (version_number version)
    ++ codes ", which has no sources: publish saves it as version 4\n")

-- the lines on a journal of this path and version that a publish refuses
abbrev pub not_kept_line : List ℕ → Version → List ℕ
not_kept_line path version = codes "oldstyle: publish refuses a journal of version "
    ++ (decimal (version_number version)
    ++ (codes ": serve --keep with --upgrade saves it as version 4\n"
    ++ (codes "help: run oldstyle serve --keep "
    ++ (escaped_text path ++ codes " --upgrade < /dev/null, then publish\n"))))
