-- What the command `editions` prints, or why it prints nothing. This project's profile.
use Rattle.std.specs.Prelude.{◌⊎◌, ◌+◌, ◌==◌, ℕ, Bool, if◌then◌else◌, List, [], ◌∷◌, ◌++◌}
use Rattle.std.specs.Prelude.{codes, length}
use Rattle.std.specs.Fmt.{decimal}
use Rattle.std.specs.List.{list_any}
use Rattle.std.specs.Str.{bytes_eq}
use Rattle.osn_core.specs.Sequential.{ObjectState}
use Rattle.osn_files.specs.declared.fault.FileFault.{FileFault}
use Rattle.osn_lines.specs.Streams.{Input, Output}
use Rattle.osn_pages.specs.Heading.{pending_line}
use Rattle.osn_register.specs.Lawful.{code_of}
use Rattle.osn_register.specs.declared.edit.Edit.{Edit}
use Rattle.osn_register.specs.declared.limits.Limits.{Limits}
use Rattle.osn_report.specs.Journal.{MakesObject, MakesNoObject}
use Rattle.osn_report.specs.Printing.{PrintsIfMade, PrintsNoneAt}
use Rattle.osn_report.specs.declared.fault.CommandFault.TheVariants.{File}
use Rattle.osn_report.specs.declared.status.Status.{Status}

-- two edits are of the same territory
abbrev pub same_code : Edit → Edit → Bool
same_code edit other = bytes_eq (code_of edit) (code_of other)

-- a blank and the code of an edit, unless one of the edits before has the same
abbrev pub new_code : List Edit → Edit → List ℕ
new_code before edit =
    if list_any (same_code edit) before then [] else codes " " ++ code_of edit

-- the codes of edits, each code once, after these edits
abbrev pub codes_after : List Edit → List Edit → List ℕ
codes_after before [] = []
codes_after before (edit ∷ edits) =
    new_code before edit ++ codes_after (before ++ edit ∷ []) edits

-- edition 2    line 6    2 edits
unfoldable pub edition_begin : ℕ → ℕ → ℕ → List ℕ
edition_begin number line edits = codes "edition "
    ++ (decimal number
    ++ (codes "    line "
    ++ (decimal line
    ++ (if edits == 1 then codes "    1 edit   "
    else codes "    " ++ (decimal edits ++ codes " edits   ")))))

-- the line of an edition, which the journal publishes on a line
abbrev pub edition_line : ℕ → ℕ → List Edit → List ℕ
edition_line number line edits =
    edition_begin number line (length edits) ++ (codes_after [] edits ++ codes "\n")

-- the lines on the editions after the one of this number, whose publish is this line of the
-- journal. Each edit has a line of the journal, and each publish has one
abbrev pub editions_lines : ℕ → ℕ → List (List Edit) → List ℕ
editions_lines number line [] = []
editions_lines number line (batch ∷ batches) =
    edition_line (number + 1) (line + (length batch + 1)) batch
    ++ editions_lines (number + 1) (line + (length batch + 1)) batches

-- the page: the head of a journal is its line 1
abbrev pub editions_page : ObjectState → List ℕ
editions_page s = editions_lines 0 1 s.batches ++ pending_line (length s.pending)

-- how `editions` ends over a journal of this path: the journal is refused; or it makes an object,
-- and its editions were printed
abbrev pub PrintsEditions : Limits → List ℕ → Input → Output → Output → Status → Type 0
PrintsEditions limits path journal o e status =
    ((fault : FileFault) × MakesNoObject limits journal fault
    × PrintsNoneAt path (File fault) o e status)
    ⊎ ((s : ObjectState) × MakesObject limits journal.bytes s
    × PrintsIfMade (editions_page s) o e status)
