-- What the parts of a publish have done.
use Rattle.std.specs.Prelude.{◌≡◌, ◌⊎◌, ◌++◌, ℕ, Bool, true, List, [], length, take}
use Rattle.std.specs.Prelude.{Option, Some, None, IfSome}
use Rattle.std.specs.List.{All}
use Rattle.osn_core.specs.Sequential.{HasLawfulSource, ObjectState}
use Rattle.osn_files.specs.JournalText.{journal_text}
use Rattle.osn_files.specs.CountedPrefix.{IsCountedPrefix}
use Rattle.osn_files.specs.declared.whole_lines.CountedPrefix.{CountedPrefix}
use Rattle.osn_request.specs.declared.version.Version.{Version}
use Rattle.osn_journal.specs.KeptJournal.{FileState}
use Rattle.osn_register_text.specs.Plan.{IsPlan}
use Rattle.osn_register.specs.Plain.{RegisterModel}
use Rattle.osn_register.specs.declared.edit.Edit.{Edit}
use Rattle.osn_report.specs.declared.fault.CommandFault.{CommandFault}
use Rattle.osn_serve_commands.specs.Keep.{cut_text, unfinished_line}
use Rattle.osn_commands.specs.Edition.{appended_text, edition_refusal, needs_sources}
use Rattle.osn_commands.specs.Edition.{with_batch}
use Rattle.osn_commands.specs.Publish.{HoldsEdition, LosesEdition, published_text}
use Rattle.osn_commands.specs.Since.{RequestModel, hindering_edition, later_than}
use Rattle.osn_commands.specs.Text.{published}

-- some file of a kind may fail to be cut back
abbrev pub CanStay : {K : Type 0} → (K → Bool) → Type 0
CanStay {K} may_fail = (file : K) × (may_fail file ≡ true)

-- this part counts of what a source gave, if that is known
abbrev pub IsPartOf : CountedPrefix → Option (List ℕ) → Type 0
IsPartOf part input = IfSome input (IsCountedPrefix part)

-- lines are those of edits, to be appended to a file of which this part counts
abbrev pub AreLinesOf : CountedPrefix → List Edit → List ℕ → Type 0
AreLinesOf part edits lines =
    (content : List ℕ) → IsCountedPrefix part content → lines ≡ appended_text content edits

-- a file of this many bytes is as it was; or, if cutting it back may fail, a prefix of the lines is
-- after them
abbrev pub IsCutBack : Type 0 → ℕ → List ℕ → Option (List ℕ) → Option (List ℕ) → Type 0
IsCutBack Stays size lines old new =
    (content : List ℕ) → old ≡ Some content → length content ≡ size
    → (new ≡ Some content) ⊎ (Stays × (n : ℕ) × (new ≡ Some (content ++ take n lines)))

-- the lines of edits are in the file of which this part counts, or are not
abbrev pub IsWritten : CountedPrefix → List Edit → Option ℕ → FileState → FileState → Type 0
IsWritten part edits cut old new =
    (content : List ℕ) → old.contents ≡ Some content → IsCountedPrefix part content
    → HoldsEdition content edits old.fault cut new

abbrev pub IsUnwritten : Type 0 → CountedPrefix → List Edit → CommandFault → Option ℕ → FileState
    → FileState → Type 0
IsUnwritten Stays part edits fault cut old new =
    (content : List ℕ) → old.contents ≡ Some content → IsCountedPrefix part content
    → LosesEdition Stays content edits fault cut new

-- the text on the last line of what this part counts of, if that was not finished
abbrev pub IsCutOf : CountedPrefix → Option (List ℕ) → Type 0
IsCutOf part cut =
    (content : List ℕ) → IsCountedPrefix part content → cut ≡ cut_text (unfinished_line content)

-- The journal of a path that held these bytes is rewritten with these edits as its next edition.
pub record IsOlderOf (path content : List ℕ) (part : CountedPrefix) (version : Version)
    (s : ObjectState) (target : RegisterModel) (edits : List Edit) (bytes journal text : List ℕ)
    (cut : Option (List ℕ)) : Type 0 where
  pub same : bytes ≡ content
  pub needs : needs_sources version edits ≡ true
  pub lawful : edition_refusal s edits ≡ None
  pub sources : All HasLawfulSource edits
  pub anew : journal ≡ journal_text (with_batch s edits)
  pub printed : text ≡ published_text path s target edits
  pub message : IsCutOf part cut

-- How a journal of an older version would be rewritten for the text of a request. Nothing is
-- pending, and the journal has the edition of the text. The edits are those of a plan that no later
-- edition hinders.
pub record IsOlderPlan (request : RequestModel) (content : List ℕ) (part : CountedPrefix)
    (version : Version) (s : ObjectState) (target : RegisterModel) (bytes journal text : List ℕ)
    (cut : Option (List ℕ)) : Type 0 where
  pub pending : s.pending ≡ []
  pub had : later_than request.edition (length s.batches) ≡ None
  pub edits : List Edit
  pub plans : IsPlan s.limits target.territories (published s) edits
  pub free : hindering_edition request s.batches edits ≡ None
  pub older : IsOlderOf request.journal content part version s target edits bytes journal text cut
