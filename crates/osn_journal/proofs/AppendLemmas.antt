-- What became of a line, from the result of the file.
use Rattle.std.proofs.Common.{◌≡◌, ◌∙◌, ℕ, List, length, take, Option, Result, Ok, Err}
use Rattle.std.proofs.Common.{sym, subst, ap, MatchResult, OnOk, OnErr}
use Rattle.std.proofs.Math.Seq.{take-length}
use Rattle.std.proofs.lemmas.Result.{err_from_is_err_and}
use Rattle.std.specs.Io.KnownBytes.{Appends}
use Rattle.std.specs.Result.{IsErrAnd}
use Rattle.osn_core.specs.Sequential.{ObjectState}
use Rattle.osn_folder.specs.KeptFile.{fault_after}
use Rattle.osn_folder.specs.declared.fault.KeptFileFault.{KeptFileFault}
use Rattle.osn_service.specs.Change.{changed}
use Rattle.osn_service.specs.declared.store.Change.{Change}
use Rattle.osn_service.specs.declared.store.StoreFault.{StoreFault}
use Rattle.osn_service.specs.declared.store.StoreFault.TheVariants.{NotKept}
use Rattle.osn_journal.specs.KeptJournal.{FileState}
use Rattle.osn_journal.specs.ChangeInside.{change_line, IsAppended, IsSynced, FailsAtLine, HasLine}
use Rattle.osn_journal.specs.ChangeInside.{GivesLawful, ChangeResult}

-- a line was appended or not
pub appended_or_failed : {A : Type 0} (line : List ℕ) (r : Result A KeptFileFault)
    (old new : FileState) → OnOk r (Appends old.contents new.contents line)
    → OnErr r ((n : ℕ) × Appends old.contents new.contents (take n line))
    → new.synced ≡ old.synced → new.fault ≡ fault_after r old.fault
    → MatchResult r (λ _. IsAppended line old new) (FailsAtLine line old new)
appended_or_failed line (Ok done) old new ok err disk fault =
    record { journal = ok; disk = disk; sound = fault }
appended_or_failed line (Err why) old new ok err disk fault =
    record { bytes = err.0; journal = err.1; disk = disk; reason = fault }

-- a line was appended, and then the file was synced or not
pub synced_or_failed : {A : Type 0} (line : List ℕ) (r : Result A KeptFileFault)
    (a b c : FileState) → IsAppended line a b → c.contents ≡ b.contents
    → OnOk r (c.synced ≡ c.contents) → OnErr r (c.synced ≡ b.synced)
    → c.fault ≡ fault_after r b.fault
    → MatchResult r (λ _. IsSynced line a c) (FailsAtLine line a c)
synced_or_failed line (Ok done) a b c h same ok err fault = record {
  journal = subst (λ (o : Option (List ℕ)). Appends a.contents o line) (sym same) h.journal;
  disk = ok;
  sound = fault ∙ h.sound;
}
synced_or_failed line (Err why) a b c h same ok err fault = record {
  bytes = length line;
  journal =
      subst (Appends a.contents c.contents) (sym (take-length line))
      (subst (λ (o : Option (List ℕ)). Appends a.contents o line) (sym same) h.journal);
  disk = err ∙ h.disk;
  reason = fault;
}

-- a change was made, and the file's result for its line is the store's result
pub ChangeResult-result : {A : Type 0} (change : Change) (s t : ObjectState) (line : List ℕ)
    (r : Result A KeptFileFault) (outcome : Result A (StoreFault KeptFileFault))
    (old new : FileState) → t ≡ changed s change → GivesLawful change → line ≡ change_line change
    → MatchResult r (λ x. outcome ≡ Ok x) (λ why. IsErrAnd outcome (λ fault. fault ≡ NotKept why))
    → MatchResult r (λ _. HasLine change line old new) (FailsAtLine line old new)
    → ChangeResult change s t old new outcome
ChangeResult-result change s t line (Ok done) outcome old new made lawful is said h =
    subst (ChangeResult change s t old new) (sym said)
    (made, lawful, subst (λ l. HasLine change l old new) is h)
ChangeResult-result change s t line (Err why) outcome old new made lawful is said h =
    let fault = err_from_is_err_and outcome said in
    subst (ChangeResult change s t old new) (sym (fault.1 ∙ ap Err fault.2))
    (made, subst (λ l. FailsAtLine l old new why) is h)
