-- What becomes of the file that is kept.
use Rattle.std.proofs.Common.{◌≡◌, ◌∙◌, ℕ, List, [], ◌++◌, Option, Some, None}
use Rattle.std.proofs.Common.{refl, sym, ap, subst, append-nil, append_assoc}
use Rattle.std.specs.Io.KnownBytes.{Appends}
use Rattle.osn_core.specs.Sequential.{ObjectState}
use Rattle.osn_lines.proofs.ByteLemmas.{Appends-nothing, Appends-then}
use Rattle.osn_folder.specs.declared.fault.KeptFileFault.{KeptFileFault}
use Rattle.osn_files.specs.JournalText.{journal_text_of}
use Rattle.osn_files.specs.LoadedText.{IsJournalOf}
use Rattle.osn_service.specs.Change.{change_refusal, changed}
use Rattle.osn_service.specs.declared.store.Change.{Change}
use Rattle.osn_service.specs.declared.store.Change.TheVariants.{Stage, Publish}
use Rattle.osn_journal.specs.KeptJournal.{IsOnDisk, Keeps, FileState, KeepsAll, KeepsUntil}
use Rattle.osn_journal.specs.ChangeInside.{change_line, GivesLawful, FailsAtLine, HasLine}
use Rattle.osn_journal.proofs.ChangeLemmas.{grows_by_line, loads_by_line, HasEdits-before}
use Rattle.osn_journal.proofs.JournalLemmas.{edits_more}

-- nothing changed
pub KeepsAll-nothing : (s : ObjectState) (file : FileState) → KeepsAll s s file file
KeepsAll-nothing s file = record {
  keeps = record {
    added = [];
    grows = λ version. sym (append-nil (journal_text_of version s));
    journal = Appends-nothing file.contents;
    loads = λ version limits text has h.
        subst (IsJournalOf version limits s) (sym (append-nil text)) h;
    disk = λ d. d;
  };
  sound = refl;
}

-- ---- one change

-- known bytes that grew
appended : (old new : Option (List ℕ)) (bytes more : List ℕ) → old ≡ Some bytes
    → Appends old new more → new ≡ Some (bytes ++ more)
appended old new bytes more known h =
    grown new (subst (λ (o : Option (List ℕ)). Appends o new more) known h)
  where
    grown : (new : Option (List ℕ)) → Appends (Some bytes) new more → new ≡ Some (bytes ++ more)
    grown None h = absurd h
    grown (Some all) h = ap Some h

-- whichever the change, its line was appended
appends : (change : Change) (line : List ℕ) (old new : FileState) → HasLine change line old new
    → Appends old.contents new.contents line
appends (Stage e) line old new h = h.journal
appends Publish line old new h = h.journal

-- whichever the change, the file has not failed
stays_sound : (change : Change) (line : List ℕ) (old new : FileState)
    → HasLine change line old new → new.fault ≡ old.fault
stays_sound (Stage e) line old new h = h.sound
stays_sound Publish line old new h = h.sound

-- what is on the disk: after a publish all, and after an edit what was
IsOnDisk-change : (s : ObjectState) (change : Change) (old new : FileState)
    → HasLine change (change_line change) old new → IsOnDisk s old.contents old.synced
    → IsOnDisk (changed s change) new.contents new.synced
IsOnDisk-change s (Stage e) old new h d =
    let line = change_line (Stage e) in
    record {
      on_disk = d.on_disk;
      front = d.front;
      rest = d.rest ++ line;
      disk = h.disk ∙ d.disk;
      held =
          appended old.contents new.contents (d.on_disk ++ d.rest) line d.held h.journal
          ∙ ap Some (append_assoc d.on_disk d.rest line);
      pending =
          sym (edits_more [] s.pending e)
          ∙ (ap (λ l. l ++ line) d.pending ∙ append_assoc d.front d.rest line);
    }
IsOnDisk-change s Publish old new h d =
    let line = change_line Publish in
    let all = (d.on_disk ++ d.rest) ++ line in
    let held : new.contents ≡ Some all =
    appended old.contents new.contents (d.on_disk ++ d.rest) line d.held h.journal in
    record {
      on_disk = all;
      front = [];
      rest = [];
      disk = h.disk ∙ held;
      held = held ∙ ap Some (sym (append-nil all));
      pending = refl;
    }

-- a change that was allowed, whose line the file has
pub KeepsAll-change : (s : ObjectState) (change : Change) (old new : FileState)
    → change_refusal s change ≡ None → GivesLawful change
    → HasLine change (change_line change) old new → KeepsAll s (changed s change) old new
KeepsAll-change s change old new lawful source h = record {
  keeps = record {
    added = change_line change;
    grows = λ version. grows_by_line version s change;
    journal = appends change (change_line change) old new h;
    loads = λ version limits text has j.
        loads_by_line version limits s change text lawful source has j;
    disk = IsOnDisk-change s change old new h;
  };
  sound = stays_sound change (change_line change) old new h;
}

-- ---- one change after others

-- that was kept too
pub KeepsAll-then : (s t : ObjectState) (change : Change) (a b c : FileState) → KeepsAll s t a b
    → KeepsAll t (changed t change) b c → KeepsAll s (changed t change) a c
KeepsAll-then s t change a b c before one =
    let u = changed t change in
    let h = before.keeps in
    let k = one.keeps in
    record {
      keeps = record {
        added = h.added ++ k.added;
        grows = λ version.
            k.grows version
            ∙ (ap (λ l. l ++ k.added) (h.grows version)
            ∙ append_assoc (journal_text_of version s) h.added k.added);
        journal =
            Appends-then a.contents b.contents c.contents h.added k.added h.journal k.journal;
        loads = λ version limits text has j.
            subst (IsJournalOf version limits u) (append_assoc text h.added k.added)
            (k.loads version limits (text ++ h.added) has
            (h.loads version limits text (HasEdits-before version t change has) j));
        disk = λ d. k.disk (h.disk d);
      };
      sound = one.sound ∙ before.sound;
    }

-- and one at whose line the file failed
pub KeepsUntil-from : (s t : ObjectState) (change : Change) (why : KeptFileFault)
    (a b c : FileState) → KeepsAll s t a b → FailsAtLine (change_line change) b c why
    → KeepsUntil s t (changed t change) a c why
KeepsUntil-from s t change why a b c before h = record {
  keeps = record {
    contents = b.contents;
    keeps =
        subst (λ (o : Option (List ℕ)). Keeps s t a.contents b.contents a.synced o) (sym h.disk)
        before.keeps;
    line = change_line change;
    next = λ version. grows_by_line version t change;
    bytes = h.bytes;
    journal = h.journal;
  };
  reason = h.reason;
}
