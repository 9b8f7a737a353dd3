use Rattle.std.proofs.Common.{◌≡◌, ◌++◌, ◌∙◌, ap, length, sym, subst, List, ℕ, Ok}
use Rattle.std.proofs.Common.{false}
use Rattle.osn_core.specs.Sequential.{ObjectState}
use Rattle.osn_days.specs.Rules.{newest_rules}
use Rattle.osn_files.specs.Journal.{after_object}
use Rattle.osn_files.specs.LoadedText.{IsOfVersion}
use Rattle.osn_files.specs.Turns.{in_turn}
use Rattle.osn_files.specs.declared.fault.FileFault.{FileFault}
use Rattle.osn_lines.specs.Lines.{lines}
use Rattle.osn_journal.specs.declared.followed_journal.FollowedJournal.{FollowedJournal}
use Rattle.osn_journal.specs.Follows.{IsRefused}
use Rattle.osn_journal.specs.FollowerInside.{IsJournalOf}
use Rattle.osn_journal.proofs.FollowedJournalLemmas.{IsJournalOf-more, never_read, refused_by}
use Rattle.osn_journal.proofs.FollowedJournalLemmas.{some_bytes}
use Rattle.osn_journal.proofs.FollowedJournalLemmas.{with_rule}
use Rattle.osn_journal.proofs.followed_journal.FollowedJournal.add.Goals as goal

pub returns-in-Ok-clause-ok : goal.returns-in-Ok-clause-ok
returns-in-Ok-clause-ok c = λ file h.
    let j = c.args.self.now in
    let step = after_object newest_rules in
    subst (λ (k : FollowedJournal). IsJournalOf j.limits (file ++ c.args.new_bytes.now) k)
    (sym c.take.ensures)
    (IsJournalOf-more j.limits file c.args.new_bytes.now j c.in-Ok.part h c.requires.lines
    (some_bytes c.args.new_bytes.now (sym c.is_empty.ensures ∙ c.if-is_empty.false))
    (subst (λ (s : ObjectState). in_turn step 1 j.version s (lines c.args.new_bytes.now)
    ≡ Ok c.in-Ok.part.object) c.replace-object.ensures.value
    (subst (λ (l : List ℕ). in_turn step 1 j.version c.replace-object.result (lines l)
    ≡ Ok c.in-Ok.part.object) c.new-2.ensures c.in-Ok.ensures.file.made))
    (c.in-Ok.ensures.count ∙ ap (λ l. length (lines l)) c.new-2.ensures)
    (λ none. subst (λ (l : List ℕ). IsOfVersion c.in-Ok.part.version (lines l)) c.new-2.ensures
    (c.in-Ok.ensures.head none))
    c.in-Ok.ensures.same)

pub returns-in-Err-clause-err : goal.returns-in-Err-clause-err
returns-in-Err-clause-err c = λ memory file h.
    let j = c.args.self.now in
    subst (λ (f : FileFault). IsRefused j.limits (file ++ c.args.new_bytes.now) f)
    (sym c.later.ensures)
    (refused_by j.limits file c.args.new_bytes.now j c.in-Err.fault _ _ h
    (some_bytes c.args.new_bytes.now (sym c.is_empty.ensures ∙ c.if-is_empty.false))
    (never_read c.in-Err.fault c.args.new_bytes.now _ false false c.new-2.ensures c.requires.few
    c.in-Err.ensures.file.reason)
    (with_rule c.in-Err.fault j.version c.replace-object.result j.object _ c.args.new_bytes.now _ _
    c.replace-object.ensures.value c.new-2.ensures c.in-Err.ensures.file.fault)
    (λ none. memory (c.later.ensures ∙ none)))
