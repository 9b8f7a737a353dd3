use Rattle.std.proofs.Common.{◌≡◌, Ok, subst, sym}
use Rattle.osn_days.specs.Rules.{newest_rules}
use Rattle.osn_lines.specs.Lines.{lines}
use Rattle.osn_files.specs.Journal.{load}
use Rattle.osn_files.specs.JournalText.{journal_text_of}
use Rattle.osn_files.specs.LoadedText.{HasEdits}
use Rattle.osn_files.proofs.VersionFacts.{has_own_edits}
use Rattle.osn_files.proofs.written.journal_text.Goals as goal

pub returns-clause-law : goal.returns-clause-law
returns-clause-law c =
    let s = c.args.object.now in
    let is = c.version_for.ensures in
    subst (λ version. load newest_rules s.limits (lines (journal_text_of version s)) ≡ Ok s) is
    (c.journal_text_of.ensures.law
    (subst (λ version. HasEdits version s) (sym is) (has_own_edits s)))
