use Rattle.std.proofs.Common.{ap, inr, sym, ◌∙◌}
use Rattle.osn_files.specs.JournalText.{journal_text_of}
use Rattle.osn_serve_commands.proofs.ResultLemmas.{any_bytes, if_err_made}
use Rattle.osn_serve_commands.proofs.upgrade.older_journal.Goals as goal

pub returns-in_err-text-clause-err : goal.returns-in_err-text-clause-err
returns-in_err-text-clause-err g c =
    if_err_made c.from_residual-in_err-text.result c.from_residual-in_err-text.ensures.1
    (λ e is. any_bytes _ _ (λ journal known. inr is))

pub returns-in_err-cut-clause-err : goal.returns-in_err-cut-clause-err
returns-in_err-cut-clause-err g c =
    if_err_made c.from_residual-in_err-cut.result c.from_residual-in_err-cut.ensures.1
    (λ e is. any_bytes _ _ (λ journal known. inr is))

pub returns-clause-ok : goal.returns-clause-ok
returns-clause-ok g c =
    let journal = c.in_ok-loaded_journal.loaded_journal in
    record {
      version = journal.version;
      object = journal.object;
      read = c.in_ok-loaded_journal.ensures.bytes;
      holds = c.in_ok-loaded_journal.ensures.ok.1;
      older = sym c.has_sources.ensures ∙ c.if-has_sources.false;
      anew = c.in_ok-text.ensures.text
          ∙ ap (λ v. journal_text_of v journal.object) c.newest.ensures;
      message = c.in_ok-cut.ensures journal.bytes.items c.in_ok-loaded_journal.ensures.ok.0;
    }
