-- Every journal grows by the line of each change.
use Rattle.std.proofs.Common.{◌≡◌, ◌∙◌, ℕ, List, [], ◌∷◌, ◌++◌, sym, ap, append_assoc, append-nil}
use Rattle.std.proofs.lemmas.List.{flat_map_more}
use Rattle.osn_register.specs.declared.edit.Edit.{Edit}
use Rattle.osn_core.specs.Sequential.{ObjectState}
use Rattle.osn_request.specs.declared.version.Version.{Version}
use Rattle.osn_files.specs.JournalText.{batches_text, batch_text, edits_text}
use Rattle.osn_files.specs.JournalText.{edit_data, publish_data, line_text}
use Rattle.osn_files.specs.Version.{head_data}
use Rattle.osn_files.proofs.LoadFacts.{loads_by_lines, IsJournalOf-written}
use Rattle.osn_files.proofs.VersionFacts.{newest_edit, has_own_edits}
use Rattle.osn_journal.specs.Laws.{GrowsByLines, DoesEachJournalGrowByLines}
use Rattle.osn_journal.proofs.VersionLemmas.{plain_edit}

-- the lines of edits after a text, with one edit more
pub edits_more : (text : List ℕ) (es : List Edit) (e : Edit)
    → (text ++ edits_text es) ++ line_text (edit_data e) ≡ text ++ edits_text (es ++ e ∷ [])
edits_more text es e = flat_map_more (λ e. line_text (edit_data e)) text es e

-- a change adds its line to the journal of an object
pub grows_by_lines : (version : Version) (s : ObjectState) → GrowsByLines version s
grows_by_lines version s =
    let head = line_text (head_data version) in
    let batches = batches_text s.batches in
    let edits = edits_text s.pending in
    let publish = line_text publish_data in
    record {
      edit = λ e.
          sym (append_assoc head (batches ++ edits) (line_text (edit_data e))
          ∙ ap (λ l. head ++ l) (edits_more batches s.pending e));
      publish =
          sym (append_assoc head (batches ++ edits) publish
          ∙ ap (λ l. head ++ l)
          (append_assoc batches edits publish
          ∙ (flat_map_more batch_text [] s.batches s.pending
          ∙ sym (append-nil (batches_text (s.batches ++ s.pending ∷ []))))));
    }

-- the laws, from these facts and those of loading
pub each_journal_grows_by_lines : DoesEachJournalGrowByLines
unfolding DoesEachJournalGrowByLines
each_journal_grows_by_lines = record {
  grows = grows_by_lines;
  loads = loads_by_lines;
  newest = newest_edit;
  plain = plain_edit;
  own = has_own_edits;
  written = IsJournalOf-written;
}
