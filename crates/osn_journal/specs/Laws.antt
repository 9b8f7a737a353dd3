-- The lines by which a journal grows.
use Rattle.std.specs.Prelude.{◌≡◌, ℕ, List, ◌++◌, None}
use Rattle.osn_days.specs.Rules.{newest_rules}
use Rattle.osn_register.specs.declared.edit.Edit.{Edit}
use Rattle.osn_register.specs.Lawful.{source_given}
use Rattle.osn_register.specs.declared.limits.Limits.{Limits}
use Rattle.osn_core.specs.Sequential.{ObjectState, IsSound, with_pending, with_edition}
use Rattle.osn_request.specs.declared.version.Version.{Version}
use Rattle.osn_request.specs.Version.{newest_version, plain_version}
use Rattle.osn_files.specs.JournalText.{journal_text_of, version_for, edit_data, publish_data}
use Rattle.osn_files.specs.JournalText.{line_text}
use Rattle.osn_files.specs.LoadedText.{HasEdit, HasEdits, IsJournalOf, LoadsByLines}

-- An edit adds its line to the journal of an object, and a publish adds one, whichever version its
-- head says.
pub record GrowsByLines (version : Version) (s : ObjectState) : Type 0 where
  pub edit : (e : Edit) → journal_text_of version (with_pending s e)
      ≡ journal_text_of version s ++ line_text (edit_data e)
  pub publish : journal_text_of version (with_edition s)
      ≡ journal_text_of version s ++ line_text publish_data

-- What holds of all journals.
pub record JournalLaws : Type 0 where
  -- the journal of an object grows by the line of each change
  pub grows : (version : Version) (s : ObjectState) → GrowsByLines version s
  -- a text that is loaded as an object is loaded as the next one by the same line
  pub loads : (version : Version) (limits : Limits) (s : ObjectState) (text : List ℕ)
      → IsJournalOf version limits s text → LoadsByLines version limits s text
  -- the newest version has every edit
  pub newest : (e : Edit) → HasEdit newest_version e
  -- the plain version has every edit that gives no source
  pub plain : (e : Edit) → source_given e ≡ None → HasEdit plain_version e
  -- the version by which the journal of an object is written has its edits
  pub own : (s : ObjectState) → HasEdits (version_for s) s
  -- a journal of an object is loaded as that object, if its version has the edits
  pub written : (version : Version) (s : ObjectState) → IsSound newest_rules s
      → HasEdits version s → IsJournalOf version s.limits s (journal_text_of version s)

-- as a law: every journal grows by lines
unfoldable pub DoesEachJournalGrowByLines : Type 0
DoesEachJournalGrowByLines = JournalLaws
