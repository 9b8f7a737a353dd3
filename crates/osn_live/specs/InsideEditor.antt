-- How the editor keeps its state.
use Rattle.std.specs.Prelude.{◌≡◌, Some}
use Rattle.left_right.specs.Sides.{view}
use Rattle.osn_core.specs.Draft.{object_of, IsDraftOf}
use Rattle.osn_live.specs.declared.editor.Editor.TheInside.{Inside}
use Rattle.osn_live.specs.Running.{EditionState, EditorState, edition_of, origin_of}

-- the edition that was published last
abbrev pub last_edition : Inside → EditionState
last_edition e = edition_of e.draft.register.limits e.certificate

abbrev pub editor_in : Inside → EditorState
editor_in e = record {
  origin = origin_of (last_edition e);
  object = object_of e.draft e.certificate.batches;
}

-- readers are shown the last edition, and the draft is that of its batches
pub record IsEditing (e : Inside) : Type 0 where
  pub edition : e.copies.desk.shown.value ≡ last_edition e
  pub known : view e.copies.desk.place ≡ Some (origin_of (last_edition e))
  pub book : e.certificate.book ≡ e.history
  pub draft : IsDraftOf e.draft e.certificate.batches
