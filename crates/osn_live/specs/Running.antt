-- The states of the editor, notes and readers of a running register. All of one register share its
-- origin: its limits, and the book of its history.
use Rattle.std.specs.Prelude.{◌≡◌, List, []}
use Rattle.osn_register.specs.declared.limits.Limits.{Limits}
use Rattle.osn_register.specs.declared.edit.Edit.{Edit}
use Rattle.osn_core.specs.Sequential.{ObjectState}
use Rattle.osn_live.specs.declared.protocol.Origin.{Origin}
use Rattle.osn_live.specs.Certificate.{CertificateState}

-- an edition that is shown to readers
pub record EditionState : Type 0 where
  pub limits : Limits
  pub certificate : CertificateState

abbrev pub edition_of : Limits → CertificateState → EditionState
edition_of limits certificate = record { limits = limits; certificate = certificate }

abbrev pub origin_of : EditionState → Origin
origin_of x = record { limits = x.limits; book = x.certificate.book }

-- a reader: its seen list, the batches that it has seen or learnt of
pub record ReaderState : Type 0 where
  pub origin : Origin
  pub seen : List (List Edit)

-- a note: all batches that were published when it was made
pub record NoteState : Type 0 where
  pub origin : Origin
  pub batches : List (List Edit)

-- an editor: the sequential object
pub record EditorState : Type 0 where
  pub origin : Origin
  pub object : ObjectState

abbrev pub note_of : Limits → CertificateState → NoteState
note_of limits certificate =
    record { origin = origin_of (edition_of limits certificate); batches = certificate.batches }

-- a reader of this editor that has seen nothing
pub record IsNew (editor : EditorState) (r : ReaderState) : Type 0 where
  pub origin : r.origin ≡ editor.origin
  pub seen : r.seen ≡ []
