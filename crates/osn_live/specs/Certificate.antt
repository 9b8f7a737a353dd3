-- The state of a certificate: the history of a book began with these batches.
use Rattle.std.specs.Prelude.{List, []}
use Rattle.logbook.specs.Pages.{Book}
use Rattle.osn_register.specs.declared.edit.Edit.{Edit}

pub record CertificateState : Type 0 where
  pub batches : List (List Edit)
  pub book : Book

abbrev pub none_of : Book → CertificateState
none_of b = record { batches = []; book = b }
