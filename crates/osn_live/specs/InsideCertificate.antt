-- How a certificate keeps its state.
use Rattle.std.specs.Prelude.{◌≡◌, length}
use Rattle.osn_live.specs.declared.history.Certificate.TheInside.{Inside}
use Rattle.osn_live.specs.Certificate.{CertificateState}

abbrev pub certificate_in : Inside → CertificateState
certificate_in c = record { batches = c.seen.log; book = c.seen.book }

abbrev pub IsMeasured : Inside → Type 0
IsMeasured c = c.count ≡ length c.seen.log
