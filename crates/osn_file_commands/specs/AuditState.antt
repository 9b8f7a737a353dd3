-- The state of an audit: the object of the journal, and the editions of the readers' last replies.
use Rattle.std.specs.Prelude.{ℕ, List}
use Rattle.osn_core.specs.Sequential.{ObjectState}

pub record AuditState : Type 0 where
  pub object : ObjectState
  pub last : List ℕ
