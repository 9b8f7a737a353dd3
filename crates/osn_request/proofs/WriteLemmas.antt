-- The last step of a writing.
use Rattle.std.proofs.Common.{Result, OnOk}
use Rattle.std.proofs.lemmas.Result.{on_ok_weaker}

-- the last step of a writing, with what it gives
pub at_last : {T E P Q : Type 0} (r : Result T E) → OnOk r P → (P → Q) → OnOk r Q
at_last r h f = on_ok_weaker r f h
