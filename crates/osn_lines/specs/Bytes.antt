-- The bytes in memory that a source has left.
use Rattle.std.specs.Prelude.{ℕ, List}
use Rattle.osn_lines.specs.declared.bytes.Bytes.{Bytes}

abbrev pub rest_of : Bytes → List ℕ
rest_of b = b.rest.now
