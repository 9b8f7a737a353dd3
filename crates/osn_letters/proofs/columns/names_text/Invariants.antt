use Rattle.std.proofs.Common.{◌≡◌, take}
use Rattle.csv.specs.Records.{fields_of}
use Rattle.osn_letters.specs.Columns.{names_text}
use Rattle.osn_letters.proofs.columns.names_text.Given as goal

-- the names so far
abbrev pub invariant-loop-index : goal.invariant-loop-index
invariant-loop-index l =
    l.names.items ≡ names_text (take l.index (fields_of l.header))
